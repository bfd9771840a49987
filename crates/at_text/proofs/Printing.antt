-- Texts that are printed one after another.
use Rattle.std.proofs.Common.{◌≡◌, ◌∙◌, Bool, false, ap, sym, refl, ℕ, zero, suc, append_assoc, ◌+◌, ◌≤◌, List, [], ◌∷◌, ◌++◌, take, length, get_or, ◌<◌, arith, true, Option, subst, ◌⊎◌, inl, inr, slice_get, append-nil, decimal}
use Rattle.std.proofs.lemmas.List.{flat_map_more, take_more, take_all}
use Rattle.std.specs.List.{flat_map}
use Rattle.at_source.specs.Faults.{Rose}
use Rattle.at_source.specs.Page.{Held, Writes, Printed, empty_page}
use Rattle.at_source.proofs.Known.{append_known-nil}
use Rattle.at_source.proofs.Printing.{then_writes}
use Rattle.at_text.specs.Prints.{PenState, Prints, item_text}
use Rattle.at_model.specs.declared.last.ObjEnd.{ObjEnd}
use Rattle.at_script.specs.Parts.{ScriptParts}
use Rattle.at_text.specs.Last.{object_end_text, object_ends_text}

-- a rise of the count is one from below it, and to above it
risen_cause : (a b c : PenState) → a.faults ≤ b.faults → b.faults ≤ c.faults → (b.page.failed ≡ true → (a.page.failed ≡ true) ⊎ Rose a.faults b.faults) → (b.page.failed ≡ true) ⊎ Rose b.faults c.faults
    → (a.page.failed ≡ true) ⊎ Rose a.faults c.faults
risen_cause a b c first second cause (inl failed) =
    elim (cause failed) [ inl was ↦ inl was | inr rose ↦ inr (omega (arith, first, second, rose)) ]
risen_cause a b c first second cause (inr rose) = inr (omega (arith, first, second, rose))

-- the page between is a failed one only where the last is
unfailed_between : {a b c : PenState} {xs ys : List ℕ} (failed : Bool) → b.page.failed ≡ failed → Prints a b xs → Prints b c ys → c.page.failed ≡ a.page.failed → b.page.failed ≡ a.page.failed
unfailed_between true is first second same = is ∙ sym (second.writes.stopped is).1 ∙ same
unfailed_between {a} {b} {c} false is first second same = if_unfailed a.page.failed refl where
  if_unfailed : (was : Bool) → a.page.failed ≡ was → b.page.failed ≡ a.page.failed
  if_unfailed true was = absurd (cc (is, (first.writes.stopped was).1))
  if_unfailed false was = is ∙ sym was

-- one text, and then another, is both
pub then_prints : {a b c : PenState} {xs ys : List ℕ} → Prints a b xs → Prints b c ys → Prints a c (xs ++ ys)
then_prints {a} {b} {c} {xs} {ys} first second = record {
  sink = second.sink ∙ first.sink;
  writes = then_writes first.writes second.writes;
  no_fault = λ same.
      let between = unfailed_between b.page.failed refl first second same in
      second.no_fault (same ∙ sym between) ∙ first.no_fault between;
  cause = λ failed. risen_cause a b c first.later second.later first.cause (second.cause failed);
  later = omega (arith, first.later, second.later);
}

-- nothing is printed where nothing changes
pub prints_nothing : (a : PenState) → Prints a a []
prints_nothing a = record {
  sink = refl;
  writes = record {
    sent = 0;
    within = omega arith;
    grew = sym (append_known-nil a.written);
    held = λ _. sym (append-nil a.page.bytes);
    stopped = λ failed. (refl, failed);
  };
  no_fault = λ _. refl;
  cause = λ failed. inl failed;
  later = omega arith;
}

-- the same text in other words
pub prints_same : {a b : PenState} {xs ys : List ℕ} → xs ≡ ys → Prints a b xs → Prints a b ys
prints_same {a} {b} same prints = subst (Prints a b) same prints

-- the same number
pub prints_number : {a b : PenState} (m n : ℕ) → m ≡ n → Prints a b (decimal m) → Prints a b (decimal n)
prints_number m n same prints = prints_same (ap decimal same) prints

-- the texts of one more item
pub flat_map-take_more : {X : Type 0} (f : X → List ℕ) (xs : List X) (i : ℕ) (d : X) → i < length xs → flat_map f (take i xs) ++ f (get_or xs i d) ≡ flat_map f (take (i + 1) xs)
flat_map-take_more f xs i d within =
    flat_map_more f [] (take i xs) (get_or xs i d) ∙ ap (flat_map f) (sym (take_more xs i d within))

-- the texts of the items so far, and that of the next
pub then_item_at : {X : Type 0} {a b c : PenState} (f : X → List ℕ) (xs : List X) (i : ℕ) (d : X) → i < length xs → Prints a b (flat_map f (take i xs)) → Prints b c (f (get_or xs i d)) → Prints a c (flat_map f (take (i + 1) xs))
then_item_at f xs i d within before next = prints_same (flat_map-take_more f xs i d within) (then_prints before next)

pub then_item : {X : Type 0} {a b c : PenState} (f : X → List ℕ) (xs : List X) (i : ℕ) (x : X) → i < length xs → x ≡ get_or xs i x → Prints a b (flat_map f (take i xs)) → Prints b c (f x) → Prints a c (flat_map f (take (i + 1) xs))
then_item f xs i x within is before next = then_item_at f xs i x within before (prints_same (ap f is) next)

-- the texts of all items
pub all_items : {X : Type 0} {a b : PenState} (f : X → List ℕ) (xs : List X) (i : ℕ) → length xs ≤ i → Prints a b (flat_map f (take i xs)) → Prints a b (flat_map f xs)
all_items f xs i over prints = prints_same (ap (flat_map f) (take_all i xs over)) prints

-- the texts of the items so far, and that of the next, where there is one
pub flat_map-take_next : {X : Type 0} (f : X → List ℕ) (xs : List X) (i : ℕ) → flat_map f (take i xs) ++ item_text f (slice_get xs i) ≡ flat_map f (take (i + 1) xs)
flat_map-take_next f [] zero = refl
flat_map-take_next f [] (suc i) =
    let next : suc i + 1 ≡ suc (i + 1) = omega arith in
    ap (λ n. flat_map f (take n [])) (sym next)
flat_map-take_next f (x ∷ xs) zero = sym (append-nil (f x))
flat_map-take_next f (x ∷ xs) (suc i) =
    let next : suc i + 1 ≡ suc (i + 1) = omega arith in
    append_assoc (f x) (flat_map f (take i xs)) (item_text f (slice_get xs i))
    ∙ ap (λ l. f x ++ l) (flat_map-take_next f xs i) ∙ ap (λ n. flat_map f (take n (x ∷ xs))) (sym next)

pub then_next : {X : Type 0} {a b c : PenState} (f : X → List ℕ) (xs : List X) (i : ℕ) → Prints a b (flat_map f (take i xs)) → Prints b c (item_text f (slice_get xs i)) → Prints a c (flat_map f (take (i + 1) xs))
then_next f xs i before next = prints_same (flat_map-take_next f xs i) (then_prints before next)

-- the texts of the objects so far, and that of the next, where there is one
pub object_ends_more : (s : ScriptParts) (o : ℕ) (ends : List ObjEnd) (i : ℕ) → object_ends_text s o (take i ends) ++ item_text (object_end_text s (o + i)) (slice_get ends i) ≡ object_ends_text s o (take (i + 1) ends)
object_ends_more s o [] zero = refl
object_ends_more s o [] (suc i) =
    let next : suc i + 1 ≡ suc (i + 1) = omega arith in
    ap (λ n. object_ends_text s o (take n [])) (sym next)
object_ends_more s o (end ∷ ends) zero =
    let number : o + 0 ≡ o = omega arith in
    ap (λ n. object_end_text s n end) number ∙ sym (append-nil (object_end_text s o end))
object_ends_more s o (end ∷ ends) (suc i) =
    let number : o + suc i ≡ o + 1 + i = omega arith in
    let next : suc i + 1 ≡ suc (i + 1) = omega arith in
    let first = object_end_text s o end in
    ap (λ n. (first ++ object_ends_text s (o + 1) (take i ends)) ++ item_text (object_end_text s n) (slice_get ends i)) number
    ∙ append_assoc first (object_ends_text s (o + 1) (take i ends)) (item_text (object_end_text s (o + 1 + i)) (slice_get ends i))
    ∙ ap (λ l. first ++ l) (object_ends_more s (o + 1) ends i) ∙ ap (λ n. object_ends_text s o (take n (end ∷ ends))) (sym next)

pub then_object : {a b c : PenState} (s : ScriptParts) (ends : List ObjEnd) (i : ℕ) → Prints a b (object_ends_text s 0 (take i ends)) → Prints b c (item_text (object_end_text s i) (slice_get ends i)) → Prints a c (object_ends_text s 0 (take (i + 1) ends))
then_object s ends i before next =
    let number : i ≡ 0 + i = omega arith in
    prints_same (object_ends_more s 0 ends i) (then_prints before (prints_same (ap (λ n. item_text (object_end_text s n) (slice_get ends i)) number) next))

-- what a pen printed that began with an empty page
pub printed_on_empty : {a b : PenState} {text : List ℕ} (start written : Option (List ℕ)) (first page : Held) → a.written ≡ start → a.page ≡ first → first ≡ empty_page → written ≡ b.written → page ≡ b.page → Prints a b text → Printed start written page text
printed_on_empty {a} {b} {text} start written first page at_start at_first empty at_written at_page prints =
    let on_first = subst (λ (held : Held). Writes a.written held b.written b.page text) (at_first ∙ empty) prints.writes in
    let from_start = subst (λ (o : Option (List ℕ)). Writes o empty_page b.written b.page text) at_start on_first in
    let to_page = subst (λ (held : Held). Writes start empty_page b.written held text) (sym at_page) from_start in
    subst (λ (o : Option (List ℕ)). Writes start empty_page o page text) (sym at_written) to_page

-- texts that are printed one after another, and are this text
pub then_2 : {a b c : PenState} {t1 t2 text : List ℕ} → Prints a b t1 → Prints b c t2 → t1 ++ t2 ≡ text → Prints a c text
then_2 {a} {b} {c} {t1} {t2} {text} p1 p2 same = subst (Prints a c) same (then_prints p1 p2)

pub then_3 : {a b c d : PenState} {t1 t2 t3 text : List ℕ} → Prints a b t1 → Prints b c t2 → Prints c d t3 → t1 ++ t2 ++ t3 ≡ text → Prints a d text
then_3 {a} {b} {c} {d} {t1} {t2} {t3} {text} p1 p2 p3 same = subst (Prints a d) same (then_prints (then_prints p1 p2) p3)

pub then_4 : {a b c d e : PenState} {t1 t2 t3 t4 text : List ℕ} → Prints a b t1 → Prints b c t2 → Prints c d t3 → Prints d e t4 → t1 ++ t2 ++ t3 ++ t4 ≡ text → Prints a e text
then_4 {a} {b} {c} {d} {e} {t1} {t2} {t3} {t4} {text} p1 p2 p3 p4 same = subst (Prints a e) same (then_prints (then_prints (then_prints p1 p2) p3) p4)

pub then_5 : {a b c d e f : PenState} {t1 t2 t3 t4 t5 text : List ℕ} → Prints a b t1 → Prints b c t2 → Prints c d t3 → Prints d e t4 → Prints e f t5 → t1 ++ t2 ++ t3 ++ t4 ++ t5 ≡ text → Prints a f text
then_5 {a} {b} {c} {d} {e} {f} {t1} {t2} {t3} {t4} {t5} {text} p1 p2 p3 p4 p5 same = subst (Prints a f) same (then_prints (then_prints (then_prints (then_prints p1 p2) p3) p4) p5)

pub then_6 : {a b c d e f g : PenState} {t1 t2 t3 t4 t5 t6 text : List ℕ} → Prints a b t1 → Prints b c t2 → Prints c d t3 → Prints d e t4 → Prints e f t5 → Prints f g t6 → t1 ++ t2 ++ t3 ++ t4 ++ t5 ++ t6 ≡ text → Prints a g text
then_6 {a} {b} {c} {d} {e} {f} {g} {t1} {t2} {t3} {t4} {t5} {t6} {text} p1 p2 p3 p4 p5 p6 same = subst (Prints a g) same (then_prints (then_prints (then_prints (then_prints (then_prints p1 p2) p3) p4) p5) p6)

pub ruleset then_texts = (then_2, then_3, then_4, then_5, then_6)
