-- Texts that are printed on a page, one after another.
use Rattle.std.proofs.Common.{◌≡◌, ◌∙◌, ap, sym, refl, ℕ, ◌+◌, ◌≤◌, List, [], ◌++◌, take, drop, length, length-append, length-drop, append_assoc, append-nil, arith, Bool, true, false, Option, Result, Ok, Err, is_err, OnOk, OnErr, subst}
use Rattle.std.proofs.lemmas.List.{drop-drop, take-append-le, drop-append-le, take_all, drop_all}
use Rattle.std.proofs.Math.Seq.{take-add}
use Rattle.std.specs.Io.KnownBytes.{append_known}
use Rattle.at_source.specs.Page.{Held, Writes, Printed}
use Rattle.at_source.specs.Whole.{GrewByPrefix}
use Rattle.at_source.proofs.Known.{append_known-append, append_known-nil}

-- Bytes that are sent past an empty page are written, or a prefix of them is and the page failed.
pub sent_past : {T E : Type 0} (o o' : Option (List ℕ)) (page page' : Held) (bytes : List ℕ) (result : Result T E) → page.failed ≡ false → page.bytes ≡ [] → page'.bytes ≡ [] → page'.failed ≡ is_err result
    → OnOk result (o' ≡ append_known o bytes) → OnErr result (GrewByPrefix o o' bytes) → Writes o page o' page' bytes
sent_past o o' page page' bytes (Ok x) was none none' is whole part =
    let all : page.bytes ++ bytes ≡ bytes = ap (λ l. l ++ bytes) none in
    record {
      sent = length bytes;
      within = omega (arith, ap length all);
      grew = whole ∙ ap (append_known o) (sym (take_all (length bytes) bytes (omega arith)) ∙ ap (take (length bytes)) (sym all));
      held = λ _. none' ∙ sym (drop_all (length bytes) bytes (omega arith)) ∙ ap (drop (length bytes)) (sym all);
      stopped = λ failed. absurd (cc (was, failed));
    }
sent_past o o' page page' bytes (Err e) was none none' is whole part =
    let all : page.bytes ++ bytes ≡ bytes = ap (λ l. l ++ bytes) none in
    record {
      sent = part.0;
      within = omega (arith, part.1, ap length all);
      grew = part.2 ∙ ap (λ l. append_known o (take part.0 l)) (sym all);
      held = λ no. absurd (cc (is, no));
      stopped = λ failed. absurd (cc (was, failed));
    }

-- nothing is sent once a write failed
pub stopped_same : {o o' : Option (List ℕ)} {page page' : Held} {bytes : List ℕ} → Writes o page o' page' bytes → page.failed ≡ true → o' ≡ o
stopped_same {o} {o'} {page} {page'} {bytes} writes was =
    writes.grew ∙ ap (λ n. append_known o (take n (page.bytes ++ bytes))) (writes.stopped was).0 ∙ append_known-nil o

-- what stands after a prefix, and then more, is what stands after that prefix of both
rest_on : (n : ℕ) (all more : List ℕ) → n ≤ length all → drop n all ++ more ≡ drop n (all ++ more)
rest_on n all more within = sym (drop-append-le n all more within)

then_writes_if : (failed : Bool) (a b c : Option (List ℕ)) (p q r : Held) (xs ys : List ℕ) → q.failed ≡ failed → Writes a p b q xs → Writes b q c r ys → Writes a p c r (xs ++ ys)
then_writes_if true a b c p q r xs ys is first second =
    let all = p.bytes ++ xs in
    let none = second.stopped is in
    let within : first.sent ≤ length all = first.within in
    let joined : all ++ ys ≡ p.bytes ++ (xs ++ ys) = append_assoc p.bytes xs ys in
    let same : c ≡ b = stopped_same second is in
    record {
      sent = first.sent;
      within = omega (arith, ap length joined, length-append all ys);
      grew = same ∙ first.grew ∙ ap (append_known a) (sym (take-append-le first.sent all ys within) ∙ ap (take first.sent) joined);
      held = λ no. absurd (cc (no, none.1));
      stopped = λ was. ((first.stopped was).0, none.1);
    }
then_writes_if false a b c p q r xs ys is first second =
    let all = p.bytes ++ xs in
    let n = first.sent in
    let m = second.sent in
    let within : n ≤ length all = first.within in
    let joined : all ++ ys ≡ p.bytes ++ (xs ++ ys) = append_assoc p.bytes xs ys in
    let rest : q.bytes ++ ys ≡ drop n (all ++ ys) = ap (λ l. l ++ ys) (first.held is) ∙ rest_on n all ys within in
    let both : take n all ++ take m (q.bytes ++ ys) ≡ take (n + m) (all ++ ys) =
    ap (λ l. take n all ++ take m l) rest ∙ ap (λ l. l ++ take m (drop n (all ++ ys))) (sym (take-append-le n all ys within)) ∙ sym (take-add n m (all ++ ys)) in
    record {
      sent = n + m;
      within = omega (arith, second.within, ap length rest, length-drop n (all ++ ys), length-append all ys, ap length joined);
      grew =
          second.grew ∙ ap (λ o. append_known o (take m (q.bytes ++ ys))) first.grew ∙ append_known-append a (take n all) (take m (q.bytes ++ ys))
          ∙ ap (append_known a) (both ∙ ap (take (n + m)) joined);
      held = λ no. second.held no ∙ ap (drop m) rest ∙ drop-drop m n (all ++ ys) ∙ ap (drop (n + m)) joined;
      stopped = λ was. absurd (cc (is, (first.stopped was).1));
    }

-- one text, and then another, is both
pub then_writes : {a b c : Option (List ℕ)} {p q r : Held} {xs ys : List ℕ} → Writes a p b q xs → Writes b q c r ys → Writes a p c r (xs ++ ys)
then_writes {a} {b} {c} {p} {q} {r} {xs} {ys} first second = then_writes_if q.failed a b c p q r xs ys refl first second

-- the same text in other words
pub writes_same : {a b : Option (List ℕ)} {p q : Held} {xs ys : List ℕ} → Writes a p b q xs → xs ≡ ys → Writes a p b q ys
writes_same {a} {b} {p} {q} writes same = subst (Writes a p b q) same writes

-- a text, and then nothing, is the text
pub then_nothing : {a b c : Option (List ℕ)} {p q r : Held} {xs : List ℕ} → Writes a p b q xs → Writes b q c r [] → Writes a p c r xs
then_nothing {a} {b} {c} {p} {q} {r} {xs} first second = writes_same (then_writes first second) (append-nil xs)

-- what was printed is written as far as a prefix
pub printed_prefix : (start written : Option (List ℕ)) (page : Held) (text : List ℕ) → Printed start written page text → GrewByPrefix start written text
printed_prefix start written page text printed = (printed.sent, printed.within, printed.grew)
