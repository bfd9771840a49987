-- Which sections have their locks, and which locks are held, after each step.
use Rattle.std.proofs.Common.{◌≡◌, ◌≢◌, ◌⊎◌, ⊎_elim, inl, inr, ℕ, Bool, true, false, true≢false, ◌==◌, ◌||◌, ◌&&◌, List, [], ◌∷◌, ◌++◌, map, eqb-true, eq-eqb, refl, sym, ap, ◌∙◌, subst}
use Rattle.std.specs.List.{list_all}
use Rattle.std.specs.Cmp.Derive.{both_true}
use Rattle.std.proofs.lemmas.Bool.{or_cases, or_left, or_right, and_parts}
use Rattle.std.proofs.lemmas.List.Folds.{list_any-append}
use Rattle.at_value.specs.declared.operation.Op as op
use Rattle.at_view.specs.declared.view.View.{View}
use Rattle.at_core.specs.declared.lock.Lock as lock
use Rattle.at_core.specs.declared.note.Note.{Note}
use Rattle.at_core.specs.declared.world.Pass.{Pass}
use Rattle.at_core.specs.Locks.{holds, HoldsNone}
use Rattle.at_core.specs.Passes.{notes, view}
use Rattle.at_core.specs.PlaceSteps.{place_loaded}
use Rattle.at_core.specs.Steps.{Moment, taken, missed, given}
use Rattle.at_core.proofs.LockLemmas.{lock_cases}
use Rattle.at_lock.specs.Waits.{IsTaken}
use Rattle.at_section.specs.Calls.{last_of}
use Rattle.at_section.specs.Deeds.{word_of, names, Held, held, turned, Every}
use Rattle.at_section.specs.Sections.{locks_of, named_locks, lost, after_give, after_load}
use Rattle.at_section.specs.Surfaces.{named, AreSettled, IsTop, AreHeld, IsReady, IsTaking, IsGiving}
use Rattle.at_section.proofs.Holdings.{waited_alone}
use Rattle.at_section.proofs.Standing.{word_one, every_map, turned_at, turned_else, held_taken, held_given, held_missed, held_loaded}
use Rattle.at_section.proofs.Steps.{free_same}

pub same_test : (x y : Bool) → (x ≡ true → y ≡ true) → (y ≡ true → x ≡ true) → x ≡ y
same_test true y f g = sym (f refl)
same_test false true f g = g refl
same_test false false f g = refl

-- Lists of locks that are all held

pub all_more : (before after : Held) (ls : List lock.Lock) → ((l : lock.Lock) → before l ≡ true → after l ≡ true) → list_all before ls ≡ true → list_all after ls ≡ true
all_more before after [] f e = refl
all_more before after (l ∷ ls) f e = let t = and_parts (before l) (list_all before ls) e in both_true (f l t.0) (all_more before after ls f t.1)

pub all_has : (before : Held) (ls : List lock.Lock) (l : lock.Lock) → list_all before ls ≡ true → names ls (word_of l) ≡ true → before l ≡ true
all_has before [] l e n = absurd (true≢false (sym n))
all_has before (k ∷ ls) l e n =
    let t = and_parts (before k) (list_all before ls) e in
    ⊎_elim
    (λ (here : (word_of k == word_of l) ≡ true). subst (λ (x : lock.Lock). before x ≡ true) (word_one k l (eqb-true (word_of k) (word_of l) here)) t.0)
    (λ (there : names ls (word_of l) ≡ true). all_has before ls l t.1 there)
    (or_cases (word_of k == word_of l) (names ls (word_of l)) n)

turned_less : (l : lock.Lock) (before : Held) (k : lock.Lock) → turned (word_of l) false before k ≡ true → (before k ≡ true) × (k ≢ l)
turned_less l before k e = ⊎_elim
    (λ (same : k ≡ l). absurd (true≢false (sym e ∙ turned_at l false before k same)))
    (λ (ne : k ≢ l). (sym (turned_else l false before k ne) ∙ e, ne))
    (lock_cases k l)

turned_more : (l : lock.Lock) (before : Held) (k : lock.Lock) → before k ≡ true → turned (word_of l) true before k ≡ true
turned_more l before k e = ⊎_elim (λ (same : k ≡ l). turned_at l true before k same) (λ (ne : k ≢ l). turned_else l true before k ne ∙ e) (lock_cases k l)

all_without : (before : Held) (ls : List lock.Lock) (l : lock.Lock) → names ls (word_of l) ≡ false → list_all before ls ≡ true → list_all (turned (word_of l) false before) ls ≡ true
all_without before [] l out e = refl
all_without before (k ∷ ls) l out e = by_test (all_without before ls l) (word_of k == word_of l) refl out
  where
    by_test : (names ls (word_of l) ≡ false → list_all before ls ≡ true → list_all (turned (word_of l) false before) ls ≡ true)
        → (b : Bool) → (word_of k == word_of l) ≡ b → (b || names ls (word_of l)) ≡ false → list_all (turned (word_of l) false before) (k ∷ ls) ≡ true
    by_test others true is no_name = absurd (true≢false no_name)
    by_test others false is no_name =
        let t = and_parts (before k) (list_all before ls) e in
        let ne : k ≢ l = λ same. true≢false (sym (eq-eqb (word_of k) (word_of l) (ap word_of same)) ∙ is) in
        both_true (turned_else l false before k ne ∙ t.0) (others no_name t.1)

-- Notes one by one

abbrev IsBacked : Held → Note → Type 0
IsBacked before n = n.active ≡ true → list_all before (locks_of n) ≡ true

abbrev IsSettled : Held → Note → Type 0
IsSettled before n = n.active ≡ list_all before (locks_of n)

pub every_over : {A : Type 0} (P Q : A → Type 0) (f : A → A) (xs : List A) → ((x : A) → P x → Q (f x)) → Every P xs → Every Q (map f xs)
every_over P Q f [] g a = tt
every_over P Q f (x ∷ xs) g a = (g x a.0, every_over P Q f xs g a.1)

pub every_last : {A : Type 0} (P : A → Type 0) (xs : List A) (x : A) → Every P (xs ++ x ∷ []) → Every P xs × P x
every_last P [] x a = (tt, a.0)
every_last P (y ∷ xs) x a = let b = every_last P xs x a.1 in ((a.0, b.0), b.1)

pub last_one : {A : Type 0} (xs ys : List A) (x y : A) → xs ++ x ∷ [] ≡ ys ++ y ∷ [] → (xs ≡ ys) × (x ≡ y)
last_one [] [] x y e = (refl, cc (e))
last_one [] (z ∷ []) x y e = absurd (cc (e))
last_one [] (z ∷ u ∷ ys) x y e = absurd (cc (e))
last_one (w ∷ []) [] x y e = absurd (cc (e))
last_one (w ∷ u ∷ xs) [] x y e = absurd (cc (e))
last_one (w ∷ xs) (z ∷ ys) x y e = let r = last_one xs ys x y (cc (e)) in let s : w ≡ z = cc (e) in ((λ i. s i ∷ r.0 i), r.1)

backed_given : (before : Held) (l : lock.Lock) (n : Note) → IsBacked before n → IsBacked (turned (word_of l) false before) (after_give l n)
backed_given before l n f = by_test (n.active && names (locks_of n) (word_of l)) refl
  where
    by_test : (b : Bool) → (n.active && names (locks_of n) (word_of l)) ≡ b → IsBacked (turned (word_of l) false before) (lost b n)
    by_test true is t = absurd (true≢false (sym t))
    by_test false is t = all_without before (locks_of n) l (sym (ap (λ b. b && names (locks_of n) (word_of l)) t) ∙ is) (f t)

settled_given : (before : Held) (l : lock.Lock) (n : Note) → IsSettled before n → IsSettled (turned (word_of l) false before) (after_give l n)
settled_given before l n e = by_test (n.active && names (locks_of n) (word_of l)) refl
  where
    off : Held
    off = turned (word_of l) false before

    fewer : list_all off (locks_of n) ≡ true → list_all before (locks_of n) ≡ true
    fewer t = all_more off before (locks_of n) (λ k x. (turned_less l before k x).0) t

    by_test : (b : Bool) → (n.active && names (locks_of n) (word_of l)) ≡ b → IsSettled off (lost b n)
    by_test true is = same_test false (list_all off (locks_of n)) (λ bad. absurd (true≢false (sym bad)))
        (λ t. absurd (true≢false (sym (all_has off (locks_of n) l t (and_parts n.active (names (locks_of n) (word_of l)) is).1) ∙ turned_at l false before l refl)))
    by_test false is = same_test n.active (list_all off (locks_of n))
        (λ t. all_without before (locks_of n) l (sym (ap (λ b. b && names (locks_of n) (word_of l)) t) ∙ is) (sym e ∙ t))
        (λ t. e ∙ fewer t)

settled_loaded : (before : Held) (n : Note) → IsBacked before n → IsSettled before (after_load before n)
settled_loaded before n f = same_test (n.active || list_all before (locks_of n)) (list_all before (locks_of n))
    (λ t. ⊎_elim f (λ (x : list_all before (locks_of n) ≡ true). x) (or_cases n.active (list_all before (locks_of n)) t))
    (λ t. or_right n.active (list_all before (locks_of n)) t)

settled_backed : (before : Held) (n : Note) → IsSettled before n → IsBacked before n
settled_backed before n e t = sym e ∙ t

-- Named locks

named_loaded : (before : Held) (l : lock.Lock) (ns : List Note) → named l ns ≡ true → named l (map (after_load before) ns) ≡ true
named_loaded before l [] e = e
named_loaded before l (n ∷ ns) e = ⊎_elim
    (λ (here : (n.active && names (locks_of n) (word_of l)) ≡ true).
    let t = and_parts n.active (names (locks_of n) (word_of l)) here in
    or_left ((n.active || list_all before (locks_of n)) && names (locks_of n) (word_of l)) (named l (map (after_load before) ns)) (both_true (or_left n.active (list_all before (locks_of n)) t.0) t.1))
    (λ (there : named l ns ≡ true). or_right ((n.active || list_all before (locks_of n)) && names (locks_of n) (word_of l)) (named l (map (after_load before) ns)) (named_loaded before l ns there))
    (or_cases (n.active && names (locks_of n) (word_of l)) (named l ns) e)

named_held : (before : Held) (l : lock.Lock) (ns : List Note) → Every (IsBacked before) ns → named l ns ≡ true → before l ≡ true
named_held before l [] a e = absurd (true≢false (sym e))
named_held before l (n ∷ ns) a e = ⊎_elim
    (λ (here : (n.active && names (locks_of n) (word_of l)) ≡ true). let t = and_parts n.active (names (locks_of n) (word_of l)) here in all_has before (locks_of n) l (a.0 t.0) t.1)
    (λ (there : named l ns ≡ true). named_held before l ns a.1 there)
    (or_cases (n.active && names (locks_of n) (word_of l)) (named l ns) e)

abbrev names_it : lock.Lock → Note → Bool
names_it l n = n.active && names (locks_of n) (word_of l)

pub named_last : (l : lock.Lock) (ns : List Note) (n : Note) → named l (ns ++ n ∷ []) ≡ true → (named l ns ≡ true) ⊎ (names_it l n ≡ true)
named_last l ns n e = ⊎_elim
    (λ (old : named l ns ≡ true). inl old)
    (λ (new : (names_it l n || false) ≡ true). inr (⊎_elim (λ (x : names_it l n ≡ true). x) (λ (bad : false ≡ true). absurd (true≢false (sym bad))) (or_cases (names_it l n) false new)))
    (or_cases (named l ns) (names_it l n || false) (sym (list_any-append (names_it l) ns (n ∷ [])) ∙ e))

named_old : (l : lock.Lock) (ns : List Note) (n : Note) → named l ns ≡ true → named l (ns ++ n ∷ []) ≡ true
named_old l ns n e = list_any-append (names_it l) ns (n ∷ []) ∙ or_left (named l ns) (names_it l n || false) e

named_new : (l : lock.Lock) (ns : List Note) (n : Note) → names_it l n ≡ true → named l (ns ++ n ∷ []) ≡ true
named_new l ns n e = list_any-append (names_it l) ns (n ∷ []) ∙ or_right (named l ns) (names_it l n || false) (or_left (names_it l n) false e)

-- Taking

to_every : (P : Held → Note → Type 0) (before after : Held) (ns ms : List Note) → after ≡ before → ms ≡ ns → Every (P before) ns → Every (P after) ms
to_every P before after ns ms e same a = subst (λ h. Every (P h) ms) (sym e) (subst (Every (P before)) (sym same) a)

pub taking_held : (p : Pass) (ls : List lock.Lock) → AreHeld (view p) (notes p) → IsReady p → IsTaking ls p
taking_held p ls h r = record {
  backed = every_map (IsSettled (held (view p))) (IsBacked (held (view p))) (notes p) (settled_backed (held (view p))) h.settled;
  owed = λ l u. or_left (named l (notes p)) (names ls (word_of l)) (sym (h.exact l) ∙ u);
  ready = r;
}

only : (x : Bool) → (x || false) ≡ true → x ≡ true
only x e = ⊎_elim (λ (y : x ≡ true). y) (λ (bad : false ≡ true). absurd (true≢false (sym bad))) (or_cases x false e)

pub taking_giving : (p : Pass) (ls : List lock.Lock) → IsGiving [] p → IsTaking ls p
taking_giving p ls g = record {
  backed = every_map (IsSettled (held (view p))) (IsBacked (held (view p))) (notes p) (settled_backed (held (view p))) g.settled;
  owed = λ l u. or_left (named l (notes p)) (names ls (word_of l)) (only (named l (notes p)) (g.owed l u));
  ready = g.ready;
}

pub taking_taken : (p q : Pass) (ls : List lock.Lock) (l : lock.Lock) (at : Moment) → names ls (word_of l) ≡ true → view q ≡ taken l (view p) at → notes q ≡ notes p → IsReady q → IsTaking ls p → IsTaking ls q
taking_taken p q ls l at it e same ready t =
    let now : held (view q) ≡ turned (word_of l) true (held (view p)) = ap held e ∙ held_taken l (view p) at in
    record {
      backed = to_every IsBacked (turned (word_of l) true (held (view p))) (held (view q)) (notes p) (notes q) now same
          (every_map (IsBacked (held (view p))) (IsBacked (turned (word_of l) true (held (view p)))) (notes p) (λ n f x. all_more (held (view p)) (turned (word_of l) true (held (view p))) (locks_of n) (turned_more l (held (view p))) (f x)) t.backed);
      owed = λ k u. ap (λ ns. named k ns || names ls (word_of k)) same ∙ ⊎_elim
          (λ (is : k ≡ l). or_right (named k (notes p)) (names ls (word_of k)) (ap (λ (x : lock.Lock). names ls (word_of x)) is ∙ it))
          (λ (ne : k ≢ l). t.owed k (sym (turned_else l true (held (view p)) k ne) ∙ (sym (ap (λ h. h k) now) ∙ u)))
          (lock_cases k l);
      ready = ready;
    }

pub taking_missed : (p q : Pass) (ls : List lock.Lock) (l : lock.Lock) (n : ℕ) → view q ≡ missed l (view p) n → notes q ≡ notes p → IsReady q → IsTaking ls p → IsTaking ls q
taking_missed p q ls l n e same ready t =
    let now : held (view q) ≡ held (view p) = ap held e ∙ held_missed l (view p) n in
    record {
      backed = to_every IsBacked (held (view p)) (held (view q)) (notes p) (notes q) now same t.backed;
      owed = λ k u. ap (λ ns. named k ns || names ls (word_of k)) same ∙ t.owed k (sym (ap (λ h. h k) now) ∙ u);
      ready = ready;
    }

-- every section that has its locks holds all: what stays true while all are given back
abbrev pub AreBacked : Pass → Type 0
AreBacked p = Every (IsBacked (held (view p))) (notes p)

pub backed_after_give : (p q : Pass) (l : lock.Lock) → view q ≡ given l (view p) → notes q ≡ map (after_give l) (notes p) → AreBacked p → AreBacked q
backed_after_give p q l e noted a = to_every IsBacked (turned (word_of l) false (held (view p))) (held (view q)) (map (after_give l) (notes p)) (notes q) (ap held e ∙ held_given l (view p)) noted
    (every_over (IsBacked (held (view p))) (IsBacked (turned (word_of l) false (held (view p)))) (after_give l) (notes p) (backed_given (held (view p)) l) a)

pub taking_none : (p : Pass) (ls : List lock.Lock) → HoldsNone (view p) → AreBacked p → IsReady p → IsTaking ls p
taking_none p ls none backed ready = record { backed = backed; owed = λ l u. absurd (true≢false (sym u ∙ none l)); ready = ready }

pub taking_waited : (p q : Pass) (ls : List lock.Lock) (l : lock.Lock) → names ls (word_of l) ≡ true → HoldsNone (view p) → IsTaken l (view p) (view q) → notes q ≡ notes p → IsReady q → AreBacked p → IsTaking ls q
taking_waited p q ls l it none t same ready backed = record {
  backed = subst (Every (IsBacked (held (view q)))) (sym same)
      (every_map (IsBacked (held (view p))) (IsBacked (held (view q))) (notes p) (λ n f x. all_more (held (view p)) (held (view q)) (locks_of n) (λ k u. absurd (true≢false (sym u ∙ none k))) (f x)) backed);
  owed = λ k u. or_right (named k (notes q)) (names ls (word_of k)) (⊎_elim
      (λ (is : k ≡ l). ap (λ (x : lock.Lock). names ls (word_of x)) is ∙ it)
      (λ (ne : k ≢ l). absurd (true≢false (sym u ∙ waited_alone (view p) (view q) l k none t ne)))
      (lock_cases k l));
  ready = ready;
}

-- Loading

pub giving_loaded : (p q : Pass) (ls : List lock.Lock) (at : List op.Op) → view q ≡ place_loaded (view p) at → notes q ≡ map (after_load (held (view p))) (notes p) → IsReady q → IsTaking ls p → IsGiving ls q
giving_loaded p q ls at e noted ready t =
    let now : held (view q) ≡ held (view p) = ap held e ∙ held_loaded (view p) at in
    record {
      settled = to_every IsSettled (held (view p)) (held (view q)) (map (after_load (held (view p))) (notes p)) (notes q) now noted
          (every_over (IsBacked (held (view p))) (IsSettled (held (view p))) (after_load (held (view p))) (notes p) (settled_loaded (held (view p))) t.backed);
      owed = λ k u. ap (λ ns. named k ns || names ls (word_of k)) noted ∙ ⊎_elim
          (λ (old : named k (notes p) ≡ true). or_left (named k (map (after_load (held (view p))) (notes p))) (names ls (word_of k)) (named_loaded (held (view p)) k (notes p) old))
          (λ (new : names ls (word_of k) ≡ true). or_right (named k (map (after_load (held (view p))) (notes p))) (names ls (word_of k)) new)
          (or_cases (named k (notes p)) (names ls (word_of k)) (t.owed k (sym (ap (λ h. h k) now) ∙ u)));
      ready = ready;
    }

-- between calls a load of the place leaves the notes
pub load_leaves : (before : Held) (ns : List Note) → Every (IsSettled before) ns → map (after_load before) ns ≡ ns
load_leaves before [] a = refl
load_leaves before (n ∷ ns) a =
    let e : (n.active || list_all before (locks_of n)) ≡ n.active = ap (λ b. n.active || b) (sym a.0) ∙ twice n.active in
    λ i. (record n { active = e i }) ∷ load_leaves before ns a.1 i
  where
    twice : (b : Bool) → (b || b) ≡ b
    twice true = refl
    twice false = refl

-- Giving back

-- a lock is released: it was given, or another section has it, or it isn't held
drop_one : (p : Pass) (l : lock.Lock) (ls : List lock.Lock) → IsGiving (l ∷ ls) p → (holds l (view p) ≡ true → named l (notes p) ≡ true) → IsGiving ls p
drop_one p l ls g f = record {
  settled = g.settled;
  owed = λ k u. ⊎_elim
      (λ (old : named k (notes p) ≡ true). or_left (named k (notes p)) (names ls (word_of k)) old)
      (λ (mine : ((word_of l == word_of k) || names ls (word_of k)) ≡ true). ⊎_elim
      (λ (it : (word_of l == word_of k) ≡ true).
      let same : l ≡ k = word_one l k (eqb-true (word_of l) (word_of k) it) in
      or_left (named k (notes p)) (names ls (word_of k)) (subst (λ (x : lock.Lock). holds x (view p) ≡ true → named x (notes p) ≡ true) same f u))
      (λ (other : names ls (word_of k) ≡ true). or_right (named k (notes p)) (names ls (word_of k)) other)
      (or_cases (word_of l == word_of k) (names ls (word_of k)) mine))
      (or_cases (named k (notes p)) ((word_of l == word_of k) || names ls (word_of k)) (g.owed k u));
  ready = g.ready;
}

pub released_out : (p : Pass) (l : lock.Lock) (ls : List lock.Lock) → holds l (view p) ≡ false → IsGiving (l ∷ ls) p → IsGiving ls p
released_out p l ls out g = drop_one p l ls g (λ u. absurd (true≢false (sym u ∙ out)))

pub released_named : (p : Pass) (l : lock.Lock) (ls : List lock.Lock) → named l (notes p) ≡ true → IsGiving (l ∷ ls) p → IsGiving ls p
released_named p l ls has g = drop_one p l ls g (λ _. has)

pub released_given : (p q : Pass) (l : lock.Lock) (ls : List lock.Lock) → named l (notes p) ≡ false → view q ≡ given l (view p) → notes q ≡ map (after_give l) (notes p) → IsReady q → IsGiving (l ∷ ls) p → IsGiving ls q
released_given p q l ls free e noted ready g =
    let now : held (view q) ≡ turned (word_of l) false (held (view p)) = ap held e ∙ held_given l (view p) in
    let same : notes q ≡ notes p = noted ∙ free_same l (notes p) free in
    record {
      settled = to_every IsSettled (turned (word_of l) false (held (view p))) (held (view q)) (map (after_give l) (notes p)) (notes q) now noted
          (every_over (IsSettled (held (view p))) (IsSettled (turned (word_of l) false (held (view p)))) (after_give l) (notes p) (settled_given (held (view p)) l) g.settled);
      owed = λ k u.
          let t = turned_less l (held (view p)) k (sym (ap (λ h. h k) now) ∙ u) in
          ap (λ ns. named k ns || names ls (word_of k)) same ∙ ⊎_elim
          (λ (old : named k (notes p) ≡ true). or_left (named k (notes p)) (names ls (word_of k)) old)
          (λ (mine : ((word_of l == word_of k) || names ls (word_of k)) ≡ true). ⊎_elim
          (λ (it : (word_of l == word_of k) ≡ true). absurd (t.1 (sym (word_one l k (eqb-true (word_of l) (word_of k) it)))))
          (λ (other : names ls (word_of k) ≡ true). or_right (named k (notes p)) (names ls (word_of k)) other)
          (or_cases (word_of l == word_of k) (names ls (word_of k)) mine))
          (or_cases (named k (notes p)) ((word_of l == word_of k) || names ls (word_of k)) (g.owed k t.0));
      ready = ready;
    }

-- the innermost note is taken off
pub giving_popped : (p q : Pass) (n : Note) → view q ≡ view p → notes p ≡ notes q ++ n ∷ [] → IsReady q → IsGiving [] p → IsGiving (locks_of n) q
giving_popped p q n same popped ready g = record {
  settled = subst (λ v. AreSettled v (notes q)) (sym same) (every_last (IsSettled (held (view p))) (notes q) n (subst (AreSettled (view p)) popped g.settled)).0;
  owed = λ l u. ⊎_elim
      (λ (old : named l (notes q) ≡ true). or_left (named l (notes q)) (names (locks_of n) (word_of l)) old)
      (λ (here : names_it l n ≡ true). or_right (named l (notes q)) (names (locks_of n) (word_of l)) (and_parts n.active (names (locks_of n) (word_of l)) here).1)
      (named_last l (notes q) n (sym (ap (named l) popped) ∙ only (named l (notes p)) (g.owed l (sym (ap (λ v. holds l v) same) ∙ u))));
  ready = ready;
}

-- Between calls

held_of : (v : View) (ns : List Note) → AreSettled v ns → ((l : lock.Lock) → holds l v ≡ true → named l ns ≡ true) → IsTop ns → AreHeld v ns
held_of v ns settled owed top = record {
  settled = settled;
  exact = λ l. same_test (holds l v) (named l ns) (owed l) (named_held (held v) l ns (every_map (IsSettled (held v)) (IsBacked (held v)) ns (settled_backed (held v)) settled));
  top = top;
}

top_of : (ns around : List Note) (n : Note) → ns ≡ around ++ n ∷ [] → n.active ≡ true → IsTop ns
top_of ns around n is active others m same = ap (λ x. x.active) (sym (last_one around others n m (sym is ∙ same)).1) ∙ active

pub top_none : (ns : List Note) → ns ≡ [] → IsTop ns
top_none ns none [] n same = absurd (cc (none, same))
top_none ns none (m ∷ around) n same = absurd (cc (none, same))

-- the section that begins
pub held_begun : (q r : Pass) (n : Note) → view r ≡ view q → notes r ≡ notes q ++ n ∷ [] → n.active ≡ true → list_all (held (view q)) (locks_of n) ≡ true → IsGiving (locks_of n) q → AreHeld (view r) (notes r)
held_begun q r n same pushed active has g = subst (λ v. AreHeld v (notes r)) (sym same) (subst (AreHeld (view q)) (sym pushed) (held_of (view q) (notes q ++ n ∷ [])
    (every_push (IsSettled (held (view q))) (notes q) n g.settled (active ∙ sym has))
    (λ l u. ⊎_elim
    (λ (old : named l (notes q) ≡ true). named_old l (notes q) n old)
    (λ (new : names (locks_of n) (word_of l) ≡ true). named_new l (notes q) n (both_true active new))
    (or_cases (named l (notes q)) (names (locks_of n) (word_of l)) (g.owed l u)))
    (top_of (notes q ++ n ∷ []) (notes q) n refl active)))
  where
    every_push : (P : Note → Type 0) (xs : List Note) (x : Note) → Every P xs → P x → Every P (xs ++ x ∷ [])
    every_push P [] x a b = (b, tt)
    every_push P (y ∷ xs) x a b = (a.0, every_push P xs x a.1 b)

-- nothing is to be taken again
pub held_stays : (p : Pass) → IsGiving [] p → IsTop (notes p) → AreHeld (view p) (notes p)
held_stays p g top = held_of (view p) (notes p) g.settled (λ l u. only (named l (notes p)) (g.owed l u)) top

pub held_active : (p : Pass) (around : List Note) (n : Note) → notes p ≡ around ++ n ∷ [] → n.active ≡ true → IsGiving [] p → AreHeld (view p) (notes p)
held_active p around n is active g = held_stays p g (top_of (notes p) around n is active)

-- what the innermost names
pub last_named : (ns : List Note) (n : Note) → last_of (named_locks (ns ++ n ∷ [])) ≡ locks_of n
last_named [] n = refl
last_named (m ∷ []) n = refl
last_named (m ∷ k ∷ ns) n = last_named (k ∷ ns) n

-- the innermost section has its locks again
pub held_resumed : (r : Pass) (ls : List lock.Lock) (around : List Note) (n : Note) → notes r ≡ around ++ n ∷ [] → locks_of n ≡ ls → list_all (held (view r)) ls ≡ true → IsGiving ls r → AreHeld (view r) (notes r)
held_resumed r ls around n is names_are has g =
    let settled : IsSettled (held (view r)) n = (every_last (IsSettled (held (view r))) around n (subst (AreSettled (view r)) is g.settled)).1 in
    let active : n.active ≡ true = settled ∙ (ap (list_all (held (view r))) names_are ∙ has) in
    held_of (view r) (notes r) g.settled
    (λ l u. ⊎_elim
    (λ (old : named l (notes r) ≡ true). old)
    (λ (mine : names ls (word_of l) ≡ true). ap (named l) is ∙ named_new l around n (both_true active (ap (λ ks. names ks (word_of l)) names_are ∙ mine)))
    (or_cases (named l (notes r)) (names ls (word_of l)) (g.owed l u)))
    (top_of (notes r) around n is active)
