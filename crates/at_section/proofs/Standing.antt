-- Each step leaves the notes what the trace says.
use Rattle.std.proofs.Common.{◌≡◌, ◌≢◌, ⊎_elim, ℕ, suc, ◌<◌, ◌≤◌, Bool, true, false, true≢false, ◌==◌, ◌||◌, ◌&&◌, List, [], ◌∷◌, ◌++◌, map, length, eq-eqb, ne_eqb, eqb-true, refl, sym, ap, ◌∙◌, subst, arith, append_assoc}
use Rattle.std.specs.Prelude.{Some, None, nat_lt, if◌then◌else◌}
use Rattle.std.specs.List.{list_all}
use Rattle.std.proofs.lemmas.Bool.{or_cases}
use Rattle.std.proofs.lemmas.Bool.Decides.{nat_tests}
use Rattle.at_value.specs.declared.operation.Op as op
use Rattle.at_view.specs.declared.mark.Mark.{Mark}
use Rattle.at_view.specs.declared.mark.StepKind.TheVariants as kinds
use Rattle.at_view.specs.declared.view.Hold.{Hold}
use Rattle.at_view.specs.declared.view.View.{View}
use Rattle.at_view.specs.Words.{place}
use Rattle.at_core.specs.declared.lock.Lock as lock
use Rattle.at_core.specs.declared.lock.Lock.TheVariants as locks
use Rattle.at_core.specs.declared.note.Note.{Note}
use Rattle.at_core.specs.declared.world.Pass.{Pass}
use Rattle.at_core.specs.Locks.{lock_word, hold_of, holds}
use Rattle.at_core.specs.PlaceSteps.{place_loaded}
use Rattle.at_core.specs.Steps.{Moment, mark, taken, missed, given}
use Rattle.at_core.proofs.LockLemmas.{lock_cases, hold_taken, hold_beside, hold_given, hold_kept, holds_missed, held_seen, hold_marked}
use Rattle.at_section.specs.Deeds.{other, deed_of, word_of, names, Held, held, turned, blocked_by, blocked_after, is_blocked, Every}
use Rattle.at_section.specs.Scores.{Score, given_back, scored, score, Start, opening, capped, most}
use Rattle.at_section.specs.Sections.{locks_of, lost, after_give, after_load, IsHeldSince, Stands, Pairs, Stay}
use Rattle.at_section.proofs.Scores.{score_more, blocked_more, kept_gives_none}

-- Words of locks

pub word_one : (l k : lock.Lock) → word_of l ≡ word_of k → l ≡ k
word_one locks.Types locks.Types e = refl
word_one locks.Types (locks.Row o) e = absurd (omega arith)
word_one (locks.Row o) locks.Types e = absurd (omega arith)
word_one (locks.Row o) (locks.Row p) e = ap (λ (n : ℕ). locks.Row n) (omega arith)

pub word_apart : (l k : lock.Lock) → l ≢ k → (word_of l == word_of k) ≡ false
word_apart l k ne = ne_eqb (word_of l) (word_of k) (λ e. ne (word_one l k e))

-- a lock that is named is one of these
pub named_one : (P : lock.Lock → Type 0) (ls : List lock.Lock) (l : lock.Lock) → names ls (word_of l) ≡ true → Every P ls → P l
named_one P [] l e a = absurd (true≢false (sym e))
named_one P (k ∷ ls) l e a = ⊎_elim
    (λ (here : (word_of k == word_of l) ≡ true). subst P (word_one k l (eqb-true (word_of k) (word_of l) here)) a.0)
    (λ (there : names ls (word_of l) ≡ true). named_one P ls l there a.1)
    (or_cases (word_of k == word_of l) (names ls (word_of l)) e)

-- one that isn't is none of them
pub each_apart : (P Q : lock.Lock → Type 0) (ls : List lock.Lock) (l : lock.Lock) → ((k : lock.Lock) → k ≢ l → P k → Q k) → names ls (word_of l) ≡ false → Every P ls → Every Q ls
each_apart P Q [] l f e a = tt
each_apart P Q (k ∷ ls) l f e a = by_test (λ out. each_apart P Q ls l f out a.1) (word_of k == word_of l) refl e
  where
    by_test : (names ls (word_of l) ≡ false → Every Q ls) → (b : Bool) → (word_of k == word_of l) ≡ b → (b || names ls (word_of l)) ≡ false → Every Q (k ∷ ls)
    by_test others true is out = absurd (true≢false out)
    by_test others false is out = (f k (λ same. true≢false (sym (eq-eqb (word_of k) (word_of l) (ap word_of same)) ∙ is)) a.0, others out)

pub every_map : {A : Type 0} (P Q : A → Type 0) (xs : List A) → ((x : A) → P x → Q x) → Every P xs → Every Q xs
every_map P Q [] f a = tt
every_map P Q (x ∷ xs) f a = (f x a.0, every_map P Q xs f a.1)

-- Which locks are held after each step

pub same_held : (before after : Held) → ((l : lock.Lock) → after l ≡ before l) → after ≡ before
same_held before after same = λ i l. same l i

pub turned_at : (l : lock.Lock) (now : Bool) (before : Held) (k : lock.Lock) → (k ≡ l) → turned (word_of l) now before k ≡ now
turned_at l now before k e = ap (λ (b : Bool). if b then now else before k) (eq-eqb (word_of k) (word_of l) (ap word_of e))

pub turned_else : (l : lock.Lock) (now : Bool) (before : Held) (k : lock.Lock) → k ≢ l → turned (word_of l) now before k ≡ before k
turned_else l now before k ne = ap (λ (b : Bool). if b then now else before k) (word_apart k l ne)

pub held_taken : (l : lock.Lock) (v : View) (at : Moment) → held (taken l v at) ≡ turned (word_of l) true (held v)
held_taken l v at = same_held (turned (word_of l) true (held v)) (held (taken l v at)) (λ k. ⊎_elim
    (λ (same : k ≡ l). subst (λ (x : lock.Lock). holds x (taken l v at) ≡ true) (sym same) (ap (λ h. h.held) (hold_taken l v at)) ∙ sym (turned_at l true (held v) k same))
    (λ (ne : k ≢ l). ap (λ h. h.held) (hold_beside k l v at ne) ∙ sym (turned_else l true (held v) k ne))
    (lock_cases k l))

pub held_given : (l : lock.Lock) (v : View) → held (given l v) ≡ turned (word_of l) false (held v)
held_given l v = same_held (turned (word_of l) false (held v)) (held (given l v)) (λ k. ⊎_elim
    (λ (same : k ≡ l). subst (λ (x : lock.Lock). holds x (given l v) ≡ false) (sym same) (ap (λ h. h.held) (hold_given l v)) ∙ sym (turned_at l false (held v) k same))
    (λ (ne : k ≢ l). ap (λ h. h.held) (hold_kept k l v ne) ∙ sym (turned_else l false (held v) k ne))
    (lock_cases k l))

pub held_missed : (l : lock.Lock) (v : View) (n : ℕ) → held (missed l v n) ≡ held v
held_missed l v n = same_held (held v) (held (missed l v n)) (λ k. holds_missed k l v n)

pub held_loaded : (v : View) (at : List op.Op) → held (place_loaded v at) ≡ held v
held_loaded v at = same_held (held v) (held (place_loaded v at)) (λ k. held_seen k v at)

pub hold_missed : (k l : lock.Lock) (v : View) (n : ℕ) → hold_of k (missed l v n) ≡ hold_of k v
hold_missed k l v n = hold_marked k v (mark kinds.LockTake (lock_word l) (Some n) (Some n))

pub hold_loaded : (k : lock.Lock) (v : View) (at : List op.Op) → hold_of k (place_loaded v at) ≡ hold_of k v
hold_loaded locks.Types v at = refl
hold_loaded (locks.Row o) v at = refl

-- whether the pass is blocked after one mark more
pub blocked_marked : (v w : View) (m : Mark) → w.trace ≡ v.trace ++ m ∷ [] → is_blocked w ≡ blocked_by (deed_of m.kind) m (is_blocked v)
blocked_marked v w m e = ap (blocked_after false) e ∙ blocked_more false v.trace (m ∷ [])

-- A step that adds one mark

-- the score that goes with a note
abbrev state : View → Note → ℕ → Bool → Score
state v n given blocked = record { held = held v; had = n.active; given = given; blocked = blocked; caused = true }

stands_step : (v w : View) (n n' : Note) (s : Start) (m : Mark) (given : ℕ) (a : Stands v n s) → w.trace ≡ v.trace ++ m ∷ [] → locks_of n' ≡ locks_of n
    → scored (locks_of n) (state v n a.given (is_blocked v)) (deed_of m.kind) m ≡ state w n' given (blocked_by (deed_of m.kind) m (is_blocked v))
    → n'.given ≡ capped given → (n'.given ≡ 0 → Every (IsHeldSince s.place w) (locks_of n)) → Stands w n' s
stands_step v w n n' s m given a e same z counted since = record {
  marks = a.marks ++ m ∷ [];
  trace = e ∙ (ap (λ t. t ++ m ∷ []) a.trace ∙ append_assoc s.trace a.marks (m ∷ []));
  given = given;
  scored = ap (λ ls. score ls (opening s) (a.marks ++ m ∷ [])) same
      ∙ (score_more (locks_of n) (opening s) a.marks (m ∷ []) ∙ (ap (λ x. scored (locks_of n) x (deed_of m.kind) m) a.scored ∙ (z ∙ ap (state w n' given) (sym (blocked_marked v w m e)))));
  counted = counted;
  since = λ none. subst (Every (IsHeldSince s.place w)) (sym same) (since none);
}

since_stays : (at : ℕ) (v w : View) (l : lock.Lock) → hold_of l w ≡ hold_of l v → IsHeldSince at v l → IsHeldSince at w l
since_stays at v w l e a = (ap (λ h. h.held) e ∙ a.0, subst (λ (h : Hold). h.entered ≤ at) (sym e) a.1)

each_since : (at : ℕ) (v w : View) (ls : List lock.Lock) → ((l : lock.Lock) → holds l v ≡ true → hold_of l w ≡ hold_of l v) → Every (IsHeldSince at v) ls → Every (IsHeldSince at w) ls
each_since at v w ls f a = every_map (IsHeldSince at v) (IsHeldSince at w) ls (λ l h. since_stays at v w l (f l h.0) h) a

-- The steps

pub stands_taken : (v : View) (n : Note) (s : Start) (l : lock.Lock) (at : Moment) → holds l v ≡ false → Stands v n s → Stands (taken l v at) n s
stands_taken v n s l at out a = stands_step v (taken l v at) n n s (mark kinds.LockTake (lock_word l) (Some 0) (Some (suc v.who.number))) a.given a refl refl
    (ap (λ h. record { held = h; had = n.active; given = a.given; blocked = false; caused = true }) (sym (held_taken l v at)))
    a.counted
    (λ none. each_since s.place v (taken l v at) (locks_of n) (λ k has. hold_beside k l v at (λ same. true≢false (sym has ∙ (ap (λ (x : lock.Lock). holds x v) same ∙ out)))) (a.since none))

pub stands_missed : (v : View) (n : Note) (s : Start) (l : lock.Lock) (k : ℕ) → Stands v n s → Stands (missed l v (suc k)) n s
stands_missed v n s l k a = stands_step v (missed l v (suc k)) n n s (mark kinds.LockTake (lock_word l) (Some (suc k)) (Some (suc k))) a.given a refl refl
    (ap (λ h. record { held = h; had = n.active; given = a.given; blocked = true; caused = true }) (sym (held_missed l v (suc k))))
    a.counted
    (λ none. each_since s.place v (missed l v (suc k)) (locks_of n) (λ j has. hold_missed j l v (suc k)) (a.since none))

pub stands_loaded : (v : View) (n : Note) (s : Start) (at : List op.Op) → Stands v n s → Stands (place_loaded v at) (after_load (held v) n) s
stands_loaded v n s at a = stands_step v (place_loaded v at) n (after_load (held v) n) s (mark kinds.PlaceLoad place (Some (length at)) (Some (length at))) a.given a refl refl
    (ap (λ h. record { held = h; had = n.active || list_all (held v) (locks_of n); given = a.given; blocked = false; caused = true }) (sym (held_loaded v at)))
    a.counted
    (λ none. each_since s.place v (place_loaded v at) (locks_of n) (λ j has. hold_loaded j v at) (a.since none))

more_counted : (n g : ℕ) → n ≡ capped g → (if nat_lt n most then suc n else most) ≡ capped (suc g)
more_counted n g e = by_test (nat_lt g most) refl
  where
    by_test : (b : Bool) → nat_lt g most ≡ b → (if nat_lt n most then suc n else most) ≡ capped (suc g)
    by_test true is =
        let same : n ≡ g = e ∙ ap (λ (b : Bool). if b then g else most) is in
        ap (λ (k : ℕ). if nat_lt k most then suc k else most) same ∙ (ap (λ (b : Bool). if b then suc g else most) is ∙ next (nat_lt (suc g) most) refl (grind (arith, nat_tests, is)))
      where
        next : (b : Bool) → nat_lt (suc g) most ≡ b → g < most → suc g ≡ capped (suc g)
        next true is' lt = sym (ap (λ (b : Bool). if b then suc g else most) is')
        next false is' lt = let le : most ≤ suc g = grind (arith, nat_tests, is') in let same : suc g ≡ most = omega arith in same ∙ sym (ap (λ (b : Bool). if b then suc g else most) is')
    by_test false is =
        let same : n ≡ most = e ∙ ap (λ (b : Bool). if b then g else most) is in
        let le : most ≤ g = grind (arith, nat_tests, is) in
        let out : nat_lt (suc g) most ≡ false = grind (arith, nat_tests, le) in
        ap (λ (k : ℕ). if nat_lt k most then suc k else most) same ∙ sym (ap (λ (b : Bool). if b then suc g else most) out)

pub not_capped : (g : ℕ) → capped g ≡ 0 → g ≡ 0
not_capped g e = by_test (nat_lt g most) refl
  where
    by_test : (b : Bool) → nat_lt g most ≡ b → g ≡ 0
    by_test true is = sym (ap (λ (b : Bool). if b then g else most) is) ∙ e
    by_test false is = let bad : most ≡ 0 = sym (ap (λ (b : Bool). if b then g else most) is) ∙ e in absurd (omega arith)

pub lost_locks : (b : Bool) (n : Note) → locks_of (lost b n) ≡ locks_of n
lost_locks true n = refl
lost_locks false n = refl

-- a section that is given back had its locks, and where it never was it has them
never_lost : (v : View) (n : Note) (s : Start) (a : Stands v n s) → n.given ≡ 0 → n.active ≡ true
never_lost v n s a none =
    let zero : a.given ≡ 0 = not_capped a.given (sym a.counted ∙ none) in
    let kept = kept_gives_none (locks_of n) (opening s) a.marks refl (ap (λ z. z.given) a.scored ∙ zero) in
    sym (ap (λ z. z.had) a.scored) ∙ kept.1

some_given : (n : ℕ) → (if nat_lt n most then suc n else most) ≡ 0 → ⊥
some_given n e = by_test (nat_lt n most) refl
  where
    by_test : (b : Bool) → nat_lt n most ≡ b → ⊥
    by_test true is = let bad : suc n ≡ 0 = sym (ap (λ (b : Bool). if b then suc n else most) is) ∙ e in absurd (omega arith)
    by_test false is = let bad : most ≡ 0 = sym (ap (λ (b : Bool). if b then suc n else most) is) ∙ e in absurd (omega arith)

pub stands_given : (v : View) (n : Note) (s : Start) (l : lock.Lock) → ((n.active && names (locks_of n) (word_of l)) ≡ true → is_blocked v ≡ true) → Stands v n s → Stands (given l v) (after_give l n) s
stands_given v n s l why a = by_test (n.active && names (locks_of n) (word_of l)) refl
  where
    z : Score
    z = record { held = turned (word_of l) false (held v); had = n.active; given = a.given; blocked = is_blocked v; caused = true }

    m : Mark
    m = mark kinds.LockGive (lock_word l) None (Some 0)

    by_test : (b : Bool) → (n.active && names (locks_of n) (word_of l)) ≡ b → Stands (given l v) (lost b n) s
    by_test true e = stands_step v (given l v) n (lost true n) s m (suc a.given) a refl refl
        (ap (λ x. given_back x z) e ∙ (ap (λ t. record { held = turned (word_of l) false (held v); had = false; given = suc a.given; blocked = is_blocked v; caused = t }) (why e)
        ∙ ap (λ h. record { held = h; had = false; given = suc a.given; blocked = is_blocked v; caused = true }) (sym (held_given l v))))
        (more_counted n.given a.given a.counted)
        (λ none. absurd (some_given n.given none))
    by_test false e = stands_step v (given l v) n (lost false n) s m a.given a refl refl
        (ap (λ x. given_back x z) e ∙ ap (λ h. record { held = h; had = n.active; given = a.given; blocked = is_blocked v; caused = true }) (sym (held_given l v)))
        a.counted
        (λ none. each_apart (IsHeldSince s.place v) (IsHeldSince s.place (given l v)) (locks_of n) l (λ k ne h. since_stays s.place v (given l v) k (hold_kept k l v ne) h)
        (sym (ap (λ x. x && names (locks_of n) (word_of l)) (never_lost v n s a none)) ∙ e) (a.since none))

-- a step that takes and gives no lock and loads no place leaves the section
pub stands_other : (v w : View) (n : Note) (s : Start) (m : Mark) → deed_of m.kind ≡ other → w.trace ≡ v.trace ++ m ∷ [] → ((l : lock.Lock) → hold_of l w ≡ hold_of l v) → Stands v n s → Stands w n s
stands_other v w n s m kind e same a = stands_step v w n n s m a.given a e refl
    (ap (λ d. scored (locks_of n) (state v n a.given (is_blocked v)) d m) kind
    ∙ (ap (λ h. record { held = h; had = n.active; given = a.given; blocked = is_blocked v; caused = true }) (sym (same_held (held v) (held w) (λ l. ap (λ h. h.held) (same l))))
    ∙ ap (λ d. state w n a.given (blocked_by d m (is_blocked v))) (sym kind)))
    a.counted
    (λ none. each_since s.place v w (locks_of n) (λ l has. same l) (a.since none))

-- All sections of a pass

pub pairs_map : {A B C : Type 0} (R : A → B → Type 0) (S : C → B → Type 0) (f : A → C) (xs : List A) (ys : List B) → ((x : A) (y : B) → R x y → S (f x) y) → Pairs R xs ys → Pairs S (map f xs) ys
pairs_map R S f [] [] g a = tt
pairs_map R S f [] (y ∷ ys) g a = absurd a
pairs_map R S f (x ∷ xs) [] g a = absurd a
pairs_map R S f (x ∷ xs) (y ∷ ys) g a = (g x y a.0, pairs_map R S f xs ys g a.1)

pub pairs_same : {A B : Type 0} (R S : A → B → Type 0) (xs : List A) (ys : List B) → ((x : A) (y : B) → R x y → S x y) → Pairs R xs ys → Pairs S xs ys
pairs_same R S [] [] g a = tt
pairs_same R S [] (y ∷ ys) g a = absurd a
pairs_same R S (x ∷ xs) [] g a = absurd a
pairs_same R S (x ∷ xs) (y ∷ ys) g a = (g x y a.0, pairs_same R S xs ys g a.1)

pub pairs_more : {A B : Type 0} (R : A → B → Type 0) (xs : List A) (ys : List B) (x : A) (y : B) → Pairs R xs ys → R x y → Pairs R (xs ++ x ∷ []) (ys ++ y ∷ [])
pairs_more R [] [] x y a r = (r, tt)
pairs_more R [] (z ∷ ys) x y a r = absurd a
pairs_more R (w ∷ xs) [] x y a r = absurd a
pairs_more R (w ∷ xs) (z ∷ ys) x y a r = (a.0, pairs_more R xs ys x y a.1 r)

-- the last two go together
pub pairs_last : {A B : Type 0} (R : A → B → Type 0) (xs : List A) (ys : List B) (x : A) (y : B) → Pairs R (xs ++ x ∷ []) (ys ++ y ∷ []) → Pairs R xs ys × R x y
pairs_last R [] [] x y a = (tt, a.0)
pairs_last R [] (z ∷ []) x y a = absurd a.1
pairs_last R [] (z ∷ u ∷ ys) x y a = absurd a.1
pairs_last R (w ∷ []) [] x y a = absurd a.1
pairs_last R (w ∷ u ∷ xs) [] x y a = absurd a.1
pairs_last R (w ∷ xs) (z ∷ ys) x y a = let b = pairs_last R xs ys x y a.1 in ((a.0, b.0), b.1)

pub stay_same : (p : Pass) → Stay p p
stay_same p starts a = a

pub stay_then : (p q r : Pass) → Stay p q → Stay q r → Stay p r
stay_then p q r a b starts x = b starts (a starts x)
