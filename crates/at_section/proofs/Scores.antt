-- Scores of marks.
use Rattle.std.proofs.Common.{◌≡◌, ◌⊎◌, ⊎_elim, inl, inr, ℕ, suc, ◌≤◌, Bool, true, false, true≢false, ◌||◌, ◌&&◌, List, [], ◌∷◌, ◌++◌, refl, sym, ap, ◌∙◌, arith}
use Rattle.std.specs.Prelude.{not}
use Rattle.std.specs.List.{list_all}
use Rattle.at_view.specs.declared.mark.Mark.{Mark}
use Rattle.at_core.specs.declared.lock.Lock as lock
use Rattle.at_section.specs.Deeds.{Deed, tries, gives, loads, other, deed_of, was_free, names, Held, turned, held_by, held_after, blocked_by, blocked_after, AreFor, gives_one, NoGive, finds_held, NoHeld, Every}
use Rattle.at_section.specs.Scores.{Score, tried, given_back, scored, score}

-- Marks one after another

pub score_more : (ls : List lock.Lock) (z : Score) (ms ns : List Mark) → score ls z (ms ++ ns) ≡ score ls (score ls z ms) ns
score_more ls z [] ns = refl
score_more ls z (m ∷ ms) ns = score_more ls (scored ls z (deed_of m.kind) m) ms ns

pub held_more : (before : Held) (ms ns : List Mark) → held_after before (ms ++ ns) ≡ held_after (held_after before ms) ns
held_more before [] ns = refl
held_more before (m ∷ ms) ns = held_more (held_by (deed_of m.kind) m before) ms ns

pub blocked_more : (before : Bool) (ms ns : List Mark) → blocked_after before (ms ++ ns) ≡ blocked_after (blocked_after before ms) ns
blocked_more before [] ns = refl
blocked_more before (m ∷ ms) ns = blocked_more (blocked_by (deed_of m.kind) m before) ms ns

pub for_more : (ls : List lock.Lock) (before : Held) (ms ns : List Mark) → AreFor ls before ms → AreFor ls (held_after before ms) ns → AreFor ls before (ms ++ ns)
for_more ls before [] ns a b = b
for_more ls before (m ∷ ms) ns a b = (a.0, for_more ls (held_by (deed_of m.kind) m before) ms ns a.1 b)

pub every_more : {A : Type 0} (P : A → Type 0) (xs ys : List A) → Every P xs → Every P ys → Every P (xs ++ ys)
every_more P [] ys a b = b
every_more P (x ∷ xs) ys a b = (a.0, every_more P xs ys a.1 b)

-- What was counted stays counted

tried_given : (b : Bool) (word : ℕ) (z : Score) → (tried b word z).given ≡ z.given
tried_given true word z = refl
tried_given false word z = refl

tried_had : (b : Bool) (word : ℕ) (z : Score) → (tried b word z).had ≡ z.had
tried_had true word z = refl
tried_had false word z = refl

tried_caused : (b : Bool) (word : ℕ) (z : Score) → (tried b word z).caused ≡ z.caused
tried_caused true word z = refl
tried_caused false word z = refl

back_counts : (b : Bool) (z : Score) → z.given ≤ (given_back b z).given
back_counts true z = omega arith
back_counts false z = omega arith

mark_counts : (ls : List lock.Lock) (z : Score) (d : Deed) (m : Mark) → z.given ≤ (scored ls z d m).given
mark_counts ls z tries m = let e = tried_given (was_free m.found) m.word z in omega arith
mark_counts ls z gives m = back_counts (z.had && names ls m.word) (record z { held = turned m.word false z.held })
mark_counts ls z loads m = omega arith
mark_counts ls z other m = omega arith

pub score_counts : (ls : List lock.Lock) (z : Score) (ms : List Mark) → z.given ≤ (score ls z ms).given
score_counts ls z [] = omega arith
score_counts ls z (m ∷ ms) =
    let a = mark_counts ls z (deed_of m.kind) m in
    let b = score_counts ls (scored ls z (deed_of m.kind) m) ms in
    omega arith

-- A section that has its locks and isn't given back: no mark gives one of its locks, and it has them yet

record IsKeptBy (ls : List lock.Lock) (z : Score) (d : Deed) (m : Mark) : Type 0 where
  none : gives_one ls d m.word ≡ false
  had : (scored ls z d m).had ≡ true

mark_keeps : (ls : List lock.Lock) (z : Score) (d : Deed) (m : Mark) → z.had ≡ true → (scored ls z d m).given ≡ z.given → IsKeptBy ls z d m
mark_keeps ls z tries m had e = record { none = refl; had = tried_had (was_free m.found) m.word z ∙ had }
mark_keeps ls z loads m had e = record { none = refl; had = ap (λ b. b || list_all z.held ls) had }
mark_keeps ls z other m had e = record { none = refl; had = had }
mark_keeps ls z gives m had e = by_test (names ls m.word) refl
  where
    y : Score
    y = record z { held = turned m.word false z.held }

    now : (t : Bool) → names ls m.word ≡ t → (z.had && names ls m.word) ≡ t
    now t is = ap (λ b. b && names ls m.word) had ∙ is

    by_test : (t : Bool) → names ls m.word ≡ t → IsKeptBy ls z gives m
    by_test true is = let back : suc z.given ≡ z.given = sym (ap (λ b. (given_back b y).given) (now true is)) ∙ e in absurd (omega arith)
    by_test false is = record { none = is; had = ap (λ b. (given_back b y).had) (now false is) ∙ had }

pub kept_gives_none : (ls : List lock.Lock) (z : Score) (ms : List Mark) → z.had ≡ true → (score ls z ms).given ≡ z.given → NoGive ls ms × ((score ls z ms).had ≡ true)
kept_gives_none ls z [] had e = (tt, had)
kept_gives_none ls z (m ∷ ms) had e =
    let a = mark_counts ls z (deed_of m.kind) m in
    let b = score_counts ls (scored ls z (deed_of m.kind) m) ms in
    let one : (scored ls z (deed_of m.kind) m).given ≡ z.given = omega arith in
    let kept = mark_keeps ls z (deed_of m.kind) m had one in
    let rest = kept_gives_none ls (scored ls z (deed_of m.kind) m) ms kept.had (e ∙ sym one) in
    ((kept.none, rest.0), rest.1)

-- and the other way round
mark_none : (ls : List lock.Lock) (z : Score) (d : Deed) (m : Mark) → gives_one ls d m.word ≡ false → (scored ls z d m).given ≡ z.given
mark_none ls z tries m e = tried_given (was_free m.found) m.word z
mark_none ls z loads m e = refl
mark_none ls z other m e = refl
mark_none ls z gives m e = by_had z.had
  where
    y : Score
    y = record z { held = turned m.word false z.held }

    by_had : (b : Bool) → (given_back (b && names ls m.word) y).given ≡ z.given
    by_had true = ap (λ x. (given_back x y).given) e
    by_had false = refl

pub none_is_kept : (ls : List lock.Lock) (z : Score) (ms : List Mark) → NoGive ls ms → (score ls z ms).given ≡ z.given
none_is_kept ls z [] a = refl
none_is_kept ls z (m ∷ ms) a = none_is_kept ls (scored ls z (deed_of m.kind) m) ms a.1 ∙ mark_none ls z (deed_of m.kind) m a.0

-- Without a try that found a lock held

back_caused : (b : Bool) (z : Score) → z.caused ≡ false → (given_back b z).caused ≡ false
back_caused true z e = ap (λ x. x && z.blocked) e
back_caused false z e = e

mark_caused : (ls : List lock.Lock) (z : Score) (d : Deed) (m : Mark) → z.caused ≡ false → (scored ls z d m).caused ≡ false
mark_caused ls z tries m e = tried_caused (was_free m.found) m.word z ∙ e
mark_caused ls z gives m e = back_caused (z.had && names ls m.word) (record z { held = turned m.word false z.held }) e
mark_caused ls z loads m e = e
mark_caused ls z other m e = e

score_caused : (ls : List lock.Lock) (z : Score) (ms : List Mark) → z.caused ≡ false → (score ls z ms).caused ≡ false
score_caused ls z [] e = e
score_caused ls z (m ∷ ms) e = score_caused ls (scored ls z (deed_of m.kind) m) ms (mark_caused ls z (deed_of m.kind) m e)

and_false : (x y : Bool) → y ≡ false → (x && y) ≡ false
and_false true y e = e
and_false false y e = refl

-- one such mark: nothing is blocked, and what was given back had no cause
record IsFree (z y : Score) : Type 0 where
  free : y.blocked ≡ false
  same : (y.given ≡ z.given) ⊎ (y.caused ≡ false)

back_free : (b : Bool) (z y : Score) → y.given ≡ z.given → y.blocked ≡ false → IsFree z (given_back b y)
back_free true z y same e = record { free = e; same = inr (and_false y.caused y.blocked e) }
back_free false z y same e = record { free = e; same = inl same }

tried_free : (b : Bool) (word : ℕ) (z : Score) → not b ≡ false → IsFree z (tried b word z)
tried_free true word z e = record { free = refl; same = inl refl }
tried_free false word z e = absurd (true≢false e)

mark_free : (ls : List lock.Lock) (z : Score) (d : Deed) (m : Mark) → z.blocked ≡ false → finds_held d m.found ≡ false → IsFree z (scored ls z d m)
mark_free ls z tries m b f = tried_free (was_free m.found) m.word z f
mark_free ls z gives m b f = back_free (z.had && names ls m.word) z (record z { held = turned m.word false z.held }) refl b
mark_free ls z loads m b f = record { free = refl; same = inl refl }
mark_free ls z other m b f = record { free = b; same = inl refl }

pub alone_is_kept : (ls : List lock.Lock) (z : Score) (ms : List Mark) → z.blocked ≡ false → NoHeld ms → (score ls z ms).caused ≡ true → (score ls z ms).given ≡ z.given
alone_is_kept ls z [] b f e = refl
alone_is_kept ls z (m ∷ ms) b f e =
    let y = scored ls z (deed_of m.kind) m in
    let one = mark_free ls z (deed_of m.kind) m b f.0 in
    ⊎_elim
    (λ (same : y.given ≡ z.given). alone_is_kept ls y ms one.free f.1 e ∙ same)
    (λ (uncaused : y.caused ≡ false). absurd (true≢false (sym e ∙ score_caused ls y ms uncaused)))
    one.same
