-- Lines have a history exactly where each write has a place of its own, from 1 up to their count.
use Rattle.std.proofs.Common.{◌≡◌, ◌≢◌, ◌∙◌, ℕ, zero, suc, ◌+◌, ◌<◌, ◌≤◌, ◌==◌, eq-eqb, inl, inr, cond, Bool, true, false, List, [], ◌∷◌, ◌++◌, length, take, drop, Some, if◌then◌else◌, slice_get, refl, sym, ap, subst, append_assoc, append-nil, arith}
use Rattle.std.specs.Prelude.{All}
use Rattle.std.proofs.lemmas.Bool.{cases_lt, cases_eq, eqb-true, eqb-false}
use Rattle.std.proofs.lemmas.List.Elements.{All-nil, All-cons, All-head}
use Rattle.at_value.specs.declared.operation.Op as op
use Rattle.at_line.specs.declared.line.Line.{Line}
use Rattle.at_line.specs.declared.line.LineOp.TheVariants as line_ops
use Rattle.at_line.specs.declared.line.What as what
use Rattle.at_line.specs.declared.line.What.TheVariants as whats
use Rattle.at_line.specs.Lines.{is_write_reply, write_in, writes, write_count, operations_at, history_at, IsHistory}
use Rattle.at_line.specs.Legal.{IsFreePlace, IsWritePlaced, AreWritesPlaced}
use Rattle.at_line.proofs.Histories.{total_at, one_there, total_within, held_within, histories_count}
use Rattle.at_line.proofs.Serials.{at_more}

abbrev Write : Type 0
Write = ℕ × op.Op

-- Writes in a row

-- each write has a free place after the earlier ones and those before it
abbrev AreFree : ℕ → List Write → List Write → Type 0
AreFree count earlier [] = Unit {0}
AreFree count earlier (w ∷ ws) = IsFreePlace count earlier w.0 × AreFree count (earlier ++ w ∷ []) ws

are_free-append : (count : ℕ) (earlier xs ys : List Write) → AreFree count earlier xs → AreFree count (earlier ++ xs) ys → AreFree count earlier (xs ++ ys)
are_free-append count earlier [] ys free more = subst (λ ws. AreFree count ws ys) (append-nil earlier) more
are_free-append count earlier (x ∷ xs) ys free more =
    (free.0, are_free-append count (earlier ++ x ∷ []) xs ys free.1 (subst (λ ws. AreFree count ws ys) (sym (append_assoc earlier (x ∷ []) xs)) more))

-- the writes of one line are at most one
free_in : (count : ℕ) (earlier : List Write) (w : what.What) → All (λ (write : Write). IsFreePlace count earlier write.0) (write_in w) → AreFree count earlier (write_in w)
free_in count earlier (whats.Did place path (line_ops.Of o) reply) all = by_reply (is_write_reply reply) all
  where
    by_reply : (written : Bool) → All (λ (write : Write). IsFreePlace count earlier write.0) (if written then (place.0, o) ∷ [] else []) → AreFree count earlier (if written then (place.0, o) ∷ [] else [])
    by_reply true each = (All-head (λ (write : Write). IsFreePlace count earlier write.0) (place.0, o) [] each, tt)
    by_reply false each = tt
free_in count earlier (whats.Did place path (line_ops.Begin first second) reply) all = tt
free_in count earlier (whats.Did place path line_ops.Finish reply) all = tt
free_in count earlier (whats.Local local) all = tt

writes-append : (xs ys : List Line) → writes (xs ++ ys) ≡ writes xs ++ writes ys
writes-append [] ys = refl
writes-append (x ∷ xs) ys = ap (λ ws. write_in x.what ++ ws) (writes-append xs ys) ∙ sym (append_assoc (write_in x.what) (writes xs) (writes ys))

free_from_lines : (count : ℕ) (before lines : List Line) → ((i : ℕ) (line : Line) → slice_get lines i ≡ Some line → IsWritePlaced count (before ++ take i lines) line) → AreFree count (writes before) (writes lines)
free_from_lines count before [] each = tt
free_from_lines count before (line ∷ lines) each =
    are_free-append count (writes before) (write_in line.what) (writes lines)
    (free_in count (writes before) line.what (subst (λ ls. IsWritePlaced count ls line) (append-nil before) (each 0 line refl)))
    (subst (λ ws. AreFree count ws (writes lines)) (writes-append before (line ∷ []) ∙ ap (λ ws. writes before ++ ws) (append-nil (write_in line.what)))
    (free_from_lines count (before ++ line ∷ []) lines (λ i l at. subst (λ ls. IsWritePlaced count ls l) (sym (append_assoc before (line ∷ []) (take i lines))) (each (suc i) l at))))

-- How many stand at a place

at-append : (place : ℕ) (xs ys : List Write) → operations_at place (xs ++ ys) ≡ operations_at place xs ++ operations_at place ys
at-append place [] ys = refl
at-append place (x ∷ xs) ys = by_test (at-append place xs ys) (x.0 == place)
  where
    by_test : operations_at place (xs ++ ys) ≡ operations_at place xs ++ operations_at place ys → (here : Bool) → (if here then x.1 ∷ operations_at place (xs ++ ys) else operations_at place (xs ++ ys)) ≡ (if here then x.1 ∷ operations_at place xs else operations_at place xs) ++ operations_at place ys
    by_test rest true = ap (λ os. x.1 ∷ os) rest
    by_test rest false = rest

abbrev AreWithin : ℕ → List Write → Type 0
AreWithin count [] = Unit {0}
AreWithin count (w ∷ ws) = (0 < w.0) × (w.0 ≤ count) × AreWithin count ws

within_from_free : (count : ℕ) (earlier ws : List Write) → AreFree count earlier ws → AreWithin count ws
within_from_free count earlier [] free = tt
within_from_free count earlier (w ∷ ws) free = (free.0.0, free.0.1, within_from_free count (earlier ++ w ∷ []) ws free.1)

-- a place that no write has
none_at : (count place : ℕ) (ws : List Write) → AreWithin count ws → ((q : ℕ) → 0 < q → q ≤ count → q ≢ place) → operations_at place ws ≡ []
none_at count place [] within other = refl
none_at count place (w ∷ ws) within other = by_test (none_at count place ws within.2 other) (w.0 == place) refl
  where
    by_test : operations_at place ws ≡ [] → (here : Bool) → (w.0 == place) ≡ here → (if here then w.1 ∷ operations_at place ws else operations_at place ws) ≡ []
    by_test rest true is = absurd (other w.0 within.0 within.1 (eqb-true w.0 place is))
    by_test rest false is = rest

-- no place is taken twice
one_at_most : (count place : ℕ) (earlier ws : List Write) → AreFree count earlier ws → length (operations_at place earlier) ≤ 1 → length (operations_at place (earlier ++ ws)) ≤ 1
one_at_most count place earlier [] free few = subst (λ ws. length (operations_at place ws) ≤ 1) (sym (append-nil earlier)) few
one_at_most count place earlier (w ∷ ws) free few =
    subst (λ xs. length (operations_at place xs) ≤ 1) (append_assoc earlier (w ∷ []) ws) (one_at_most count place (earlier ++ w ∷ []) ws free.1 (by_test (w.0 == place) refl))
  where
    by_test : (here : Bool) → (w.0 == place) ≡ here → length (operations_at place (earlier ++ w ∷ [])) ≤ 1
    by_test true is =
        let same : w.0 ≡ place = eqb-true w.0 place is in
        let none : operations_at place earlier ≡ [] = ap (λ (q : ℕ). operations_at q earlier) (sym same) ∙ free.0.2 in
        let parts : operations_at place (earlier ++ w ∷ []) ≡ w.1 ∷ [] = at-append place earlier (w ∷ []) ∙ (ap (λ os. os ++ operations_at place (w ∷ [])) none ∙ ap (λ (b : Bool). if b then w.1 ∷ [] else []) is) in
        subst (λ os. length os ≤ 1) (sym parts) (omega arith)
    by_test false is =
        let parts : operations_at place (earlier ++ w ∷ []) ≡ operations_at place earlier =
        at-append place earlier (w ∷ []) ∙ (ap (λ (b : Bool). operations_at place earlier ++ (if b then w.1 ∷ [] else [])) is ∙ append-nil (operations_at place earlier)) in
        subst (λ os. length os ≤ 1) (sym parts) few

-- all of them are counted
all_within : (count : ℕ) (ws : List Write) → AreWithin count ws → total_at count ws ≡ length ws
all_within count [] within = none count
  where
    none : (n : ℕ) → total_at n [] ≡ 0
    none zero = refl
    none (suc n) = let before = none n in omega arith
all_within count (w ∷ ws) within = total_within count w ws within.0 within.1 ∙ ap suc (all_within count ws within.2)

total_at_most : (n : ℕ) (ws : List Write) → ((place : ℕ) → length (operations_at place ws) ≤ 1) → total_at n ws ≤ n
total_at_most zero ws few = omega arith
total_at_most (suc n) ws few = let before = total_at_most n ws few in let here = few (suc n) in omega arith

-- so where there are as many as places, each place is taken
each_taken : (n : ℕ) (ws : List Write) → ((place : ℕ) → length (operations_at place ws) ≤ 1) → total_at n ws ≡ n → (place : ℕ) → 0 < place → place ≤ n → length (operations_at place ws) ≡ 1
each_taken zero ws few all place positive within = absurd (omega arith)
each_taken (suc n) ws few all place positive within =
    let most = total_at_most n ws few in
    let here = few (suc n) in
    let before : total_at n ws ≡ n = omega arith in
    let last : length (operations_at (suc n) ws) ≡ 1 = omega arith in
    elim (cases_eq place (suc n)) [
      | inl same ↦ ap (λ (q : ℕ). length (operations_at q ws)) same ∙ last
      | inr other ↦ each_taken n ws few before place positive (omega arith)
    ]

-- The history by places

abbrev gathered : ℕ → List Write → List op.Op
gathered zero ws = []
gathered (suc n) ws = gathered n ws ++ operations_at (suc n) ws

lone : (os : List op.Op) → length os ≡ 1 → (o : op.Op) × (os ≡ o ∷ [])
lone [] one = absurd (omega arith)
lone (o ∷ []) one = (o, refl)
lone (o ∷ p ∷ os) one = absurd (omega arith)

module _ (ws : List Write) (none : operations_at 0 ws ≡ []) where
  abbrev Agrees : ℕ → Type 0
  Agrees n = (length (gathered n ws) ≡ n) × ((place : ℕ) → (place ≤ n → history_at place (gathered n ws) ≡ operations_at place ws) × (n < place → history_at place (gathered n ws) ≡ []))

  nothing : (place : ℕ) → history_at place [] ≡ []
  nothing zero = refl
  nothing (suc before) = refl

  agrees : (n : ℕ) → ((place : ℕ) → 0 < place → place ≤ n → length (operations_at place ws) ≡ 1) → Agrees n
  agrees zero taken = (refl, λ place. (λ within. nothing place ∙ sym (ap (λ (q : ℕ). operations_at q ws) (let e : place ≡ 0 = omega arith in e) ∙ none), λ beyond. nothing place))
  agrees (suc n) taken =
      let before = agrees n (λ place positive within. taken place positive (omega arith)) in
      let o = lone (operations_at (suc n) ws) (taken (suc n) (omega arith) (omega arith)) in
      let is : gathered (suc n) ws ≡ gathered n ws ++ o.0 ∷ [] = ap (λ os. gathered n ws ++ os) o.1 in
      let long : length (gathered n ws) ≡ n = before.0 in
      let at : (place : ℕ) → history_at place (gathered (suc n) ws) ≡ history_at place (gathered n ws) ++ (if suc n == place then o.0 ∷ [] else []) =
      λ place. ap (history_at place) is ∙ (at_more place (gathered n ws) o.0 ∙ ap (λ (k : ℕ). history_at place (gathered n ws) ++ (if suc k == place then o.0 ∷ [] else [])) long) in
      (ap length is ∙ (length-push (gathered n ws) o.0 ∙ ap suc long), λ place. by_place place before.1 o at)
    where
      length-push : (xs : List op.Op) (x : op.Op) → length (xs ++ x ∷ []) ≡ suc (length xs)
      length-push [] x = refl
      length-push (y ∷ xs) x = let rest = length-push xs x in omega arith

      by_place : (place : ℕ) → ((q : ℕ) → (q ≤ n → history_at q (gathered n ws) ≡ operations_at q ws) × (n < q → history_at q (gathered n ws) ≡ []))
          → (o : (p : op.Op) × (operations_at (suc n) ws ≡ p ∷ []))
          → ((q : ℕ) → history_at q (gathered (suc n) ws) ≡ history_at q (gathered n ws) ++ (if suc n == q then o.0 ∷ [] else []))
          → (place ≤ suc n → history_at place (gathered (suc n) ws) ≡ operations_at place ws) × (suc n < place → history_at place (gathered (suc n) ws) ≡ [])
      by_place place before o at = by_test (suc n == place) refl
        where
          by_test : (here : Bool) → (suc n == place) ≡ here → (place ≤ suc n → history_at place (gathered (suc n) ws) ≡ operations_at place ws) × (suc n < place → history_at place (gathered (suc n) ws) ≡ [])
          by_test true is =
              let same : suc n ≡ place = eqb-true (suc n) place is in (
                λ within. at place ∙ (ap (λ (b : Bool). history_at place (gathered n ws) ++ (if b then o.0 ∷ [] else [])) is ∙ (ap (λ os. os ++ o.0 ∷ []) ((before place).1 (omega arith)) ∙ (sym o.1 ∙ ap (λ (q : ℕ). operations_at q ws) same))),
                λ beyond. absurd (omega arith),
              )
          by_test false is =
              let other : suc n ≢ place = eqb-false (suc n) place is in
              let here : history_at place (gathered (suc n) ws) ≡ history_at place (gathered n ws) = at place ∙ (ap (λ (b : Bool). history_at place (gathered n ws) ++ (if b then o.0 ∷ [] else [])) is ∙ append-nil (history_at place (gathered n ws))) in (
                λ within. here ∙ (before place).0 (let e : place ≤ n = omega arith in e),
                λ beyond. here ∙ (before place).1 (omega arith),
              )

module _ (lines : List Line) (placed : AreWritesPlaced lines) where
  free : AreFree (write_count lines) [] (writes lines)
  free = free_from_lines (write_count lines) [] lines placed

  within : AreWithin (write_count lines) (writes lines)
  within = within_from_free (write_count lines) [] (writes lines) free

  few : (place : ℕ) → length (operations_at place (writes lines)) ≤ 1
  few place = one_at_most (write_count lines) place [] (writes lines) free (omega arith)

  none : operations_at 0 (writes lines) ≡ []
  none = none_at (write_count lines) 0 (writes lines) within (λ q positive at same. omega arith)

  agreed : Agrees (writes lines) none (write_count lines)
  agreed = agrees (writes lines) none (write_count lines) (each_taken (write_count lines) (writes lines) few (all_within (write_count lines) (writes lines) within))

  pub history_from_placed : (history : List op.Op) × IsHistory lines history
  history_from_placed = (
    gathered (write_count lines) (writes lines),
    λ place.
        elim (cases_lt (write_count lines) place) [
          | inl beyond ↦ none_at (write_count lines) place (writes lines) within (λ q positive at same. omega arith) ∙ sym ((agreed.1 place).1 beyond)
          | inr at ↦ sym ((agreed.1 place).0 at)
        ],
  )

-- The places of a history

few_held : (place : ℕ) (history : List op.Op) → length (history_at place history) ≤ 1
few_held zero history = omega arith
few_held (suc before) [] = omega arith
few_held (suc zero) (o ∷ history) = omega arith
few_held (suc (suc before)) (o ∷ history) = few_held (suc before) history

-- a list at an element of it
pub split_at : (lines : List Line) (i : ℕ) (line : Line) → slice_get lines i ≡ Some line → lines ≡ take i lines ++ line ∷ drop (suc i) lines
split_at [] i line at = absurd cc
split_at (first ∷ lines) zero line at = let same : first ≡ line = cc in ap (λ l. l ∷ lines) same
split_at (first ∷ lines) (suc i) line at = ap (λ ls. first ∷ ls) (split_at lines i line at)

length-both : (xs ys : List op.Op) → length (xs ++ ys) ≡ length xs + length ys
length-both [] ys = omega arith
length-both (x ∷ xs) ys = let rest = length-both xs ys in omega arith

empty_from_length : (os : List op.Op) → length os ≡ 0 → os ≡ []
empty_from_length [] none = refl
empty_from_length (o ∷ os) none = absurd (omega arith)

free_place : (count : ℕ) (history : List op.Op) (ws earlier more : List Write) (q : ℕ) (o : op.Op) → ((place : ℕ) → operations_at place ws ≡ history_at place history)
    → length history ≡ count → ws ≡ earlier ++ (q, o) ∷ more → IsFreePlace count earlier q
free_place count history ws earlier more q o is long parts =
    let all : length (history_at q history) ≡ length (operations_at q earlier) + length (operations_at q ((q, o) ∷ more)) =
    ap length (sym (is q) ∙ (ap (operations_at q) parts ∙ at-append q earlier ((q, o) ∷ more))) ∙ length-both (operations_at q earlier) (operations_at q ((q, o) ∷ more)) in
    let there : length (operations_at q ((q, o) ∷ more)) ≡ cond (q == q) 1 0 + length (operations_at q more) = one_there q (q, o) more in
    let one : cond {A = ℕ} (q == q) 1 0 ≡ 1 = ap (λ (b : Bool). cond {A = ℕ} b 1 0) (eq-eqb q q refl) in
    let most = few_held q history in
    let held = held_within q history (omega arith) in
    (held.0, omega (arith, held.1, long), empty_from_length (operations_at q earlier) (omega arith))

pub placed_from_history : (lines : List Line) (history : List op.Op) → IsHistory lines history → AreWritesPlaced lines
placed_from_history lines history is i line at = in_line line.what (ap writes (split_at lines i line at) ∙ writes-append (take i lines) (line ∷ drop (suc i) lines))
  where
    in_line : (w : what.What) → writes lines ≡ writes (take i lines) ++ (write_in w ++ writes (drop (suc i) lines)) → All (λ (write : Write). IsFreePlace (write_count lines) (writes (take i lines)) write.0) (write_in w)
    in_line (whats.Did place path (line_ops.Of o) reply) parts = by_reply (is_write_reply reply) parts
      where
        by_reply : (written : Bool) → writes lines ≡ writes (take i lines) ++ ((if written then (place.0, o) ∷ [] else []) ++ writes (drop (suc i) lines))
            → All (λ (write : Write). IsFreePlace (write_count lines) (writes (take i lines)) write.0) (if written then (place.0, o) ∷ [] else [])
        by_reply true is_parts =
            All-cons (λ (write : Write). IsFreePlace (write_count lines) (writes (take i lines)) write.0) (place.0, o) []
            (free_place (write_count lines) history (writes lines) (writes (take i lines)) (writes (drop (suc i) lines)) place.0 o is (histories_count lines history is) is_parts)
            (All-nil (λ (write : Write). IsFreePlace (write_count lines) (writes (take i lines)) write.0))
        by_reply false is_parts = All-nil (λ (write : Write). IsFreePlace (write_count lines) (writes (take i lines)) write.0)
    in_line (whats.Did place path (line_ops.Begin first second) reply) parts = All-nil (λ (write : Write). IsFreePlace (write_count lines) (writes (take i lines)) write.0)
    in_line (whats.Did place path line_ops.Finish reply) parts = All-nil (λ (write : Write). IsFreePlace (write_count lines) (writes (take i lines)) write.0)
    in_line (whats.Local local) parts = All-nil (λ (write : Write). IsFreePlace (write_count lines) (writes (take i lines)) write.0)
