-- No step makes the openings of a head fewer.
use Rattle.std.proofs.Common.{◌≡◌, ℕ, suc, ◌+◌, ◌≤◌, List, [], ◌∷◌, ◌++◌, map, set, eq-eqb, refl, ap, ◌∙◌, arith}
use Rattle.std.specs.Prelude.{None, sum_by}
use Rattle.std.proofs.lemmas.List.Sums.{sum_by-cons, sum_by-append}
use mathlib.Core.Option.{some}
use lib.ListN.{get_elem?}
use Rattle.atomic_table.proofs.Lists.{at_map}
use Rattle.at_view.specs.declared.mark.Mark.{Mark}
use Rattle.at_view.specs.declared.mark.Trail.{Trail}
use Rattle.at_view.specs.declared.mark.StepKind.TheVariants as kinds
use Rattle.at_view.specs.declared.view.View.{View}
use Rattle.at_view.specs.Words.{number_of, place, head}
use Rattle.at_core.specs.Heads.{sequence_of}
use Rattle.at_core.specs.Openings.{is_opening, openings_in, openings_of}
use Rattle.at_core.specs.Rule.{weight, OpeningRule}
use Rattle.at_core.specs.Steps.{mark, merged}
use Rattle.at_core.proofs.Lists.{sum_set, map_set}

-- one mark more
openings_more : (o : ℕ) (marks : List Mark) (m : Mark) → openings_in o (marks ++ m ∷ []) ≡ openings_in o marks + weight (is_opening o m)
openings_more o marks m = sum_by-append (λ (x : Mark). weight (is_opening o x)) marks (m ∷ []) ∙ ap (λ (n : ℕ). openings_in o marks + n) (let c = sum_by-cons (λ (x : Mark). weight (is_opening o x)) m [] in omega arith)

-- a step leaves its mark, and the trails of others
pub marked_openings : (o : ℕ) (v w : View) (m : Mark) → w.trace ≡ v.trace ++ m ∷ [] → w.kept ≡ v.kept → openings_of o w ≡ openings_of o v + weight (is_opening o m)
marked_openings o v w m trace kept =
    let a : openings_in o w.trace ≡ openings_in o v.trace + weight (is_opening o m) = ap (openings_in o) trace ∙ openings_more o v.trace m in
    let b : sum_by (λ (t : Trail). openings_in o t.marks) w.kept ≡ sum_by (λ (t : Trail). openings_in o t.marks) v.kept = ap (sum_by (λ (t : Trail). openings_in o t.marks)) kept in
    omega (arith, a, b)

pub no_fewer : (o : ℕ) (v w : View) (m : Mark) → w.trace ≡ v.trace ++ m ∷ [] → w.kept ≡ v.kept → openings_of o v ≤ openings_of o w
no_fewer o v w m trace kept = let e = marked_openings o v w m trace kept in omega arith

-- so the part goes on
pub openings_left : (o word : ℕ) (views : List View) (id : ℕ) (v w : View) → get_elem? views id ≡ some v → openings_of o v ≤ openings_of o w → OpeningRule word (map (openings_of o) views) → OpeningRule word (map (openings_of o) (set views id w))
openings_left o word views id v w at le rule =
    let e = ap (sum_by (λ (n : ℕ). n)) (map_set (openings_of o) views id w) in
    let s = sum_set (λ (n : ℕ). n) (map (openings_of o) views) id (openings_of o v) (openings_of o w) (at_map (openings_of o) views id v at) in
    omega (arith, e, s, le, rule)

-- a head that is opened raises its sequence by one
pub openings_raised : (o word next : ℕ) (views : List View) (id : ℕ) (v w : View) → get_elem? views id ≡ some v → openings_of o w ≡ openings_of o v + 1 → sequence_of next ≡ suc (sequence_of word)
    → OpeningRule word (map (openings_of o) views) → OpeningRule next (map (openings_of o) (set views id w))
openings_raised o word next views id v w at one up rule =
    let e = ap (sum_by (λ (n : ℕ). n)) (map_set (openings_of o) views id w) in
    let s = sum_set (λ (n : ℕ). n) (map (openings_of o) views) id (openings_of o v) (openings_of o w) (at_map (openings_of o) views id v at) in
    omega (arith, e, s, one, up, rule)

-- the mark of an opening counts
pub counts_one : (o : ℕ) (m : Mark) → m.kind ≡ kinds.HeadOpen → m.word ≡ number_of (head o) → weight (is_opening o m) ≡ 1
counts_one o m kind word = ap (λ (x : Mark). weight (is_opening o x)) (λ i. record m { kind = kind i; word = word i }) ∙ ap weight (eq-eqb (number_of (head o)) (number_of (head o)) refl)

-- a pass that takes in another has the openings of both
pub merged_openings : (o : ℕ) (v w : View) → openings_of o (merged v w) ≡ openings_of o v + openings_of o w
merged_openings o v w =
    let count : Trail → ℕ = λ t. openings_in o t.marks in
    let m = mark kinds.Join place None None in
    let trail : Trail = record { birth = w.history.birth; marks = w.trace } in
    let a = openings_more o v.trace m in
    let b = sum_by-append count (v.kept ++ trail ∷ []) w.kept in
    let c = sum_by-append count v.kept (trail ∷ []) in
    let d = sum_by-cons count trail [] in
    omega (arith, a, b, c, d)
