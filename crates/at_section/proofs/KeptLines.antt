-- Kept sections leave their objects alone, as lines have it.
use Rattle.std.proofs.Common.{◌≡◌, ℕ, suc, ◌-◌, ◌≤◌, List, [], ◌∷◌, ◌++◌, length, take, sym, ap, ◌∙◌, subst, arith, append_assoc, length-append}
use Rattle.std.specs.Prelude.{Contains}
use Rattle.std.proofs.Math.Seq.{take-append_seam}
use mathlib.Core.List.{IsPrefix}
use Rattle.at_line.specs.Kept.{rows_of}
use Rattle.at_model.specs.History.{replay}
use Rattle.at_value.specs.declared.operation.Op as op
use Rattle.at_core.specs.Opened.{opening_of}
use Rattle.at_core.proofs.Prefixes.{prefix_shorter, prefix_trans}
use Rattle.at_section.specs.Kept.{KeptIsLeftAlone}

-- what stands before a place is as much of the history
before_is : (before history : List op.Op) (x : op.Op) (place : ℕ) → IsPrefix (before ++ x ∷ []) history → place ≡ suc (length before) → before ≡ take (place - 1) history
before_is before history x place p e =
    let n : place - 1 ≡ length before = omega arith in
    sym (ap (λ (k : ℕ). take k history) n ∙ (ap (take (length before)) (sym p.1 ∙ append_assoc before (x ∷ []) p.0) ∙ take-append_seam before (x ∷ p.0)))

pub left_alone : KeptIsLeftAlone
left_alone s ls v r e kept history later objects rows write at other after up o has =
    let H = e.history in
    let n = length-append at.0 (write.1 ∷ []) in
    let long = e.long in
    let is = at.2 in
    let le : length (at.0 ++ write.1 ∷ []) ≤ length H = omega arith in
    let inside : IsPrefix (at.0 ++ write.1 ∷ []) H = prefix_shorter (at.0 ++ write.1 ∷ []) H history at.1 (prefix_trans H v.history.seen history e.begins later) le in
    let begun : s.place ≤ length at.0 = omega arith in
    let away = e.avoids kept o (rows o has) at.0 write.1 inside begun (λ c. other (subst (λ (k : ℕ). Contains v.history.own k) (sym is) c)) in
    subst (λ (point : List op.Op). ¬ Contains (rows_of (replay (opening_of v.who.limits) point) write.1) o) (before_is at.0 history write.1 write.0 at.1 is) away
