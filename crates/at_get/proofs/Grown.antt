-- Objects that are made stay.
use Rattle.std.proofs.Common.{◌≡◌, ◌≢◌, ℕ, ◌≤◌, ◌<◌, ◌==◌, cond, not, length, List, [], ◌∷◌, ◌++◌, Option, Some, None, Bool, true, false, is_none, leb, slice_get, length-append, subst, arith}
use Rattle.std.proofs.lemmas.Option.{slice_get_within, slice_get-get_or}
use mathlib.Core.List.{IsPrefix}
use Rattle.at_value.specs.Numbers.{object}
use Rattle.at_value.specs.Pairs.{value_at}
use Rattle.at_value.specs.declared.operation.Op as op
use Rattle.at_value.specs.declared.operation.Op.TheVariants as ops
use Rattle.at_value.specs.Widths as widths
use Rattle.at_model.specs.declared.rows.Object.{Object}
use Rattle.at_model.specs.World.{World, row_of, own_of}
use Rattle.at_model.specs.Attributes.{Outcome}
use Rattle.at_model.specs.Step as stepping
use Rattle.at_model.specs.History.{replay}
use Rattle.at_model.proofs.OnlyObjects.{Leaves, set_on-leaves, del_on-leaves, set_class_on-leaves, share_on-leaves}

-- there are no fewer objects than there were
abbrev Grows : World → Outcome → Type 0
Grows w outcome = length w.objects ≤ length outcome.world.objects

grows_test : (w : World) (b : Bool) (x y : Outcome) → Grows w x → Grows w y → Grows w (cond b x y)
grows_test w true x y one other = one
grows_test w false x y one other = other

grows_ordered : (w changed : World) (first : Option ℕ) → length w.objects ≤ length changed.objects → Grows w (stepping.unless_unordered w changed first)
grows_ordered w changed None more = more
grows_ordered w changed (Some c) more = omega arith

grows_left : (w : World) (x : Outcome) → Leaves w x → Grows w x
grows_left w x left = let same = left.objects in omega (arith, same)

grows_effect : (w : World) (operation : op.Op) → Grows w (stepping.effect w operation)
grows_effect w (ops.NewClass c bases) =
    grows_test w (stepping.is_made w c) _ _ (omega arith)
    (grows_test w (stepping.is_empty bases) _ _ (omega arith)
    (grows_test w (stepping.has_repeat bases) _ _ (omega arith) (grows_ordered w (stepping.with_class w c bases) _ (omega arith))))
grows_effect w (ops.TypeSet c n v) = grows_test w (c == object) _ _ (omega arith) (omega arith)
grows_effect w (ops.TypeDel c n) = grows_test w (c == object) _ _ (omega arith) (grows_test w (is_none (value_at n (own_of (row_of w.classes c)))) _ _ (omega arith) (omega arith))
grows_effect w (ops.SetBases c bases) =
    grows_test w (c == object) _ _ (omega arith)
    (grows_test w (stepping.is_empty bases) _ _ (omega arith)
    (grows_test w (stepping.has_repeat bases) _ _ (omega arith)
    (grows_test w (stepping.is_cycle w c bases) _ _ (omega arith) (grows_ordered w (stepping.with_bases w c bases) _ (omega arith)))))
grows_effect w (ops.New c) =
    let fresh : Object = record { class = c; dict = length w.objects } in
    let more = length-append w.objects (fresh ∷ []) in
    grows_test w (c == object) _ _ (omega arith) (grows_test w (leb widths.objects (length w.objects)) _ _ (omega arith) (omega (arith, more)))
grows_effect w (ops.Set o n v) = grows_left w _ (set_on-leaves w o n v (slice_get w.objects o))
grows_effect w (ops.Del o n) = grows_left w _ (del_on-leaves w o n (slice_get w.objects o))
grows_effect w (ops.SetClass o c) = grows_left w _ (set_class_on-leaves w o c (slice_get w.objects o))
grows_effect w (ops.Share o p) = grows_left w _ (share_on-leaves w o (slice_get w.objects o) (slice_get w.objects p))
grows_effect w (ops.Get o n) = omega arith
grows_effect w (ops.TypeGet c n) = omega arith
grows_effect w (ops.Super k o n) = omega arith
grows_effect w (ops.Special o n) = omega arith
grows_effect w (ops.ClassOf o) = omega arith
grows_effect w (ops.Mro c) = omega arith

grows_step : (w : World) (operation : op.Op) → Grows w (stepping.step w operation)
grows_step w operation =
    grows_test w (not (stepping.are_objects w (stepping.objects_in operation))) _ _ (omega arith)
    (grows_test w (not (stepping.are_made w (stepping.classes_in operation))) _ _ (omega arith) (grows_effect w operation))

grows_over : (w : World) (seen more : List op.Op) → length (replay w seen).objects ≤ length (replay w (seen ++ more)).objects
grows_over w [] [] = omega arith
grows_over w [] (operation ∷ more) =
    let one = grows_step w operation in
    let rest = grows_over (stepping.step w operation).world [] more in
    omega (arith, one, rest)
grows_over w (operation ∷ seen) more = grows_over (stepping.step w operation).world seen more

-- an object is there at each later point of the history
pub made_stays : (w : World) (seen at : List op.Op) (o : ℕ) (found : Object) → IsPrefix seen at → slice_get (replay w seen).objects o ≡ Some found → slice_get (replay w at).objects o ≢ None
made_stays w seen at o found later made none =
    let less = slice_get_within (replay w seen).objects o found made in
    let more : length (replay w seen).objects ≤ length (replay w at).objects = subst (λ (h : List op.Op). length (replay w seen).objects ≤ length (replay w h).objects) later.1 (grows_over w seen later.0) in
    let small : o < length (replay w at).objects = omega (arith, less, more) in
    absurd (cc (none, slice_get-get_or (replay w at).objects o found small))
