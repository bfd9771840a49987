-- Where what an operation needs is held, it has the same reply.
use Rattle.std.proofs.Common.{◌≡◌, ◌∙◌, ap, refl, sym, subst, ℕ, suc, ◌==◌, ◌&&◌, cond, not, length, List, [], ◌∷◌, Option, Some, None, Bool, true, false, IsTrue, is_some, is_none, leb, slice_get, Contains}
use Rattle.std.proofs.lemmas.Bool.{true≢false}
use Rattle.at_value.specs.Numbers.{object, getattr}
use Rattle.at_value.specs.Pairs.{value_at}
use Rattle.at_value.specs.declared.value.Value as value
use Rattle.at_value.specs.declared.value.Value.TheVariants as values
use Rattle.at_value.specs.declared.operation.Op as op
use Rattle.at_value.specs.declared.operation.Op.TheVariants as ops
use Rattle.at_value.specs.Widths as widths
use Rattle.at_desc.specs.Binding.{bound_get, bound_special, bound_class, bound_set, bound_del}
use Rattle.at_desc.specs.declared.descriptor.Three.{Three}
use Rattle.at_desc.specs.declared.descriptor.Step as binding
use Rattle.at_desc.specs.declared.descriptor.Step.TheVariants as bindings
use Rattle.at_model.specs.declared.rows.ClassRow.{ClassRow}
use Rattle.at_model.specs.declared.rows.Object.{Object}
use Rattle.at_model.specs.World.{World, Map, row_of, own_of, order_of, find_in, find_along}
use Rattle.at_model.specs.Attributes.{Outcome, three_of_object, three_of, dict_of, get_on, special_on, classes_after_in, super_along, super_on, set_by, set_on, del_own, del_by, del_on}
use Rattle.at_model.specs.Step as stepping
use Rattle.at_model.proofs.OrderLaws.{no_base}
use Rattle.at_model.proofs.OnlyWrites.{reads_write_nothing}
use Rattle.at_line.specs.Kept.{with_dict_name, rows_of}
use Rattle.at_core.specs.declared.lock.Lock.TheVariants as locks
use Rattle.at_core.specs.Locks.{IsUnchanged}
use Rattle.at_core.specs.Writes.{moved_by, dict_named, read_by, IsSameAt, HeldOperationsStay}
use Rattle.at_core.proofs.Written.{get_or-same, first_in, dict_in}

-- the world with other dictionaries
abbrev with_dicts : World → List Map → World
with_dicts w dicts = record w { dicts = dicts }

-- the outcomes have the same reply
abbrev IsSaid : Outcome → Outcome → Type 0
IsSaid x y = x.reply ≡ y.reply

-- so have those of a test whose outcomes have
said_by_test : (b : Bool) (x x' y y' : Outcome) → IsSaid x x' → IsSaid y y' → IsSaid (cond b x y) (cond b x' y')
said_by_test true x x' y y' one other = one
said_by_test false x x' y y' one other = other

-- a change of the classes is refused in both worlds for the same class without an order, or in neither

unordered-same : (w : World) (dicts : List Map) (c : ℕ) (rows : List (Option ClassRow))
    → stepping.first_unordered_from (with_dicts w dicts) c rows ≡ stepping.first_unordered_from w c rows
unordered-same w dicts c [] = refl
unordered-same w dicts c (row ∷ rows) =
    ap (λ later. cond (is_some row && is_none (order_of w c)) (Some c) later) (unordered-same w dicts (suc c) rows)

order_said : (w v changed after : World) (first : Option ℕ)
    → IsSaid (stepping.unless_unordered w changed first) (stepping.unless_unordered v after first)
order_said w v changed after None = refl
order_said w v changed after (Some c) = refl

if_ordered-said : (w changed : World) (dicts : List Map)
    → IsSaid (stepping.if_ordered (with_dicts w dicts) (with_dicts changed dicts)) (stepping.if_ordered w changed)
if_ordered-said w changed dicts =
    let v = with_dicts w dicts in
    let after = with_dicts changed dicts in
    ap (λ first. (stepping.unless_unordered v after first).reply) (unordered-same changed dicts 0 changed.classes)
    ∙ order_said v w after changed (stepping.first_unordered changed)

module _ (w : World) (dicts : List Map) where
  abbrev now : World
  now = with_dicts w dicts

  -- a dictionary is as it was
  abbrev IsSameDict : ℕ → Type 0
  IsSameDict d = slice_get dicts d ≡ slice_get w.dicts d

  -- so is that which the object names
  abbrev IsNamedSame : Option Object → Type 0
  IsNamedSame at = (found : Object) → at ≡ Some found → IsSameDict found.dict

  dict-same : (found : Object) → IsSameDict found.dict → dict_of now found ≡ dict_of w found
  dict-same found same = get_or-same dicts w.dicts found.dict [] same

  -- What a class has

  three_of_object-same : (found : Option Object) → three_of_object now found ≡ three_of_object w found
  three_of_object-same None = refl
  three_of_object-same (Some found) = refl

  three-same : (t : Option value.Value) → three_of now t ≡ three_of w t
  three-same (Some (values.Obj d)) = three_of_object-same (slice_get w.objects d)
  three-same t = refl

  -- Reading

  get_said : (o n : ℕ) (at : Option Object) → IsNamedSame at → get_on now o n at ≡ get_on w o n at
  get_said o n None same = refl
  get_said o n (Some found) same =
      let t = find_in w found.class n in
      let a = find_in w found.class getattr in
      ap (λ (three : Three). bound_get t three (value_at n (dict_of now found)) o found.class n a) (three-same t)
      ∙ ap (λ (names : Map). bound_get t (three_of w t) (value_at n names) o found.class n a)
      (dict-same found (same found refl))

  special_said : (o n : ℕ) (at : Option Object) → special_on now o n at ≡ special_on w o n at
  special_said o n None = refl
  special_said o n (Some found) =
      let t = find_in w found.class n in ap (λ (three : Three). bound_special t three o found.class) (three-same t)

  super_along-said : (o n c : ℕ) (rest : Option (List ℕ)) → super_along now o n c rest ≡ super_along w o n c rest
  super_along-said o n c None = refl
  super_along-said o n c (Some rest) =
      let t = find_along w.classes rest n in ap (λ (three : Three). bound_special t three o c) (three-same t)

  super_said : (k o n : ℕ) (at : Option Object) → super_on now k o n at ≡ super_on w k o n at
  super_said k o n None = refl
  super_said k o n (Some found) = super_along-said o n found.class (classes_after_in k (order_of w found.class))

  -- Writing

  set_by-said : (o : Object) (n : ℕ) (v : value.Value) (b : binding.Step)
      → IsSaid (set_by now o n v b) (set_by w o n v b)
  set_by-said o n v (bindings.Says r) = refl
  set_by-said o n v bindings.Own = refl

  set_said : (o n : ℕ) (v : value.Value) (at : Option Object) → IsSaid (set_on now o n v at) (set_on w o n v at)
  set_said o n v None = refl
  set_said o n v (Some found) =
      let t = find_in w found.class n in
      ap (λ (three : Three). (set_by now found n v (bound_set t three o v)).reply) (three-same t)
      ∙ set_by-said found n v (bound_set t (three_of w t) o v)

  del_own-said : (o : Object) (n : ℕ) (was : Option value.Value) → IsSaid (del_own now o n was) (del_own w o n was)
  del_own-said o n None = refl
  del_own-said o n (Some v) = refl

  del_by-said : (o : Object) (n : ℕ) (b : binding.Step) → IsSameDict o.dict → IsSaid (del_by now o n b) (del_by w o n b)
  del_by-said o n (bindings.Says r) same = refl
  del_by-said o n bindings.Own same =
      ap (λ (names : Map). (del_own now o n (value_at n names)).reply) (dict-same o same)
      ∙ del_own-said o n (value_at n (dict_of w o))

  del_said : (o n : ℕ) (at : Option Object) → IsNamedSame at → IsSaid (del_on now o n at) (del_on w o n at)
  del_said o n None same = refl
  del_said o n (Some found) same =
      let t = find_in w found.class n in
      ap (λ (three : Three). (del_by now found n (bound_del t three o)).reply) (three-same t)
      ∙ del_by-said found n (bound_del t (three_of w t) o) (same found refl)

  class_said : (o c : ℕ) (at : Option Object)
      → IsSaid (stepping.set_class_on now o c at) (stepping.set_class_on w o c at)
  class_said o c None = refl
  class_said o c (Some was) = said_by_test (c == object) _ _ _ _ refl refl

  share_said : (o : ℕ) (at other : Option Object)
      → IsSaid (stepping.share_on now o at other) (stepping.share_on w o at other)
  share_said o None other = refl
  share_said o (Some was) None = refl
  share_said o (Some was) (Some other) = refl

  -- The operations

  -- each dictionary that the operation writes or reads is as it was
  abbrev AreDictsSame : op.Op → Type 0
  AreDictsSame operation =
      ((d : ℕ) → Contains (rows_of w operation) d → IsSameDict d)
      × ((d : ℕ) → Contains (read_by w operation) d → IsSameDict d)

  named_in : (at : Option Object) (found : Object) → at ≡ Some found → Contains (dict_named at) found.dict
  named_in at found is =
      subst (λ r. Contains (dict_named r) found.dict) (sym is) (first_in found.dict found.dict [] refl)

  written_same : (o : ℕ) (at : Option Object) → ((d : ℕ) → Contains (with_dict_name o at) d → IsSameDict d)
      → IsNamedSame at
  written_same o at same found is = same found.dict (dict_in found.dict o at found is refl)

  read_same : (at : Option Object) → ((d : ℕ) → Contains (dict_named at) d → IsSameDict d) → IsNamedSame at
  read_same at same found is = same found.dict (named_in at found is)

  effect_said : (operation : op.Op) → AreDictsSame operation
      → IsSaid (stepping.effect now operation) (stepping.effect w operation)
  effect_said (ops.NewClass c bases) same =
      said_by_test (stepping.is_made w c) _ _ _ _ refl
      (said_by_test (stepping.is_empty bases) _ _ _ _ refl
      (said_by_test (stepping.has_repeat bases) _ _ _ _ refl (if_ordered-said w (stepping.with_class w c bases) dicts)))
  effect_said (ops.TypeSet c n v) same = said_by_test (c == object) _ _ _ _ refl refl
  effect_said (ops.TypeDel c n) same =
      said_by_test (c == object) _ _ _ _ refl
      (said_by_test (is_none (value_at n (own_of (row_of w.classes c)))) _ _ _ _ refl refl)
  effect_said (ops.SetBases c bases) same =
      said_by_test (c == object) _ _ _ _ refl
      (said_by_test (stepping.is_empty bases) _ _ _ _ refl
      (said_by_test (stepping.has_repeat bases) _ _ _ _ refl
      (said_by_test (stepping.is_cycle w c bases) _ _ _ _ refl
      (if_ordered-said w (stepping.with_bases w c bases) dicts))))
  effect_said (ops.New c) same =
      said_by_test (c == object) _ _ _ _ refl (said_by_test (leb widths.objects (length w.objects)) _ _ _ _ refl refl)
  effect_said (ops.Set o n v) same = set_said o n v (slice_get w.objects o)
  effect_said (ops.Del o n) same =
      let at = slice_get w.objects o in del_said o n at (written_same o at same.0)
  effect_said (ops.SetClass o c) same = class_said o c (slice_get w.objects o)
  effect_said (ops.Share o p) same = share_said o (slice_get w.objects o) (slice_get w.objects p)
  effect_said (ops.Get o n) same = let at = slice_get w.objects o in get_said o n at (read_same at same.1)
  effect_said (ops.TypeGet c n) same =
      let t = find_in w c n in ap (λ (three : Three). bound_class t three c) (three-same t)
  effect_said (ops.Super k o n) same = super_said k o n (slice_get w.objects o)
  effect_said (ops.Special o n) same = special_said o n (slice_get w.objects o)
  effect_said (ops.ClassOf o) same = refl
  effect_said (ops.Mro c) same = refl

  step_said : (operation : op.Op) → AreDictsSame operation
      → IsSaid (stepping.step now operation) (stepping.step w operation)
  step_said operation same =
      said_by_test (not (stepping.are_objects w (stepping.objects_in operation))) _ _ _ _ refl
      (said_by_test (not (stepping.are_made w (stepping.classes_in operation))) _ _ _ _ refl
      (effect_said operation same))

  -- what it touches and moves is told by the objects alone
  touches-same : (operation : op.Op)
      → (rows_of now operation ≡ rows_of w operation) × (moved_by now operation ≡ moved_by w operation)
  touches-same (ops.NewClass c bases) = (refl, refl)
  touches-same (ops.TypeSet c n v) = (refl, refl)
  touches-same (ops.TypeDel c n) = (refl, refl)
  touches-same (ops.SetBases c bases) = (refl, refl)
  touches-same (ops.New c) = (refl, refl)
  touches-same (ops.Set o n v) = (refl, refl)
  touches-same (ops.Del o n) = (refl, refl)
  touches-same (ops.SetClass o c) = (refl, refl)
  touches-same (ops.Share o p) = (refl, refl)
  touches-same (ops.Get o n) = (refl, refl)
  touches-same (ops.TypeGet c n) = (refl, refl)
  touches-same (ops.Super k o n) = (refl, refl)
  touches-same (ops.Special o n) = (refl, refl)
  touches-same (ops.ClassOf o) = (refl, refl)
  touches-same (ops.Mro c) = (refl, refl)

  same_at : (operation : op.Op) → AreDictsSame operation → IsSameAt w now operation
  same_at operation same =
      let said = step_said operation same in
      let touches = touches-same operation in
      record { reply = said; write = ap stepping.is_done said; rows = touches.0; moved = touches.1 }

pub held_operations_stay : HeldOperationsStay
held_operations_stay w now operation held =
    let is : now ≡ with_dicts w now.dicts =
    λ k. record { classes = held.types.0 k; objects = held.types.1 k; dicts = now.dicts } in
    subst (λ v. IsSameAt w v operation) (sym is)
    (same_at w now.dicts operation ((λ o at. (held.rows o at).1), (λ o at. (held.reads o at).1)))

-- a write reads no dictionary but those that it writes
no_reads : (w : World) (operation : op.Op) (o : ℕ) → IsTrue (stepping.is_write w operation)
    → ¬ Contains (read_by w operation) o
no_reads w (ops.Get p n) o writes at = absurd (true≢false (sym writes ∙ reads_write_nothing w (ops.Get p n) refl))
no_reads w (ops.NewClass c bases) o writes at = no_base o at
no_reads w (ops.TypeSet c n v) o writes at = no_base o at
no_reads w (ops.TypeDel c n) o writes at = no_base o at
no_reads w (ops.SetBases c bases) o writes at = no_base o at
no_reads w (ops.New c) o writes at = no_base o at
no_reads w (ops.Set p n v) o writes at = no_base o at
no_reads w (ops.Del p n) o writes at = no_base o at
no_reads w (ops.SetClass p c) o writes at = no_base o at
no_reads w (ops.Share p q) o writes at = no_base o at
no_reads w (ops.TypeGet c n) o writes at = no_base o at
no_reads w (ops.Super k p n) o writes at = no_base o at
no_reads w (ops.Special p n) o writes at = no_base o at
no_reads w (ops.ClassOf p) o writes at = no_base o at
no_reads w (ops.Mro c) o writes at = no_base o at

-- so a write stays where its rows and the types are held
pub held_writes_stay : (w now : World) (operation : op.Op) → IsTrue (stepping.is_write w operation)
    → IsUnchanged locks.Types w now → ((o : ℕ) → Contains (rows_of w operation) o → IsUnchanged (locks.Row o) w now)
    → IsSameAt w now operation
held_writes_stay w now operation writes types rows =
    held_operations_stay w now operation
    (record { types = types; rows = rows; reads = λ o at. absurd (no_reads w operation o writes at) })
