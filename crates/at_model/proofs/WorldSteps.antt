-- Each operation leaves a well-formed world well-formed.
use Rattle.std.proofs.Common.{◌≡◌, ◌≢◌, ◌∙◌, ap, sym, refl, subst, ℕ, ◌<◌, ◌≤◌, ◌==◌, inl, inr, cond, not, length, set, List, [], ◌∷◌, ◌++◌, Option, Some, None, Bool, true, false, is_some, is_none, All, nat_eq, ltb, leb, slice_get, ◌+◌, length-append, arith}
use Rattle.std.specs.List.{IsDistinct, list_all}
use Rattle.std.proofs.lemmas.Bool.{cases_lt, and_parts, or_parts, or_cases, not-false, eqb-true, eqb-false, ltb-true, leb-false, false≢true}
use Rattle.std.proofs.lemmas.List.{set_past, length-set, get_or_past}
use Rattle.std.proofs.lemmas.List.Elements.{All-weaker, All-get_or, All-set, All-push}
use Rattle.std.proofs.lemmas.Option.{slice_get_within, get_or_from_slice_get}
use Rattle.at_c3.proofs.NumberLemmas.{has, has-from_Contains, all_differ}
use Rattle.at_value.specs.Numbers.{object}
use Rattle.at_value.specs.Pairs.{value_at, with_value, without}
use Rattle.at_value.specs.declared.value.Value as value
use Rattle.at_value.specs.declared.value.Value.TheVariants as values
use Rattle.at_value.specs.declared.operation.Op as op
use Rattle.at_value.specs.declared.operation.Op.TheVariants as ops
use Rattle.at_value.specs.Widths as widths
use Rattle.at_desc.specs.declared.descriptor.Step as step
use Rattle.at_desc.specs.declared.descriptor.Step.TheVariants as steps
use Rattle.at_model.specs.declared.rows.ClassRow.{ClassRow}
use Rattle.at_model.specs.declared.rows.Object.{Object}
use Rattle.at_model.specs.World.{World, Map, row_of, own_of, bases_of, IsMade, NamesMade, IsNamespace, IsWellFormed}
use Rattle.at_model.specs.Attributes.{Outcome, dict_of, with_dict, set_by, set_on, del_own, del_by, del_on}
use Rattle.at_model.specs.Step as stepping
use Rattle.at_model.specs.History.{replay}
use Rattle.at_model.proofs.OrderLaws.{base_from_has}
use Rattle.at_model.proofs.Orders.{order_in-same_bases, made_below}
use Rattle.at_model.proofs.StoredOrders.{ordered-from_none, same_bases-own, is_some-from_bases}
use Rattle.at_model.proofs.Worlds.{no_names_namespace, with_value-namespace, without-namespace, namespace-grows, with_row, formed-with_row, with_objects, formed-with_objects}

-- either outcome of a test is well-formed
after_test : (b : Bool) (x y : Outcome) → (b ≡ true → IsWellFormed x.world) → (b ≡ false → IsWellFormed y.world) → IsWellFormed (cond b x y).world
after_test true x y yes_formed no_formed = yes_formed refl
after_test false x y yes_formed no_formed = no_formed refl

-- What an operation names is there

each_made : (is : ℕ → Bool) (b : ℕ) (classes : List ℕ) → list_all is classes ≡ true → has b classes ≡ true → is b ≡ true
each_made is b [] all at = absurd (false≢true at)
each_made is b (c ∷ classes) all at =
    let both = and_parts (is c) (list_all is classes) all in
    elim (or_cases (c == b) (has b classes) at) [
      | inl here ↦ subst (λ x. is x ≡ true) (eqb-true c b here) both.0
      | inr later ↦ each_made is b classes both.1 later
    ]

distinct-from_no_repeat : (classes : List ℕ) → stepping.has_repeat classes ≡ false → IsDistinct nat_eq classes
unfolding IsDistinct
distinct-from_no_repeat [] once = tt
distinct-from_no_repeat (c ∷ classes) once =
    let both = or_parts (has c classes) (stepping.has_repeat classes) once in
    (all_differ c classes both.0, distinct-from_no_repeat classes both.1)

value_there : (w : World) (v : value.Value) → stepping.are_objects w (stepping.object_in v) ≡ true
    → stepping.are_made w (stepping.class_in v) ≡ true → NamesMade w v
value_there w (values.Class c) objects classes = (and_parts (stepping.is_made w c) true classes).0
value_there w (values.Obj o) objects classes = ltb-true o (length w.objects) (and_parts (ltb o (length w.objects)) true objects).0
value_there w values.Nothing objects classes = tt
value_there w (values.Int z) objects classes = tt
value_there w (values.Text n) objects classes = tt
value_there w (values.Func f) objects classes = tt
value_there w (values.Prop p) objects classes = tt
value_there w (values.Static f) objects classes = tt
value_there w (values.ClassM f) objects classes = tt

-- Classes

-- a change that is made where each class has an order after it
if_ordered-formed : (w changed : World) → IsWellFormed w → (stepping.first_unordered changed ≡ None → IsWellFormed changed)
    → IsWellFormed (stepping.if_ordered w changed).world
if_ordered-formed w changed formed then_formed =
    elim (stepping.first_unordered changed) as (λ r. stepping.first_unordered changed ≡ r → IsWellFormed (stepping.unless_unordered w changed r).world) [
      | None ↦ then_formed
      | Some c ↦ λ _. formed
    ] refl

-- new bases for a class
with_bases-formed : (w : World) (c : ℕ) (row : ClassRow) → IsWellFormed w → c ≢ object → stepping.are_made w row.bases ≡ true
    → stepping.has_repeat row.bases ≡ false → IsNamespace w row.own
    → stepping.first_unordered (with_row w c row) ≡ None → IsWellFormed (with_row w c row)
with_bases-formed w c row formed other made once named none =
    elim (cases_lt c (length w.classes)) [
      | inl below ↦
          formed-with_row w c row formed below other (λ b at. each_made (stepping.is_made w) b row.bases made (has-from_Contains b row.bases at))
          (distinct-from_no_repeat row.bases once) named (ordered-from_none (with_row w c row) none)
      | inr past ↦ subst (λ classes. IsWellFormed (record w { classes = classes })) (sym (set_past w.classes c (Some row) past)) formed
    ]

new_class-formed : (w : World) (c : ℕ) (bases : List ℕ) → IsWellFormed w → stepping.are_made w bases ≡ true
    → IsWellFormed (stepping.new_class_effect w c bases).world
new_class-formed w c bases formed made =
    after_test (stepping.is_made w c) _ _ (λ _. formed) (λ free.
    after_test (stepping.is_empty bases) _ _ (λ _. formed) (λ _.
    after_test (stepping.has_repeat bases) _ _ (λ _. formed) (λ once.
    let other : c ≢ object = λ e. false≢true (sym free ∙ ap (stepping.is_made w) e ∙ ap is_some formed.rooted) in
    if_ordered-formed w (stepping.with_class w c bases) formed
    (with_bases-formed w c (record { bases = bases; own = [] }) formed other made once (no_names_namespace w)))))

set_bases-formed : (w : World) (c : ℕ) (bases : List ℕ) → IsWellFormed w → stepping.are_made w bases ≡ true
    → IsWellFormed (stepping.set_bases_effect w c bases).world
set_bases-formed w c bases formed made =
    after_test (c == object) _ _ (λ _. formed) (λ other.
    after_test (stepping.is_empty bases) _ _ (λ _. formed) (λ _.
    after_test (stepping.has_repeat bases) _ _ (λ _. formed) (λ once.
    after_test (stepping.is_cycle w c bases) _ _ (λ _. formed) (λ _.
    if_ordered-formed w (stepping.with_bases w c bases) formed
    (with_bases-formed w c (record { bases = bases; own = own_of (row_of w.classes c) }) formed (eqb-false c object other) made once (formed.owned c))))))

-- other names for a class
with_names-formed : (w : World) (c : ℕ) (row : Option ClassRow) (names : Map) → IsWellFormed w → row_of w.classes c ≡ row → c ≢ object
    → IsNamespace w names → IsWellFormed (record w { classes = stepping.with_names w.classes c row names })
with_names-formed w c None names formed at other named = formed
with_names-formed w c (Some row) names formed at other named =
    let now : ClassRow = record row { own = names } in
    let changed = with_row w c now in
    let same = same_bases-own w.classes c row names at in
    let long = length-set w.classes c (Some now) in
    formed-with_row w c now formed (made_below w.classes c (ap is_some at)) other
    (λ b base. formed.based c b (base_from_has w b c row at (has-from_Contains b row.bases base)))
    (subst (IsDistinct nat_eq) (ap bases_of at) (formed.distinct c)) named
    (λ d made.
    let found = formed.ordered d (is_some-from_bases (row_of w.classes d) (row_of changed.classes d) (same d) ∙ made) in
    (found.0, sym (order_in-same_bases w.classes changed.classes d same (sym long)) ∙ found.1))

type_set-formed : (w : World) (c n : ℕ) (v : value.Value) → IsWellFormed w → NamesMade w v → IsWellFormed (stepping.type_set_effect w c n v).world
type_set-formed w c n v formed there =
    after_test (c == object) _ _ (λ _. formed) (λ other.
    with_names-formed w c (row_of w.classes c) (with_value n v (own_of (row_of w.classes c))) formed refl (eqb-false c object other)
    (with_value-namespace w n v (own_of (row_of w.classes c)) there (formed.owned c)))

type_del-formed : (w : World) (c n : ℕ) → IsWellFormed w → IsWellFormed (stepping.type_del_effect w c n).world
type_del-formed w c n formed =
    after_test (c == object) _ _ (λ _. formed) (λ other.
    after_test (is_none (value_at n (own_of (row_of w.classes c)))) _ _ (λ _. formed) (λ _.
    with_names-formed w c (row_of w.classes c) (without n (own_of (row_of w.classes c))) formed refl (eqb-false c object other)
    (without-namespace w n (own_of (row_of w.classes c)) (formed.owned c))))

-- Objects

-- an object whose class and dictionary are there
abbrev IsPlaced : World → ℕ → Object → Type 0
IsPlaced w many o = IsMade w o.class × (o.dict < many)

new-formed : (w : World) (c : ℕ) → IsWellFormed w → IsMade w c → IsWellFormed (stepping.new_effect w c).world
new-formed w c formed made =
    after_test (c == object) _ _ (λ _. formed) (λ _.
    after_test (leb widths.objects (length w.objects)) _ _ (λ _. formed) (λ room.
    let fresh : Object = record { class = c; dict = length w.objects } in
    let objects = w.objects ++ fresh ∷ [] in
    let dicts = w.dicts ++ [] ∷ [] in
    let changed = with_objects w objects dicts in
    let one_more : length objects ≡ length w.objects + 1 = length-append w.objects (fresh ∷ []) in
    let one_dict : length dicts ≡ length w.dicts + 1 = length-append w.dicts ([] ∷ []) in
    let less : length w.objects < widths.objects = leb-false widths.objects (length w.objects) room in
    let paired : length w.dicts ≡ length w.objects = formed.paired in
    formed-with_objects w objects dicts formed (omega arith) (omega arith)
    (All-push (IsPlaced w (length objects)) w.objects fresh
    (All-weaker (IsPlaced w (length w.objects)) (IsPlaced w (length objects)) (λ o there. let below : o.dict < length w.objects = there.1 in (there.0, omega arith)) w.objects formed.placed)
    (made, omega arith))
    (omega arith)
    (All-push (IsNamespace changed) w.dicts [] (All-weaker (IsNamespace w) (IsNamespace changed) (namespace-grows w changed (λ d there. there, omega arith)) w.dicts formed.filled)
    (no_names_namespace changed))))

-- the dictionary of an object, with other names
with_dict-formed : (w : World) (d : ℕ) (names : Map) → IsWellFormed w → IsNamespace w names → IsWellFormed (with_dict w d names)
with_dict-formed w d names formed named =
    let dicts = set w.dicts d names in
    let changed = with_objects w w.objects dicts in
    let same : (held : Map) → IsNamespace w held → IsNamespace changed held = namespace-grows w changed (λ c there. there, omega arith) in
    formed-with_objects w w.objects dicts formed (omega arith) formed.few formed.placed (length-set w.dicts d names ∙ formed.paired)
    (All-set (IsNamespace changed) w.dicts d names (same names named) (All-weaker (IsNamespace w) (IsNamespace changed) same w.dicts formed.filled))

dict_of-named : (w : World) (o : Object) → IsWellFormed w → IsNamespace w (dict_of w o)
dict_of-named w o formed =
    elim (cases_lt o.dict (length w.dicts)) [
      | inl below ↦ All-get_or (IsNamespace w) w.dicts o.dict [] below formed.filled
      | inr past ↦ subst (IsNamespace w) (sym (get_or_past w.dicts o.dict [] past)) (no_names_namespace w)
    ]

set_by-formed : (w : World) (o : Object) (n : ℕ) (v : value.Value) (s : step.Step) → IsWellFormed w → NamesMade w v → IsWellFormed (set_by w o n v s).world
set_by-formed w o n v (steps.Says r) formed there = formed
set_by-formed w o n v steps.Own formed there =
    with_dict-formed w o.dict (with_value n v (dict_of w o)) formed (with_value-namespace w n v (dict_of w o) there (dict_of-named w o formed))

set_on-formed : (w : World) (o n : ℕ) (v : value.Value) (found : Option Object) → IsWellFormed w → NamesMade w v → IsWellFormed (set_on w o n v found).world
set_on-formed w o n v None formed there = formed
set_on-formed w o n v (Some found) formed there = set_by-formed w found n v _ formed there

del_own-formed : (w : World) (o : Object) (n : ℕ) (was : Option value.Value) → IsWellFormed w → IsWellFormed (del_own w o n was).world
del_own-formed w o n None formed = formed
del_own-formed w o n (Some v) formed = with_dict-formed w o.dict (without n (dict_of w o)) formed (without-namespace w n (dict_of w o) (dict_of-named w o formed))

del_by-formed : (w : World) (o : Object) (n : ℕ) (s : step.Step) → IsWellFormed w → IsWellFormed (del_by w o n s).world
del_by-formed w o n (steps.Says r) formed = formed
del_by-formed w o n steps.Own formed = del_own-formed w o n (value_at n (dict_of w o)) formed

del_on-formed : (w : World) (o n : ℕ) (found : Option Object) → IsWellFormed w → IsWellFormed (del_on w o n found).world
del_on-formed w o n None formed = formed
del_on-formed w o n (Some found) formed = del_by-formed w found n _ formed

placed_at : (w : World) (o : ℕ) (found : Object) → IsWellFormed w → slice_get w.objects o ≡ Some found → IsPlaced w (length w.objects) found
placed_at w o found formed at =
    subst (IsPlaced w (length w.objects)) (get_or_from_slice_get w.objects o found found at)
    (All-get_or (IsPlaced w (length w.objects)) w.objects o found (slice_get_within w.objects o found at) formed.placed)

-- another object in the place of one
with_object_at-formed : (w : World) (o : ℕ) (now : Object) → IsWellFormed w → IsPlaced w (length w.objects) now → IsWellFormed (stepping.with_object_at w o now)
with_object_at-formed w o now formed placed =
    let objects = set w.objects o now in
    let changed = with_objects w objects w.dicts in
    let long : length objects ≡ length w.objects = length-set w.objects o now in
    let few : length w.objects ≤ widths.objects = formed.few in
    formed-with_objects w objects w.dicts formed (omega arith) (omega arith)
    (subst (λ many. All (IsPlaced w many) objects) (sym long) (All-set (IsPlaced w (length w.objects)) w.objects o now placed formed.placed))
    (formed.paired ∙ sym long)
    (All-weaker (IsNamespace w) (IsNamespace changed) (namespace-grows w changed (λ c there. there, omega arith)) w.dicts formed.filled)

set_class-formed : (w : World) (o c : ℕ) (found : Option Object) → IsWellFormed w → IsMade w c → slice_get w.objects o ≡ found
    → IsWellFormed (stepping.set_class_on w o c found).world
set_class-formed w o c None formed made at = formed
set_class-formed w o c (Some was) formed made at =
    after_test (c == object) _ _ (λ _. formed) (λ _. with_object_at-formed w o (record was { class = c }) formed (made, (placed_at w o was formed at).1))

share-formed : (w : World) (o p : ℕ) (found other : Option Object) → IsWellFormed w → slice_get w.objects o ≡ found
    → slice_get w.objects p ≡ other → IsWellFormed (stepping.share_on w o found other).world
share-formed w o p None other formed at at_other = formed
share-formed w o p (Some was) None formed at at_other = formed
share-formed w o p (Some was) (Some other) formed at at_other =
    with_object_at-formed w o (record was { dict = other.dict }) formed ((placed_at w o was formed at).0, (placed_at w p other formed at_other).1)

-- Operations

effect-formed : (w : World) (operation : op.Op) → IsWellFormed w → stepping.are_objects w (stepping.objects_in operation) ≡ true
    → stepping.are_made w (stepping.classes_in operation) ≡ true
    → IsWellFormed (stepping.effect w operation).world
effect-formed w (ops.NewClass c bases) formed objects classes = new_class-formed w c bases formed classes
effect-formed w (ops.TypeSet c n v) formed objects classes =
    type_set-formed w c n v formed (value_there w v objects (and_parts (stepping.is_made w c) (stepping.are_made w (stepping.class_in v)) classes).1)
effect-formed w (ops.TypeDel c n) formed objects classes = type_del-formed w c n formed
effect-formed w (ops.SetBases c bases) formed objects classes = set_bases-formed w c bases formed (and_parts (stepping.is_made w c) (stepping.are_made w bases) classes).1
effect-formed w (ops.New c) formed objects classes = new-formed w c formed (and_parts (stepping.is_made w c) true classes).0
effect-formed w (ops.Set o n v) formed objects classes =
    set_on-formed w o n v (slice_get w.objects o) formed
    (value_there w v (and_parts (ltb o (length w.objects)) (stepping.are_objects w (stepping.object_in v)) objects).1 classes)
effect-formed w (ops.Del o n) formed objects classes = del_on-formed w o n (slice_get w.objects o) formed
effect-formed w (ops.SetClass o c) formed objects classes = set_class-formed w o c (slice_get w.objects o) formed (and_parts (stepping.is_made w c) true classes).0 refl
effect-formed w (ops.Share o p) formed objects classes = share-formed w o p (slice_get w.objects o) (slice_get w.objects p) formed refl refl
effect-formed w (ops.Get o n) formed objects classes = formed
effect-formed w (ops.TypeGet c n) formed objects classes = formed
effect-formed w (ops.Super k o n) formed objects classes = formed
effect-formed w (ops.Special o n) formed objects classes = formed
effect-formed w (ops.ClassOf o) formed objects classes = formed
effect-formed w (ops.Mro c) formed objects classes = formed

pub step-formed : (w : World) (operation : op.Op) → IsWellFormed w → IsWellFormed (stepping.step w operation).world
step-formed w operation formed =
    after_test (not (stepping.are_objects w (stepping.objects_in operation))) _ _ (λ _. formed) (λ objects.
    after_test (not (stepping.are_made w (stepping.classes_in operation))) _ _ (λ _. formed) (λ classes.
    effect-formed w operation formed (not-false (stepping.are_objects w (stepping.objects_in operation)) objects) (not-false (stepping.are_made w (stepping.classes_in operation)) classes)))

pub replay-formed : (opened : World) (operations : List op.Op) → IsWellFormed opened → IsWellFormed (replay opened operations)
replay-formed opened [] formed = formed
replay-formed opened (operation ∷ operations) formed = replay-formed (stepping.step opened operation).world operations (step-formed opened operation formed)
