-- What an operation leaves as it was, and histories with one operation more.
use Rattle.std.proofs.Common.{◌≡◌, ◌≢◌, ◌∙◌, ap, sym, refl, subst, ℕ, zero, suc, ◌+◌, ◌==◌, cond, not, length, set, get_or, List, [], ◌∷◌, ◌++◌, Option, Some, None, Bool, true, false, IsTrue, is_none, leb, slice_get, unwrap_or, length-append, Contains, arith}
use Rattle.std.proofs.lemmas.Bool.{true≢false}
use Rattle.std.proofs.lemmas.List.{length-set}
use Rattle.std.proofs.lemmas.Option.{unwrap_or-slice_get}
use Rattle.at_value.specs.Numbers.{object}
use Rattle.at_value.specs.Pairs.{value_at, with_value, without}
use Rattle.at_value.specs.declared.value.Value as value
use Rattle.at_value.specs.declared.operation.Op as op
use Rattle.at_value.specs.declared.operation.Op.TheVariants as ops
use Rattle.at_value.specs.Widths as widths
use Rattle.at_desc.specs.declared.descriptor.Step as binding
use Rattle.at_desc.specs.declared.descriptor.Step.TheVariants as bindings
use Rattle.at_model.specs.declared.rows.Object.{Object}
use Rattle.at_model.specs.World.{World, Map, row_of, own_of}
use Rattle.at_model.specs.Attributes.{Outcome, dict_of, with_dict, set_by, set_on, del_own, del_by, del_on}
use Rattle.at_model.specs.Step as stepping
use Rattle.at_model.specs.History.{replay, IsProper}
use Rattle.at_line.specs.Kept.{with_dict_name, rows_of}
use Rattle.at_core.specs.declared.lock.Lock.TheVariants as locks
use Rattle.at_core.specs.Locks.{IsUnchanged}
use Rattle.at_core.specs.Writes.{moved_by, needs_types, LeavesTypes, LeavesObjects, LeavesRows}

-- What an operation makes of a world

-- so it is with each world in which the dictionary that the object names has other values
abbrev MakesDict : (World → Type 0) → World → Option Object → Type 0
MakesDict P w at = (found : Object) → at ≡ Some found → (names : Map) → P (with_dict w found.dict names)

-- so it is with each world in which this object is another
abbrev MakesObject : (World → Type 0) → World → ℕ → Type 0
MakesObject P w o = (now : Object) → P (stepping.with_object_at w o now)

-- so it is with each world that the operation may lead to, other than the one before it
abbrev Makes : (World → Type 0) → World → op.Op → Type 0
Makes P w (ops.NewClass c bases) = P (stepping.with_class w c bases)
Makes P w (ops.TypeSet c n v) = (names : Map) → P (stepping.with_own w c names)
Makes P w (ops.TypeDel c n) = (names : Map) → P (stepping.with_own w c names)
Makes P w (ops.SetBases c bases) = P (stepping.with_bases w c bases)
Makes P w (ops.New c) = P (stepping.with_object w c)
Makes P w (ops.Set o n v) = MakesDict P w (slice_get w.objects o)
Makes P w (ops.Del o n) = MakesDict P w (slice_get w.objects o)
Makes P w (ops.SetClass o c) = MakesObject P w o
Makes P w (ops.Share o p) = MakesObject P w o
Makes P w (ops.Get o n) = Unit {0}
Makes P w (ops.TypeGet c n) = Unit {0}
Makes P w (ops.Super k o n) = Unit {0}
Makes P w (ops.Special o n) = Unit {0}
Makes P w (ops.ClassOf o) = Unit {0}
Makes P w (ops.Mro c) = Unit {0}

module _ (P : World → Type 0) (w : World) (same : P w) where
  -- either outcome of a test
  by_test : (b : Bool) (x y : Outcome) → P x.world → P y.world → P (cond b x y).world
  by_test true x y one other = one
  by_test false x y one other = other

  by_order : (changed : World) (first : Option ℕ) → P changed → P (stepping.unless_unordered w changed first).world
  by_order changed None made = made
  by_order changed (Some c) made = same

  by_set : (o : Object) (n : ℕ) (v : value.Value) (b : binding.Step) → ((names : Map) → P (with_dict w o.dict names))
      → P (set_by w o n v b).world
  by_set o n v (bindings.Says r) made = same
  by_set o n v bindings.Own made = made (with_value n v (dict_of w o))

  by_set_on : (o n : ℕ) (v : value.Value) (at : Option Object) → MakesDict P w at → P (set_on w o n v at).world
  by_set_on o n v None made = same
  by_set_on o n v (Some found) made = by_set found n v _ (made found refl)

  by_del_own : (o : Object) (n : ℕ) (was : Option value.Value) → ((names : Map) → P (with_dict w o.dict names))
      → P (del_own w o n was).world
  by_del_own o n None made = same
  by_del_own o n (Some v) made = made (without n (dict_of w o))

  by_del : (o : Object) (n : ℕ) (b : binding.Step) → ((names : Map) → P (with_dict w o.dict names))
      → P (del_by w o n b).world
  by_del o n (bindings.Says r) made = same
  by_del o n bindings.Own made = by_del_own o n (value_at n (dict_of w o)) made

  by_del_on : (o n : ℕ) (at : Option Object) → MakesDict P w at → P (del_on w o n at).world
  by_del_on o n None made = same
  by_del_on o n (Some found) made = by_del found n _ (made found refl)

  by_class : (o c : ℕ) (at : Option Object) → MakesObject P w o → P (stepping.set_class_on w o c at).world
  by_class o c None made = same
  by_class o c (Some was) made = by_test (c == object) _ _ same (made (record was { class = c }))

  by_share : (o : ℕ) (at other : Option Object) → MakesObject P w o → P (stepping.share_on w o at other).world
  by_share o None other made = same
  by_share o (Some was) None made = same
  by_share o (Some was) (Some other) made = made (record was { dict = other.dict })

  by_effect : (operation : op.Op) → Makes P w operation → P (stepping.effect w operation).world
  by_effect (ops.NewClass c bases) made =
      by_test (stepping.is_made w c) _ _ same
      (by_test (stepping.is_empty bases) _ _ same
      (by_test (stepping.has_repeat bases) _ _ same (by_order (stepping.with_class w c bases) _ made)))
  by_effect (ops.TypeSet c n v) made = by_test (c == object) _ _ same (made _)
  by_effect (ops.TypeDel c n) made =
      by_test (c == object) _ _ same (by_test (is_none (value_at n (own_of (row_of w.classes c)))) _ _ same (made _))
  by_effect (ops.SetBases c bases) made =
      by_test (c == object) _ _ same
      (by_test (stepping.is_empty bases) _ _ same
      (by_test (stepping.has_repeat bases) _ _ same
      (by_test (stepping.is_cycle w c bases) _ _ same (by_order (stepping.with_bases w c bases) _ made))))
  by_effect (ops.New c) made =
      by_test (c == object) _ _ same (by_test (leb widths.objects (length w.objects)) _ _ same made)
  by_effect (ops.Set o n v) made = by_set_on o n v (slice_get w.objects o) made
  by_effect (ops.Del o n) made = by_del_on o n (slice_get w.objects o) made
  by_effect (ops.SetClass o c) made = by_class o c (slice_get w.objects o) made
  by_effect (ops.Share o p) made = by_share o (slice_get w.objects o) (slice_get w.objects p) made
  by_effect (ops.Get o n) made = same
  by_effect (ops.TypeGet c n) made = same
  by_effect (ops.Super k o n) made = same
  by_effect (ops.Special o n) made = same
  by_effect (ops.ClassOf o) made = same
  by_effect (ops.Mro c) made = same

  by_step : (operation : op.Op) → Makes P w operation → P (stepping.step w operation).world
  by_step operation made =
      by_test (not (stepping.are_objects w (stepping.objects_in operation))) _ _ same
      (by_test (not (stepping.are_made w (stepping.classes_in operation))) _ _ same (by_effect operation made))

-- What a write leaves as it was

types_left : (w : World) (operation : op.Op) → needs_types operation ≡ false
    → Makes (IsUnchanged locks.Types w) w operation
types_left w (ops.Set o n v) none = λ found at names. (refl, refl)
types_left w (ops.Del o n) none = λ found at names. (refl, refl)
types_left w (ops.NewClass c bases) none = absurd (true≢false none)
types_left w (ops.TypeSet c n v) none = absurd (true≢false none)
types_left w (ops.TypeDel c n) none = absurd (true≢false none)
types_left w (ops.SetBases c bases) none = absurd (true≢false none)
types_left w (ops.New c) none = absurd (true≢false none)
types_left w (ops.SetClass o c) none = absurd (true≢false none)
types_left w (ops.Share o p) none = absurd (true≢false none)
types_left w (ops.Get o n) none = tt
types_left w (ops.TypeGet c n) none = tt
types_left w (ops.Super k o n) none = tt
types_left w (ops.Special o n) none = tt
types_left w (ops.ClassOf o) none = tt
types_left w (ops.Mro c) none = tt

pub leaves_types : LeavesTypes
leaves_types w operation none =
    by_step (IsUnchanged locks.Types w) w (refl, refl) operation (types_left w operation none)

module _ {A : Type 0} where
  pub slice_get-set_other : (xs : List A) (i j : ℕ) (x : A) → j ≢ i → slice_get (set xs i x) j ≡ slice_get xs j
  slice_get-set_other [] i j x other = refl
  slice_get-set_other (y ∷ xs) zero zero x other = absurd (other refl)
  slice_get-set_other (y ∷ xs) zero (suc j) x other = refl
  slice_get-set_other (y ∷ xs) (suc i) zero x other = refl
  slice_get-set_other (y ∷ xs) (suc i) (suc j) x other = slice_get-set_other xs i j x (λ same. other (ap suc same))

  pub slice_get-push_other : (xs : List A) (j : ℕ) (x : A) → j ≢ length xs → slice_get (xs ++ x ∷ []) j ≡ slice_get xs j
  slice_get-push_other [] zero x other = absurd (other refl)
  slice_get-push_other [] (suc j) x other = refl
  slice_get-push_other (y ∷ xs) zero x other = refl
  slice_get-push_other (y ∷ xs) (suc j) x other = slice_get-push_other xs j x (λ same. other (ap suc same))

  -- the same element at a place, or none, gives the same reading there
  pub get_or-same : (xs ys : List A) (i : ℕ) (d : A) → slice_get xs i ≡ slice_get ys i → get_or xs i d ≡ get_or ys i d
  get_or-same xs ys i d same =
      sym (unwrap_or-slice_get xs i d) ∙ ap (λ r. unwrap_or r d) same ∙ unwrap_or-slice_get ys i d

-- the first and the second of some numbers are among them
pub first_in : (o p : ℕ) (rest : List ℕ) → o ≡ p → Contains (p ∷ rest) o
first_in o p rest same = (0, omega arith, sym same)

pub second_in : (o p q : ℕ) (rest : List ℕ) → o ≡ q → Contains (p ∷ q ∷ rest) o
second_in o p q rest same = (1, omega arith, sym same)

pub dict_in : (o p : ℕ) (at : Option Object) (found : Object) → at ≡ Some found → o ≡ found.dict
    → Contains (with_dict_name p at) o
dict_in o p at found is same = subst (λ r. Contains (with_dict_name p r) o) (sym is) (second_in o p found.dict [] same)

-- an object that isn't moved
abbrev IsLeft : World → ℕ → World → Type 0
IsLeft w o now = slice_get now.objects o ≡ slice_get w.objects o

still_left : (w : World) (operation : op.Op) (o : ℕ) → ¬ Contains (moved_by w operation) o → Makes (IsLeft w o) w operation
still_left w (ops.NewClass c bases) o moved = refl
still_left w (ops.TypeSet c n v) o moved = λ names. refl
still_left w (ops.TypeDel c n) o moved = λ names. refl
still_left w (ops.SetBases c bases) o moved = refl
still_left w (ops.New c) o moved = slice_get-push_other w.objects o _ (λ same. moved (first_in o (length w.objects) [] same))
still_left w (ops.Set p n v) o moved = λ found at names. refl
still_left w (ops.Del p n) o moved = λ found at names. refl
still_left w (ops.SetClass p c) o moved = λ now. slice_get-set_other w.objects p o now (λ same. moved (first_in o p [] same))
still_left w (ops.Share p q) o moved = λ now. slice_get-set_other w.objects p o now (λ same. moved (first_in o p [] same))
still_left w (ops.Get p n) o moved = tt
still_left w (ops.TypeGet c n) o moved = tt
still_left w (ops.Super k p n) o moved = tt
still_left w (ops.Special p n) o moved = tt
still_left w (ops.ClassOf p) o moved = tt
still_left w (ops.Mro c) o moved = tt

pub leaves_objects : LeavesObjects
leaves_objects w operation o moved = by_step (IsLeft w o) w refl operation (still_left w operation o moved)

-- another dictionary isn't that which the object names, where that is among the rows
dict_left : (w : World) (o p : ℕ) → ¬ Contains (with_dict_name p (slice_get w.objects p)) o
    → MakesDict (IsUnchanged (locks.Row o) w) w (slice_get w.objects p)
dict_left w o p rows found at names =
    let other : o ≢ found.dict = λ same. rows (dict_in o p (slice_get w.objects p) found at same) in
    (refl, slice_get-set_other w.dicts found.dict o names other)

object_left : (w : World) (o p : ℕ) → o ≢ p → MakesObject (IsUnchanged (locks.Row o) w) w p
object_left w o p other now = (slice_get-set_other w.objects p o now other, refl)

rows_left : (w : World) (operation : op.Op) (o : ℕ) → length w.dicts ≡ length w.objects
    → ¬ Contains (rows_of w operation) o → ¬ Contains (moved_by w operation) o
    → Makes (IsUnchanged (locks.Row o) w) w operation
rows_left w (ops.NewClass c bases) o paired rows moved = (refl, refl)
rows_left w (ops.TypeSet c n v) o paired rows moved = λ names. (refl, refl)
rows_left w (ops.TypeDel c n) o paired rows moved = λ names. (refl, refl)
rows_left w (ops.SetBases c bases) o paired rows moved = (refl, refl)
rows_left w (ops.New c) o paired rows moved =
    let other : o ≢ length w.objects = λ same. moved (first_in o (length w.objects) [] same) in
    (slice_get-push_other w.objects o _ other, slice_get-push_other w.dicts o [] (λ same. other (same ∙ paired)))
rows_left w (ops.Set p n v) o paired rows moved = dict_left w o p rows
rows_left w (ops.Del p n) o paired rows moved = dict_left w o p rows
rows_left w (ops.SetClass p c) o paired rows moved = object_left w o p (λ same. rows (first_in o p [] same))
rows_left w (ops.Share p q) o paired rows moved = object_left w o p (λ same. rows (first_in o p (q ∷ []) same))
rows_left w (ops.Get p n) o paired rows moved = tt
rows_left w (ops.TypeGet c n) o paired rows moved = tt
rows_left w (ops.Super k p n) o paired rows moved = tt
rows_left w (ops.Special p n) o paired rows moved = tt
rows_left w (ops.ClassOf p) o paired rows moved = tt
rows_left w (ops.Mro c) o paired rows moved = tt

pub leaves_rows : LeavesRows
leaves_rows w operation o paired rows moved =
    by_step (IsUnchanged (locks.Row o) w) w (refl, refl) operation (rows_left w operation o paired rows moved)

-- Histories

-- there is a dictionary for each object
abbrev IsPaired : World → Type 0
IsPaired w = length w.dicts ≡ length w.objects

pairs_left : (w : World) (operation : op.Op) → IsPaired w → Makes IsPaired w operation
pairs_left w (ops.NewClass c bases) paired = paired
pairs_left w (ops.TypeSet c n v) paired = λ names. paired
pairs_left w (ops.TypeDel c n) paired = λ names. paired
pairs_left w (ops.SetBases c bases) paired = paired
pairs_left w (ops.New c) paired =
    length-append w.dicts ([] ∷ []) ∙ ap (λ long. long + 1) paired ∙ sym (length-append w.objects (_ ∷ []))
pairs_left w (ops.Set o n v) paired = λ found at names. length-set w.dicts found.dict names ∙ paired
pairs_left w (ops.Del o n) paired = λ found at names. length-set w.dicts found.dict names ∙ paired
pairs_left w (ops.SetClass o c) paired = λ now. paired ∙ sym (length-set w.objects o now)
pairs_left w (ops.Share o p) paired = λ now. paired ∙ sym (length-set w.objects o now)
pairs_left w (ops.Get o n) paired = tt
pairs_left w (ops.TypeGet c n) paired = tt
pairs_left w (ops.Super k o n) paired = tt
pairs_left w (ops.Special o n) paired = tt
pairs_left w (ops.ClassOf o) paired = tt
pairs_left w (ops.Mro c) paired = tt

pub replay_paired : (opened : World) (history : List op.Op) → length opened.dicts ≡ length opened.objects
    → length (replay opened history).dicts ≡ length (replay opened history).objects
replay_paired opened [] paired = paired
replay_paired opened (operation ∷ history) paired =
    let after = by_step IsPaired opened paired operation (pairs_left opened operation paired) in
    replay_paired (stepping.step opened operation).world history after

pub replay_snoc : (opened : World) (history : List op.Op) (operation : op.Op)
    → replay opened (history ++ operation ∷ []) ≡ (stepping.step (replay opened history) operation).world
replay_snoc opened [] operation = refl
replay_snoc opened (first ∷ history) operation = replay_snoc (stepping.step opened first).world history operation

pub proper_snoc : (opened : World) (history : List op.Op) (operation : op.Op) → IsProper opened history
    → IsTrue (stepping.is_write (replay opened history) operation) → IsProper opened (history ++ operation ∷ [])
proper_snoc opened [] operation proper writes = (writes, tt)
proper_snoc opened (first ∷ history) operation (now, proper) writes =
    (now, proper_snoc (stepping.step opened first).world history operation proper writes)
