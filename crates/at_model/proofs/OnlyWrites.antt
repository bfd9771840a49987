-- An operation that isn't a write leaves the world as it is, and a read is none.
use Rattle.std.proofs.Common.{◌≡◌, refl, ℕ, ◌==◌, cond, not, length, leb, Option, Some, None, Bool, true, false, slice_get, is_none, IsTrue, List}
use Rattle.std.proofs.lemmas.Bool.{true≢false, false≢true}
use Rattle.at_value.specs.Numbers.{object, getattr}
use Rattle.at_value.specs.Pairs.{value_at}
use Rattle.at_value.specs.declared.value.Value as value
use Rattle.at_value.specs.declared.operation.Op as op
use Rattle.at_value.specs.declared.operation.Op.TheVariants as ops
use Rattle.at_value.specs.declared.value.Value.TheVariants as values
use Rattle.at_value.specs.declared.reply.Reply as reply
use Rattle.at_value.specs.declared.reply.Reply.TheVariants as replies
use Rattle.at_value.specs.Widths as widths
use Rattle.at_desc.specs.declared.descriptor.Three.{Three}
use Rattle.at_desc.specs.declared.descriptor.Step as step
use Rattle.at_desc.specs.declared.descriptor.Step.TheVariants as steps
use Rattle.at_model.specs.declared.rows.Object.{Object}
use Rattle.at_model.specs.World.{World, own_of, row_of, order_of, find_in, find_along}
use Rattle.at_model.specs.Attributes.{Outcome, dict_of, set_by, set_on, del_own, del_by, del_on, three_of, get_on, special_on, classes_after_in, super_along, super_on, class_on, order_reply}
use Rattle.at_desc.specs.Binding.{read_property, read_descriptor, bound, bound_special, comes_first, own_or, or_getattr, bound_get, bound_to_class, bound_class}
use Rattle.at_model.specs.Laws.{is_read}
use Rattle.at_model.specs.Step as stepping

abbrev IsLeft : World → Outcome → Type 0
IsLeft w outcome = stepping.is_done outcome.reply ≡ false → outcome.world ≡ w

-- either outcome of a test leaves it
either : (w : World) (b : Bool) (x y : Outcome) → IsLeft w x → IsLeft w y → IsLeft w (cond b x y)
either w true x y left right = left
either w false x y left right = right

ordered-left : (w changed : World) (first : Option ℕ) → IsLeft w (stepping.unless_unordered w changed first)
ordered-left w changed None = λ is. absurd (true≢false is)
ordered-left w changed (Some c) = λ _. refl

set_by-left : (w : World) (o : Object) (n : ℕ) (v : value.Value) (s : step.Step) → IsLeft w (set_by w o n v s)
set_by-left w o n v (steps.Says r) = λ _. refl
set_by-left w o n v steps.Own = λ is. absurd (true≢false is)

set_on-left : (w : World) (o n : ℕ) (v : value.Value) (found : Option Object) → IsLeft w (set_on w o n v found)
set_on-left w o n v None = λ _. refl
set_on-left w o n v (Some found) = set_by-left w found n v _

del_own-left : (w : World) (o : Object) (n : ℕ) (was : Option value.Value) → IsLeft w (del_own w o n was)
del_own-left w o n None = λ _. refl
del_own-left w o n (Some v) = λ is. absurd (true≢false is)

del_by-left : (w : World) (o : Object) (n : ℕ) (s : step.Step) → IsLeft w (del_by w o n s)
del_by-left w o n (steps.Says r) = λ _. refl
del_by-left w o n steps.Own = del_own-left w o n (value_at n (dict_of w o))

del_on-left : (w : World) (o n : ℕ) (found : Option Object) → IsLeft w (del_on w o n found)
del_on-left w o n None = λ _. refl
del_on-left w o n (Some found) = del_by-left w found n _

set_class-left : (w : World) (o c : ℕ) (found : Option Object) → IsLeft w (stepping.set_class_on w o c found)
set_class-left w o c None = λ _. refl
set_class-left w o c (Some was) = either w (c == object) _ _ (λ _. refl) (λ is. absurd (true≢false is))

share-left : (w : World) (o : ℕ) (found other : Option Object) → IsLeft w (stepping.share_on w o found other)
share-left w o None other = λ _. refl
share-left w o (Some was) None = λ _. refl
share-left w o (Some was) (Some other) = λ is. absurd (true≢false is)

effect-left : (w : World) (operation : op.Op) → IsLeft w (stepping.effect w operation)
effect-left w (ops.NewClass c bases) =
    either w (stepping.is_made w c) _ _ (λ _. refl)
    (either w (stepping.is_empty bases) _ _ (λ _. refl) (either w (stepping.has_repeat bases) _ _ (λ _. refl) (ordered-left w (stepping.with_class w c bases) (stepping.first_unordered (stepping.with_class w c bases)))))
effect-left w (ops.TypeSet c n v) = either w (c == object) _ _ (λ _. refl) (λ is. absurd (true≢false is))
effect-left w (ops.TypeDel c n) =
    either w (c == object) _ _ (λ _. refl) (either w (is_none (value_at n (own_of (row_of w.classes c)))) _ _ (λ _. refl) (λ is. absurd (true≢false is)))
effect-left w (ops.SetBases c bases) =
    either w (c == object) _ _ (λ _. refl)
    (either w (stepping.is_empty bases) _ _ (λ _. refl)
    (either w (stepping.has_repeat bases) _ _ (λ _. refl)
    (either w (stepping.is_cycle w c bases) _ _ (λ _. refl) (ordered-left w (stepping.with_bases w c bases) (stepping.first_unordered (stepping.with_bases w c bases))))))
effect-left w (ops.New c) = either w (c == object) _ _ (λ _. refl) (either w (leb widths.objects (length w.objects)) _ _ (λ _. refl) (λ is. absurd (true≢false is)))
effect-left w (ops.Set o n v) = set_on-left w o n v (slice_get w.objects o)
effect-left w (ops.Del o n) = del_on-left w o n (slice_get w.objects o)
effect-left w (ops.SetClass o c) = set_class-left w o c (slice_get w.objects o)
effect-left w (ops.Share o p) = share-left w o (slice_get w.objects o) (slice_get w.objects p)
effect-left w (ops.Get o n) = λ _. refl
effect-left w (ops.TypeGet c n) = λ _. refl
effect-left w (ops.Super k o n) = λ _. refl
effect-left w (ops.Special o n) = λ _. refl
effect-left w (ops.ClassOf o) = λ _. refl
effect-left w (ops.Mro c) = λ _. refl

pub step-left : (w : World) (operation : op.Op) → stepping.is_write w operation ≡ false → (stepping.step w operation).world ≡ w
step-left w operation =
    either w (not (stepping.are_objects w (stepping.objects_in operation))) _ _ (λ _. refl)
    (either w (not (stepping.are_made w (stepping.classes_in operation))) _ _ (λ _. refl) (effect-left w operation))

-- Reads

abbrev IsRead : reply.Reply → Type 0
IsRead r = stepping.is_done r ≡ false

either_read : (b : Bool) (x y : reply.Reply) → IsRead x → IsRead y → IsRead (cond b x y)
either_read true x y left right = left
either_read false x y left right = right

property-read : (f : Option ℕ) (o : ℕ) → IsRead (read_property f o)
property-read None o = refl
property-read (Some f) o = refl

descriptor-read : (g : Option value.Value) (d : ℕ) (instance : value.Value) (c : ℕ) → IsRead (read_descriptor g d instance c)
descriptor-read None d instance c = refl
descriptor-read (Some g) d instance c = refl

bound-read : (v : value.Value) (three : Three) (o c : ℕ) → IsRead (bound v three o c)
bound-read (values.Prop p) three o c = property-read p.get o
bound-read (values.Func f) three o c = refl
bound-read (values.Static f) three o c = refl
bound-read (values.ClassM f) three o c = refl
bound-read (values.Obj d) three o c = descriptor-read three.get d (values.Obj o) c
bound-read v three o c = refl

special-read : (t : Option value.Value) (three : Three) (o c : ℕ) → IsRead (bound_special t three o c)
special-read None three o c = refl
special-read (Some v) three o c = bound-read v three o c

own_or-read : (own : Option value.Value) (r : reply.Reply) → IsRead r → IsRead (own_or own r)
own_or-read None r is = is
own_or-read (Some v) r is = refl

getattr-read : (a : Option value.Value) (o n : ℕ) (r : reply.Reply) → IsRead r → IsRead (or_getattr a o n r)
getattr-read (Some a) o n replies.NoAttr is = refl
getattr-read (Some a) o n replies.NoGetter is = refl
getattr-read a o n r is = is

get-read : (t : Option value.Value) (three : Three) (own : Option value.Value) (o c n : ℕ) (a : Option value.Value) → IsRead (bound_get t three own o c n a)
get-read t three own o c n a =
    getattr-read a o n _ (either_read (comes_first t three) _ _ (special-read t three o c) (own_or-read own _ (special-read t three o c)))

get_on-read : (w : World) (o n : ℕ) (found : Option Object) → IsRead (get_on w o n found)
get_on-read w o n None = refl
get_on-read w o n (Some found) =
    let t = find_in w found.class n in
    get-read t (three_of w t) (value_at n (dict_of w found)) o found.class n (find_in w found.class getattr)

special_on-read : (w : World) (o n : ℕ) (found : Option Object) → IsRead (special_on w o n found)
special_on-read w o n None = refl
special_on-read w o n (Some found) = let t = find_in w found.class n in special-read t (three_of w t) o found.class

super_along-read : (w : World) (o n c : ℕ) (rest : Option (List ℕ)) → IsRead (super_along w o n c rest)
super_along-read w o n c None = refl
super_along-read w o n c (Some rest) = let t = find_along w.classes rest n in special-read t (three_of w t) o c

super_on-read : (w : World) (k o n : ℕ) (found : Option Object) → IsRead (super_on w k o n found)
super_on-read w k o n None = refl
super_on-read w k o n (Some found) = super_along-read w o n found.class (classes_after_in k (order_of w found.class))

to_class-read : (v : value.Value) (three : Three) (c : ℕ) → IsRead (bound_to_class v three c)
to_class-read (values.Func f) three c = refl
to_class-read (values.Static f) three c = refl
to_class-read (values.ClassM f) three c = refl
to_class-read (values.Obj d) three c = descriptor-read three.get d values.Nothing c
to_class-read v three c = refl

class-read : (t : Option value.Value) (three : Three) (c : ℕ) → IsRead (bound_class t three c)
class-read None three c = refl
class-read (Some v) three c = to_class-read v three c

class_on-read : (found : Option Object) → IsRead (class_on found)
class_on-read None = refl
class_on-read (Some found) = refl

order-read : (order : Option (List ℕ)) → IsRead (order_reply order)
order-read None = refl
order-read (Some order) = refl

effect-read : (w : World) (operation : op.Op) → IsTrue (is_read operation) → IsRead (stepping.effect w operation).reply
effect-read w (ops.Get o n) is = get_on-read w o n (slice_get w.objects o)
effect-read w (ops.TypeGet c n) is = let t = find_in w c n in class-read t (three_of w t) c
effect-read w (ops.Super k o n) is = super_on-read w k o n (slice_get w.objects o)
effect-read w (ops.Special o n) is = special_on-read w o n (slice_get w.objects o)
effect-read w (ops.ClassOf o) is = class_on-read (slice_get w.objects o)
effect-read w (ops.Mro c) is = order-read (order_of w c)
effect-read w operation is = absurd (false≢true is)

either_reads : (b : Bool) (x y : Outcome) → IsRead x.reply → IsRead y.reply → IsRead (cond b x y).reply
either_reads true x y left right = left
either_reads false x y left right = right

-- a read is never a write
pub reads_write_nothing : (w : World) (operation : op.Op) → IsTrue (is_read operation) → stepping.is_write w operation ≡ false
reads_write_nothing w operation is =
    either_reads (not (stepping.are_objects w (stepping.objects_in operation))) _ _ refl
    (either_reads (not (stepping.are_made w (stepping.classes_in operation))) _ _ refl (effect-read w operation is))
