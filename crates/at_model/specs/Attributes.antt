-- The attribute operations on a world: what is found, and what it gives.
-- After the Python language reference, "Customizing attribute access", "Special method lookup" and "Custom classes", and
-- the built-in `super`. Where a class has no order, as in a world that isn't well formed, nothing is found in it.
use Rattle.std.specs.Prelude.{ℕ, ◌==◌, List, [], ◌∷◌, set, Option, Some, None, if◌then◌else◌, slice_index_or, slice_get}
use Rattle.at_value.specs.Numbers.{descriptor_get, descriptor_set, descriptor_delete, getattr}
use Rattle.at_value.specs.Pairs.{value_at, with_value, without}
use Rattle.at_value.specs.declared.value.Value as value
use Rattle.at_value.specs.declared.value.Value.TheVariants as values
use Rattle.at_value.specs.declared.reply.Reply as reply
use Rattle.at_value.specs.declared.reply.Reply.TheVariants as replies
use Rattle.at_desc.specs.declared.descriptor.Three.{Three}
use Rattle.at_desc.specs.declared.descriptor.Step as step
use Rattle.at_desc.specs.declared.descriptor.Step.TheVariants as steps
use Rattle.at_model.specs.declared.rows.Object.{Object}
use Rattle.at_model.specs.World.{World, Map, order_of, find_along, find_in}
use Rattle.at_desc.specs.Binding.{bound_get, bound_special, bound_class, bound_set, bound_del}

-- a reply, and the world after it
pub record Outcome : Type 0 where
  pub reply : reply.Reply
  pub world : World

abbrev pub unchanged : World → reply.Reply → Outcome
unchanged w r = record { reply = r; world = w }

-- Descriptors

abbrev pub no_three : Three
no_three = record { get = None; set = None; del = None }

-- what class c has of the three special names of a descriptor
abbrev pub three_in : World → ℕ → Three
three_in w c = record { get = find_in w c descriptor_get; set = find_in w c descriptor_set; del = find_in w c descriptor_delete }

abbrev pub three_of_object : World → Option Object → Three
three_of_object w None = no_three
three_of_object w (Some o) = three_in w o.class

-- what the class of an object that stands as a value has of the three; any other value has none of them
abbrev pub three_of : World → Option value.Value → Three
three_of w (Some (values.Obj d)) = three_of_object w (slice_get w.objects d)
three_of w v = no_three

-- Reading

abbrev pub dict_of : World → Object → Map
dict_of w object = slice_index_or w.dicts object.dict []

abbrev pub get_on : World → ℕ → ℕ → Option Object → reply.Reply
get_on w o n None = replies.NoAttr
get_on w o n (Some object) =
    let t = find_in w object.class n in
    bound_get t (three_of w t) (value_at n (dict_of w object)) o object.class n (find_in w object.class getattr)

-- `o.n`
abbrev pub get_reply : World → ℕ → ℕ → reply.Reply
get_reply w o n = get_on w o n (slice_get w.objects o)

abbrev pub special_on : World → ℕ → ℕ → Option Object → reply.Reply
special_on w o n None = replies.NoAttr
special_on w o n (Some object) = let t = find_in w object.class n in bound_special t (three_of w t) o object.class

-- the special method n of o
abbrev pub special_reply : World → ℕ → ℕ → reply.Reply
special_reply w o n = special_on w o n (slice_get w.objects o)

-- the classes after k in an order, where k stands in it
abbrev pub classes_after : ℕ → List ℕ → Option (List ℕ)
classes_after k [] = None
classes_after k (c ∷ cs) = if c == k then Some cs else classes_after k cs

abbrev pub classes_after_in : ℕ → Option (List ℕ) → Option (List ℕ)
classes_after_in k None = None
classes_after_in k (Some order) = classes_after k order

abbrev pub super_along : World → ℕ → ℕ → ℕ → Option (List ℕ) → reply.Reply
super_along w o n c None = replies.NotSubclass
super_along w o n c (Some rest) = let t = find_along w.classes rest n in bound_special t (three_of w t) o c

abbrev pub super_on : World → ℕ → ℕ → ℕ → Option Object → reply.Reply
super_on w k o n None = replies.NoAttr
super_on w k o n (Some object) = super_along w o n object.class (classes_after_in k (order_of w object.class))

-- `super(k, o).n`
abbrev pub super_reply : World → ℕ → ℕ → ℕ → reply.Reply
super_reply w k o n = super_on w k o n (slice_get w.objects o)

-- `c.n` of a class
abbrev pub type_get_reply : World → ℕ → ℕ → reply.Reply
type_get_reply w c n = let t = find_in w c n in bound_class t (three_of w t) c

abbrev pub class_on : Option Object → reply.Reply
class_on None = replies.NoAttr
class_on (Some object) = replies.Value (values.Class object.class)

-- `o.__class__`
abbrev pub class_of_reply : World → ℕ → reply.Reply
class_of_reply w o = class_on (slice_get w.objects o)

abbrev pub order_reply : Option (List ℕ) → reply.Reply
order_reply None = replies.NoClass
order_reply (Some order) = replies.Order order

-- `c.__mro__`
abbrev pub mro_reply : World → ℕ → reply.Reply
mro_reply w c = order_reply (order_of w c)

-- Writing and deleting

-- the world in which this dictionary is the map
abbrev pub with_dict : World → ℕ → Map → World
with_dict w d names = record w { dicts = set w.dicts d names }

abbrev pub set_by : World → Object → ℕ → value.Value → step.Step → Outcome
set_by w object n v (steps.Says r) = unchanged w r
set_by w object n v steps.Own = record { reply = replies.Done; world = with_dict w object.dict (with_value n v (dict_of w object)) }

abbrev pub set_on : World → ℕ → ℕ → value.Value → Option Object → Outcome
set_on w o n v None = unchanged w replies.NoAttr
set_on w o n v (Some object) = let t = find_in w object.class n in set_by w object n v (bound_set t (three_of w t) o v)

-- `o.n = v`
abbrev pub set_effect : World → ℕ → ℕ → value.Value → Outcome
set_effect w o n v = set_on w o n v (slice_get w.objects o)

abbrev pub del_own : World → Object → ℕ → Option value.Value → Outcome
del_own w object n None = unchanged w replies.NoAttr
del_own w object n (Some v) = record { reply = replies.Done; world = with_dict w object.dict (without n (dict_of w object)) }

abbrev pub del_by : World → Object → ℕ → step.Step → Outcome
del_by w object n (steps.Says r) = unchanged w r
del_by w object n steps.Own = del_own w object n (value_at n (dict_of w object))

abbrev pub del_on : World → ℕ → ℕ → Option Object → Outcome
del_on w o n None = unchanged w replies.NoAttr
del_on w o n (Some object) = let t = find_in w object.class n in del_by w object n (bound_del t (three_of w t) o)

-- `del o.n`
abbrev pub del_effect : World → ℕ → ℕ → Outcome
del_effect w o n = del_on w o n (slice_get w.objects o)
