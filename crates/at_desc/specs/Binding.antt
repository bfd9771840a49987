-- How a value that is found on a class is bound: the tables of reading, writing and deleting.
-- After the Python language reference, "Implementing Descriptors", "Invoking Descriptors", "Customizing attribute
-- access" and "Special method lookup", and the built-in `property`, `staticmethod`, `classmethod` and `super`. An object
-- is a descriptor by what its class has: `__get__`, `__set__` and `__delete__` are never looked up in the object's own
-- dictionary.
use Rattle.std.specs.Prelude.{ℕ, Bool, true, false, ◌||◌, ◌&&◌, Option, Some, None, is_some, if◌then◌else◌}
use Rattle.at_value.specs.declared.value.Value as value
use Rattle.at_value.specs.declared.value.Value.TheVariants as values
use Rattle.at_value.specs.declared.reply.Reply as reply
use Rattle.at_value.specs.declared.reply.Reply.TheVariants as replies
use Rattle.at_value.specs.declared.reply.HookKind.TheVariants as hooks
use Rattle.at_desc.specs.declared.descriptor.Three.{Three}
use Rattle.at_desc.specs.declared.descriptor.Step as step
use Rattle.at_desc.specs.declared.descriptor.Step.TheVariants as steps

-- Reading

-- an attribute for which the class has a property is read by the getter
abbrev pub read_property : Option ℕ → ℕ → reply.Reply
read_property None o = replies.NoGetter
read_property (Some f) o = replies.Hook hooks.Getter (values.Func f) (values.Obj o) values.Nothing values.Nothing

-- an attribute for which the class has object d is read by d's `__get__`, which is given the object that is read, or
-- none, and the class; without `__get__` it is d
abbrev pub read_descriptor : Option value.Value → ℕ → value.Value → ℕ → reply.Reply
read_descriptor None d instance c = replies.Value (values.Obj d)
read_descriptor (Some g) d instance c = replies.Hook hooks.DescGet g (values.Obj d) instance (values.Class c)

-- what a value of the class gives to object o of class c
abbrev pub bound : value.Value → Three → ℕ → ℕ → reply.Reply
bound (values.Prop p) three o c = read_property p.get o
bound (values.Func f) three o c = replies.Method f (values.Obj o)
bound (values.Static f) three o c = replies.Value (values.Func f)
bound (values.ClassM f) three o c = replies.Method f (values.Class c)
bound (values.Obj d) three o c = read_descriptor three.get d (values.Obj o) c
bound v three o c = replies.Value v

-- the look-up of a special method, and of a name after a class: what the class has, and nothing of the object's own
abbrev pub bound_special : Option value.Value → Three → ℕ → ℕ → reply.Reply
bound_special None three o c = replies.NoAttr
bound_special (Some v) three o c = bound v three o c

-- The value of the class comes before the object's own where it is a property, or an object that has `__get__` and at
-- least one of `__set__` and `__delete__`.
abbrev pub comes_first : Option value.Value → Three → Bool
comes_first (Some (values.Prop p)) three = true
comes_first (Some (values.Obj d)) three = is_some three.get && (is_some three.set || is_some three.del)
comes_first v three = false

-- the object's own value, else the reply
abbrev pub own_or : Option value.Value → reply.Reply → reply.Reply
own_or None otherwise = otherwise
own_or (Some v) otherwise = replies.Value v

-- `__getattr__`, where the class has it, takes over where nothing was found and where a property has no getter
abbrev pub or_getattr : Option value.Value → ℕ → ℕ → reply.Reply → reply.Reply
or_getattr (Some a) o n replies.NoAttr = replies.Hook hooks.GetAttr a (values.Obj o) (values.Text n) values.Nothing
or_getattr (Some a) o n replies.NoGetter = replies.Hook hooks.GetAttr a (values.Obj o) (values.Text n) values.Nothing
or_getattr a o n r = r

-- Reading name n of object o of class c, where the class has t, the object's dictionary has own, and the class has a
-- as `__getattr__`.
abbrev pub bound_get : Option value.Value → Three → Option value.Value → ℕ → ℕ → ℕ → Option value.Value → reply.Reply
bound_get t three own o c n a =
    or_getattr a o n (if comes_first t three then bound_special t three o c else own_or own (bound_special t three o c))

-- what a value of class c gives to the class itself; a property gives itself
abbrev pub bound_to_class : value.Value → Three → ℕ → reply.Reply
bound_to_class (values.Func f) three c = replies.Value (values.Func f)
bound_to_class (values.Static f) three c = replies.Value (values.Func f)
bound_to_class (values.ClassM f) three c = replies.Method f (values.Class c)
bound_to_class (values.Obj d) three c = read_descriptor three.get d values.Nothing c
bound_to_class v three c = replies.Value v

-- Reading an attribute of class c itself, where t was found along its order.
abbrev pub bound_class : Option value.Value → Three → ℕ → reply.Reply
bound_class None three c = replies.NoAttr
bound_class (Some v) three c = bound_to_class v three c

-- Writing and deleting: the value of the class replies, or leaves it to the object's own dictionary.

-- an attribute for which the class has a property is written by the setter
abbrev pub write_property : Option ℕ → ℕ → value.Value → reply.Reply
write_property None o v = replies.NoSetter
write_property (Some f) o v = replies.Hook hooks.Setter (values.Func f) (values.Obj o) values.Nothing v

-- an attribute for which the class has object d is written by d's `__set__`; where d has `__delete__` alone it can't be
-- written
abbrev pub write_descriptor : Option value.Value → Option value.Value → ℕ → ℕ → value.Value → step.Step
write_descriptor (Some s) del d o v = steps.Says (replies.Hook hooks.DescSet s (values.Obj d) (values.Obj o) v)
write_descriptor None (Some e) d o v = steps.Says replies.NoSetter
write_descriptor None None d o v = steps.Own

-- Writing v to an attribute of object o, where the class has t.
abbrev pub bound_set : Option value.Value → Three → ℕ → value.Value → step.Step
bound_set (Some (values.Prop p)) three o v = steps.Says (write_property p.set o v)
bound_set (Some (values.Obj d)) three o v = write_descriptor three.set three.del d o v
bound_set t three o v = steps.Own

-- an attribute for which the class has a property is deleted by the deleter
abbrev pub delete_property : Option ℕ → ℕ → reply.Reply
delete_property None o = replies.NoDeleter
delete_property (Some f) o = replies.Hook hooks.Deleter (values.Func f) (values.Obj o) values.Nothing values.Nothing

-- an attribute for which the class has object d is deleted by d's `__delete__`; where d has `__set__` alone it can't be
-- deleted
abbrev pub delete_descriptor : Option value.Value → Option value.Value → ℕ → ℕ → step.Step
delete_descriptor set (Some e) d o = steps.Says (replies.Hook hooks.DescDel e (values.Obj d) (values.Obj o) values.Nothing)
delete_descriptor (Some s) None d o = steps.Says replies.NoDeleter
delete_descriptor None None d o = steps.Own

-- Deleting an attribute of object o, where the class has t.
abbrev pub bound_del : Option value.Value → Three → ℕ → step.Step
bound_del (Some (values.Prop p)) three o = steps.Says (delete_property p.del o)
bound_del (Some (values.Obj d)) three o = delete_descriptor three.set three.del d o
bound_del t three o = steps.Own
