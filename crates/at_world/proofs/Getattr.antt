-- A read that finds a value, a method or a hook of its own is the same with `__getattr__` and without it.
use Rattle.std.proofs.Common.{◌≡◌, refl, ℕ, Option, Some, None, true, false, Bool, cond, is_none}
use Rattle.at_value.specs.declared.reply.Reply as reply
use Rattle.at_value.specs.declared.reply.Reply.TheVariants as replies
use Rattle.at_value.specs.declared.reply.HookKind as hook
use Rattle.at_value.specs.declared.value.Value as value
use Rattle.at_value.specs.declared.value.Value.TheVariants as values
use Rattle.at_desc.specs.declared.descriptor.Three.{Three}
use Rattle.at_desc.specs.Binding.{bound_get, bound, or_getattr, own_or, read_property, read_descriptor, comes_first}
use Rattle.at_world.specs.Reading.{asks_getattr}

module _ (o n : ℕ) where
  -- the reply is the same without `__getattr__`
  IsKept : Option value.Value → reply.Reply → Type 0
  IsKept a r = or_getattr None o n r ≡ or_getattr a o n r

  value_kept : (a : Option value.Value) (v : value.Value) → IsKept a (replies.Value v)
  unfolding IsKept
  value_kept None v = refl
  value_kept (Some f) v = refl

  method_kept : (a : Option value.Value) (f : ℕ) (v : value.Value) → IsKept a (replies.Method f v)
  unfolding IsKept
  method_kept None f v = refl
  method_kept (Some g) f v = refl

  hook_kept : (a : Option value.Value) (kind : hook.HookKind) (f r u v : value.Value) → IsKept a (replies.Hook kind f r u v)
  unfolding IsKept
  hook_kept None kind f r u v = refl
  hook_kept (Some g) kind f r u v = refl

  property_kept : (a : Option value.Value) (get : Option ℕ) → is_none get ≡ false → IsKept a (read_property get o)
  property_kept a None asked = absurd cc
  property_kept a (Some f) asked = hook_kept a _ _ _ _ _

  descriptor_kept : (a get : Option value.Value) (d c : ℕ) → IsKept a (read_descriptor get d (values.Obj o) c)
  descriptor_kept a None d c = value_kept a _
  descriptor_kept a (Some g) d c = hook_kept a _ _ _ _ _

  own_kept : (a own : Option value.Value) (first : Bool) (r : reply.Reply) → IsKept a r → IsKept a (cond first r (own_or own r))
  own_kept a own true r kept = kept
  own_kept a None false r kept = kept
  own_kept a (Some v) false r kept = value_kept a v

  found_kept : (a own : Option value.Value) (v : value.Value) (three : Three) (c : ℕ) → asks_getattr (Some v) own ≡ false → IsKept a (bound v three o c)
  found_kept a own values.Nothing three c asked = value_kept a _
  found_kept a own (values.Int i) three c asked = value_kept a _
  found_kept a own (values.Text t) three c asked = value_kept a _
  found_kept a own (values.Func f) three c asked = method_kept a _ _
  found_kept a own (values.Prop p) three c asked = property_kept a p.get asked
  found_kept a own (values.Static f) three c asked = value_kept a _
  found_kept a own (values.ClassM f) three c asked = method_kept a _ _
  found_kept a own (values.Class d) three c asked = value_kept a _
  found_kept a own (values.Obj d) three c asked = descriptor_kept a three.get d c

  pub unasked : (t own a : Option value.Value) (three : Three) (c : ℕ) → asks_getattr t own ≡ false → bound_get t three own o c n None ≡ bound_get t three own o c n a
  unfolding IsKept
  unasked None None a three c asked = absurd cc
  unasked None (Some v) a three c asked = value_kept a v
  unasked (Some v) own a three c asked = own_kept a own (comes_first (Some v) three) (bound v three o c) (found_kept a own v three c asked)
