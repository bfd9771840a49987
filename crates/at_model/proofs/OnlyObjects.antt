-- Operations on objects: they change no class, and make no object.
use Rattle.std.proofs.Common.{◌≡◌, refl, ℕ, ◌==◌, cond, length, Option, Some, None, Bool, true, false}
use Rattle.std.proofs.lemmas.List.{length-set}
use Rattle.at_value.specs.Numbers.{object}
use Rattle.at_value.specs.declared.value.Value as value
use Rattle.at_value.specs.declared.reply.Reply as reply
use Rattle.at_value.specs.declared.reply.Reply.TheVariants as replies
use Rattle.at_value.specs.Pairs.{value_at}
use Rattle.at_desc.specs.Binding.{bound_set, bound_del}
use Rattle.at_desc.specs.declared.descriptor.Step as binding
use Rattle.at_desc.specs.declared.descriptor.Step.TheVariants as bindings
use Rattle.at_model.specs.declared.rows.Object.{Object}
use Rattle.at_model.specs.World.{World, find_in}
use Rattle.at_model.specs.Attributes.{Outcome, unchanged, dict_of, three_of, set_by, set_on, del_own, del_by, del_on}
use Rattle.at_model.specs.Step.{set_class_on, share_on}

-- the classes are the same, and there are as many objects
pub record Leaves (w : World) (outcome : Outcome) : Type 0 where
  pub classes : outcome.world.classes ≡ w.classes
  pub objects : length outcome.world.objects ≡ length w.objects

pub leaves : (w : World) (r : reply.Reply) → Leaves w (unchanged w r)
leaves w r = record { classes = refl; objects = refl }

-- either outcome of a test
pub leaves_test : (w : World) (b : Bool) (x y : Outcome) → Leaves w x → Leaves w y → Leaves w (cond b x y)
leaves_test w true x y one other = one
leaves_test w false x y one other = other

set_by-leaves : (w : World) (o : Object) (n : ℕ) (v : value.Value) (b : binding.Step) → Leaves w (set_by w o n v b)
set_by-leaves w o n v (bindings.Says r) = leaves w r
set_by-leaves w o n v bindings.Own = record { classes = refl; objects = refl }

pub set_on-leaves : (w : World) (o n : ℕ) (v : value.Value) (found : Option Object) → Leaves w (set_on w o n v found)
set_on-leaves w o n v None = leaves w replies.NoAttr
set_on-leaves w o n v (Some object) =
    let t = find_in w object.class n in set_by-leaves w object n v (bound_set t (three_of w t) o v)

del_own-leaves : (w : World) (o : Object) (n : ℕ) (v : Option value.Value) → Leaves w (del_own w o n v)
del_own-leaves w o n None = leaves w replies.NoAttr
del_own-leaves w o n (Some v) = record { classes = refl; objects = refl }

del_by-leaves : (w : World) (o : Object) (n : ℕ) (b : binding.Step) → Leaves w (del_by w o n b)
del_by-leaves w o n (bindings.Says r) = leaves w r
del_by-leaves w o n bindings.Own = del_own-leaves w o n (value_at n (dict_of w o))

pub del_on-leaves : (w : World) (o n : ℕ) (found : Option Object) → Leaves w (del_on w o n found)
del_on-leaves w o n None = leaves w replies.NoAttr
del_on-leaves w o n (Some object) =
    let t = find_in w object.class n in del_by-leaves w object n (bound_del t (three_of w t) o)

pub set_class_on-leaves : (w : World) (o c : ℕ) (found : Option Object) → Leaves w (set_class_on w o c found)
set_class_on-leaves w o c None = leaves w replies.NoAttr
set_class_on-leaves w o c (Some was) =
    leaves_test w (c == object) _ _ (leaves w replies.Immutable)
    (record { classes = refl; objects = length-set w.objects o (record was { class = c }) })

pub share_on-leaves : (w : World) (o : ℕ) (found other : Option Object) → Leaves w (share_on w o found other)
share_on-leaves w o None other = leaves w replies.NoAttr
share_on-leaves w o (Some was) None = leaves w replies.NoAttr
share_on-leaves w o (Some was) (Some other) =
    record { classes = refl; objects = length-set w.objects o (record was { dict = other.dict }) }
