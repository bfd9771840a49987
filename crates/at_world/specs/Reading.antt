-- private: about how the running code reads; no public clause cites it. When a read needs to know whether the class has
-- `__getattr__`.
use Rattle.std.specs.Prelude.{Bool, false, Option, Some, None, is_none}
use Rattle.at_value.specs.declared.value.Value as value
use Rattle.at_value.specs.declared.value.Value.TheVariants as values

-- whether reading finds nothing, or a property without a getter, where the class has t and the object's dictionary own
abbrev pub asks_getattr : Option value.Value → Option value.Value → Bool
asks_getattr None own = is_none own
asks_getattr (Some (values.Prop p)) own = is_none p.get
asks_getattr (Some v) own = false
