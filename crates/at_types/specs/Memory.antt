-- Where calls take no memory.
use Rattle.std.specs.Prelude.{Bool, true, false}
use Rattle.at_value.specs.declared.operation.Op as op
use Rattle.at_value.specs.declared.operation.Op.TheVariants as ops
use Rattle.at_value.specs.declared.reply.Reply as reply
use Rattle.at_value.specs.declared.reply.Reply.TheVariants as replies

-- a refusal that is known before an order is computed
abbrev pub is_early : reply.Reply → Bool
is_early replies.Done = false
is_early (replies.Made o value) = false
is_early (replies.Value v) = false
is_early (replies.Method f v) = false
is_early (replies.Hook kind callee receiver other v) = false
is_early (replies.Order order) = false
is_early replies.NoAttr = true
is_early replies.NoGetter = true
is_early replies.NoSetter = true
is_early replies.NoDeleter = true
is_early replies.NoClass = true
is_early replies.NameTaken = true
is_early replies.EmptyBases = true
is_early replies.Duplicate = true
is_early replies.Cycle = true
is_early (replies.NoOrder c) = false
is_early replies.Immutable = true
is_early replies.NotSubclass = true
is_early replies.Full = true

-- an operation that makes no class and changes no bases
abbrev pub changes_no_order : op.Op → Bool
changes_no_order (ops.NewClass c bases) = false
changes_no_order (ops.SetBases c bases) = false
changes_no_order (ops.TypeSet c n v) = true
changes_no_order (ops.TypeDel c n) = true
changes_no_order (ops.New c) = true
changes_no_order (ops.Set o n v) = true
changes_no_order (ops.Del o n) = true
changes_no_order (ops.SetClass o c) = true
changes_no_order (ops.Share o p) = true
changes_no_order (ops.Get o n) = true
changes_no_order (ops.TypeGet c n) = true
changes_no_order (ops.Super k o n) = true
changes_no_order (ops.Special o n) = true
changes_no_order (ops.ClassOf o) = true
changes_no_order (ops.Mro c) = true
