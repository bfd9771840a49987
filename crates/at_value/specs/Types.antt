-- The types of values, operations and replies, under one module.
use Rattle.at_value.specs.declared.value.Value as value
use Rattle.at_value.specs.declared.operation.Op as op
use Rattle.at_value.specs.declared.reply.Reply as reply
use Rattle.at_value.specs.declared.reply.HookKind as hook
use Rattle.at_value.specs.declared.reply.Path as path
use Rattle.at_value.specs.declared.reply.Miss as miss

abbrev pub Value : Type 0
Value = value.Value

abbrev pub Op : Type 0
Op = op.Op

abbrev pub Reply : Type 0
Reply = reply.Reply

abbrev pub HookKind : Type 0
HookKind = hook.HookKind

abbrev pub Path : Type 0
Path = path.Path

abbrev pub Miss : Type 0
Miss = miss.Miss
