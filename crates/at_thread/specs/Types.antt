-- The types of what a thread demands, under one module.
use Rattle.at_thread.specs.declared.next.Action as action
use Rattle.at_thread.specs.declared.next.Call as call
use Rattle.at_thread.specs.declared.next.OnReturn as on_return
use Rattle.at_thread.specs.declared.next.ReplyUse as reply_use

abbrev pub Action : Type 0
Action = action.Action

abbrev pub Call : Type 0
Call = call.Call

abbrev pub OnReturn : Type 0
OnReturn = on_return.OnReturn

abbrev pub ReplyUse : Type 0
ReplyUse = reply_use.ReplyUse
