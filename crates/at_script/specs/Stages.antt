-- Where in the grammar a line stands, and which lines may stand there.
--
--     script  = header [budget] {func} main {thread} [finally]
--     block   = `func F`, `main`, `thread` or `finally`, then statements, then `end`
use Rattle.std.specs.Prelude.{Bool, true, false, not, ◌&&◌, Option, Some, None}
use Rattle.at_script.specs.declared.keyword.Keyword as keyword
use Rattle.at_script.specs.declared.keyword.Keyword.TheVariants as keywords
use Rattle.at_script.specs.declared.stage.BlockKind as block_kind
use Rattle.at_script.specs.declared.stage.BlockKind.TheVariants as block_kinds
use Rattle.at_script.specs.declared.stage.Stage as stage
use Rattle.at_script.specs.declared.stage.Stage.TheVariants as stages
use Rattle.at_script.specs.declared.fault.Cause as cause
use Rattle.at_script.specs.declared.fault.Cause.TheVariants as causes

-- a function may end with a value, and no other block may
abbrev pub is_function : block_kind.BlockKind → Bool
is_function block_kinds.Func = true
is_function block_kinds.Main = false
is_function block_kinds.Thread = false
is_function block_kinds.Finally = false

-- in a block, with a section open or not
abbrev pub may_stand_in : block_kind.BlockKind → Bool → keyword.Keyword → Bool
may_stand_in kind section keywords.Attrs = false
may_stand_in kind section keywords.Budget = false
may_stand_in kind section keywords.Func = false
may_stand_in kind section keywords.Main = false
may_stand_in kind section keywords.Thread = false
may_stand_in kind section keywords.Finally = false
may_stand_in kind section keywords.End = not section
may_stand_in kind section keywords.Class = true
may_stand_in kind section keywords.Bases = true
may_stand_in kind section keywords.Put = true
may_stand_in kind section keywords.Cut = true
may_stand_in kind section keywords.New = true
may_stand_in kind section keywords.Set = true
may_stand_in kind section keywords.Del = true
may_stand_in kind section keywords.Get = true
may_stand_in kind section keywords.Turn = true
may_stand_in kind section keywords.Share = true
may_stand_in kind section keywords.Super = true
may_stand_in kind section keywords.Special = true
may_stand_in kind section keywords.ClassOf = true
may_stand_in kind section keywords.Mro = true
may_stand_in kind section keywords.Call = true
may_stand_in kind section keywords.CallSuper = true
may_stand_in kind section keywords.Let = true
may_stand_in kind section keywords.Return = is_function kind && not section
may_stand_in kind section keywords.Begin = not section
may_stand_in kind section keywords.Finish = section
may_stand_in kind section keywords.Checkpoint = not section

-- after the header, before anything else
abbrev pub may_open : keyword.Keyword → Bool
may_open keywords.Attrs = false
may_open keywords.Budget = true
may_open keywords.Func = true
may_open keywords.Main = true
may_open keywords.Thread = false
may_open keywords.Finally = false
may_open keywords.End = false
may_open keywords.Class = false
may_open keywords.Bases = false
may_open keywords.Put = false
may_open keywords.Cut = false
may_open keywords.New = false
may_open keywords.Set = false
may_open keywords.Del = false
may_open keywords.Get = false
may_open keywords.Turn = false
may_open keywords.Share = false
may_open keywords.Super = false
may_open keywords.Special = false
may_open keywords.ClassOf = false
may_open keywords.Mro = false
may_open keywords.Call = false
may_open keywords.CallSuper = false
may_open keywords.Let = false
may_open keywords.Return = false
may_open keywords.Begin = false
may_open keywords.Finish = false
may_open keywords.Checkpoint = false

-- after the budget or a function
abbrev pub may_follow_function : keyword.Keyword → Bool
may_follow_function keywords.Attrs = false
may_follow_function keywords.Budget = false
may_follow_function keywords.Func = true
may_follow_function keywords.Main = true
may_follow_function keywords.Thread = false
may_follow_function keywords.Finally = false
may_follow_function keywords.End = false
may_follow_function keywords.Class = false
may_follow_function keywords.Bases = false
may_follow_function keywords.Put = false
may_follow_function keywords.Cut = false
may_follow_function keywords.New = false
may_follow_function keywords.Set = false
may_follow_function keywords.Del = false
may_follow_function keywords.Get = false
may_follow_function keywords.Turn = false
may_follow_function keywords.Share = false
may_follow_function keywords.Super = false
may_follow_function keywords.Special = false
may_follow_function keywords.ClassOf = false
may_follow_function keywords.Mro = false
may_follow_function keywords.Call = false
may_follow_function keywords.CallSuper = false
may_follow_function keywords.Let = false
may_follow_function keywords.Return = false
may_follow_function keywords.Begin = false
may_follow_function keywords.Finish = false
may_follow_function keywords.Checkpoint = false

-- after `main` or a thread
abbrev pub may_follow_main : keyword.Keyword → Bool
may_follow_main keywords.Attrs = false
may_follow_main keywords.Budget = false
may_follow_main keywords.Func = false
may_follow_main keywords.Main = false
may_follow_main keywords.Thread = true
may_follow_main keywords.Finally = true
may_follow_main keywords.End = false
may_follow_main keywords.Class = false
may_follow_main keywords.Bases = false
may_follow_main keywords.Put = false
may_follow_main keywords.Cut = false
may_follow_main keywords.New = false
may_follow_main keywords.Set = false
may_follow_main keywords.Del = false
may_follow_main keywords.Get = false
may_follow_main keywords.Turn = false
may_follow_main keywords.Share = false
may_follow_main keywords.Super = false
may_follow_main keywords.Special = false
may_follow_main keywords.ClassOf = false
may_follow_main keywords.Mro = false
may_follow_main keywords.Call = false
may_follow_main keywords.CallSuper = false
may_follow_main keywords.Let = false
may_follow_main keywords.Return = false
may_follow_main keywords.Begin = false
may_follow_main keywords.Finish = false
may_follow_main keywords.Checkpoint = false

-- whether a line with this keyword may stand there; the header is told otherwise
abbrev pub may_stand : stage.Stage → keyword.Keyword → Bool
may_stand stages.Header k = true
may_stand stages.Opening k = may_open k
may_stand stages.Functions k = may_follow_function k
may_stand (stages.Within kind section) k = may_stand_in kind section k
may_stand stages.Ending k = may_follow_main k
may_stand stages.Closed k = false

-- What is wrong where the text ends there. A text without a line has no header.
abbrev pub end_cause : stage.Stage → Option cause.Cause
end_cause stages.Header = Some causes.Header
end_cause stages.Opening = Some causes.End
end_cause stages.Functions = Some causes.End
end_cause (stages.Within kind section) = Some causes.End
end_cause stages.Ending = None
end_cause stages.Closed = None
