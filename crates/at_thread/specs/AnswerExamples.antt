-- Which lines may stand in the place of which operations, and which replies these may have: pairs that may be, and pairs
-- that may not.
use Rattle.std.specs.Prelude.{pos, List, [], ◌∷◌, ◌++◌, None, Some}
use Rattle.at_value.specs.Types.{Value}
use Rattle.at_value.specs.declared.value.Value.TheVariants as values
use Rattle.at_value.specs.declared.operation.Op.TheVariants as ops
use Rattle.at_value.specs.declared.reply.Reply.TheVariants as replies
use Rattle.at_line.specs.Types.{Local, LineOp, LineReply}
use Rattle.at_line.specs.declared.line.Local.TheVariants as locals
use Rattle.at_line.specs.declared.line.LineOp.TheVariants as line_ops
use Rattle.at_line.specs.declared.line.LineReply.TheVariants as line_replies

abbrev pub seven : Value
seven = values.Int (pos 7)

-- one of each operation that writes a class, or makes an object
abbrev pub class_writes : List LineOp
class_writes =
    line_ops.Of (ops.NewClass 1 (0 ∷ [])) ∷ line_ops.Of (ops.TypeSet 1 5 seven) ∷ line_ops.Of (ops.TypeDel 1 5) ∷ line_ops.Of (ops.SetBases 1 (0 ∷ []))
    ∷ line_ops.Of (ops.New 1) ∷ []

-- one of each that writes an object
abbrev pub object_writes : List LineOp
object_writes = line_ops.Of (ops.Set 0 5 seven) ∷ line_ops.Of (ops.Del 0 5) ∷ line_ops.Of (ops.SetClass 0 1) ∷ line_ops.Of (ops.Share 0 1) ∷ []

-- one of each that reads
abbrev pub reads : List LineOp
reads =
    line_ops.Of (ops.Get 0 5) ∷ line_ops.Of (ops.TypeGet 1 5) ∷ line_ops.Of (ops.Super 1 0 5) ∷ line_ops.Of (ops.Special 0 5) ∷ line_ops.Of (ops.ClassOf 0)
    ∷ line_ops.Of (ops.Mro 1) ∷ []

-- the begin and the end of a section
abbrev pub sections : List LineOp
sections = line_ops.Begin 0 None ∷ line_ops.Begin 0 (Some 1) ∷ line_ops.Finish ∷ []

abbrev pub each_operation : List LineOp
each_operation = class_writes ++ object_writes ++ reads ++ sections

-- operations in whose place `full` may stand, and such in whose place it may not
abbrev pub full_there : List LineOp
full_there = class_writes ++ object_writes

abbrev pub full_not_there : List LineOp
full_not_there = reads ++ sections

-- the same of `worn`
abbrev pub worn_there : List LineOp
worn_there = object_writes

abbrev pub worn_not_there : List LineOp
worn_not_there = class_writes ++ reads ++ sections

-- lines that stand in the place of no operation
abbrev pub own_lines : List Local
own_lines = locals.Depth ∷ locals.Budget ∷ locals.Kind ∷ locals.Unbound 0 ∷ locals.NotCallable ∷ []

-- Replies

-- operations with replies that they may have
abbrev pub replies_there : List (LineOp × LineReply)
replies_there =
    (line_ops.Of (ops.Set 0 5 seven), line_replies.Of replies.Done) ∷ (line_ops.Of (ops.Set 0 5 seven), line_replies.Of replies.NoAttr)
    ∷ (line_ops.Of (ops.New 1), line_replies.Of (replies.Made 0 None)) ∷ (line_ops.Of (ops.Get 0 5), line_replies.Of (replies.Value seven))
    ∷ (line_ops.Of (ops.Mro 1), line_replies.Of (replies.Order (1 ∷ 0 ∷ []))) ∷ (line_ops.Begin 0 None, line_replies.Of replies.Done)
    ∷ (line_ops.Begin 0 (Some 1), line_replies.Of replies.Done) ∷ (line_ops.Finish, line_replies.Kept) ∷ (line_ops.Finish, line_replies.Suspended 1) ∷ []

-- and with replies that they may not have
abbrev pub replies_not_there : List (LineOp × LineReply)
replies_not_there =
    (line_ops.Of (ops.Set 0 5 seven), line_replies.Kept) ∷ (line_ops.Of (ops.Set 0 5 seven), line_replies.Suspended 1) ∷ (line_ops.Of (ops.Get 0 5), line_replies.Kept)
    ∷ (line_ops.Of (ops.Mro 1), line_replies.Suspended 1) ∷ (line_ops.Begin 0 None, line_replies.Of replies.NoAttr)
    ∷ (line_ops.Begin 0 None, line_replies.Of (replies.Value seven)) ∷ (line_ops.Begin 0 (Some 1), line_replies.Of (replies.Made 0 None))
    ∷ (line_ops.Begin 0 None, line_replies.Kept) ∷ (line_ops.Begin 0 None, line_replies.Suspended 1) ∷ (line_ops.Finish, line_replies.Of replies.Done)
    ∷ (line_ops.Finish, line_replies.Of replies.NoAttr) ∷ []
