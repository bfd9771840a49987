-- A run that no script makes, and that the text tells apart all the same: an empty order, a section of one object twice, one
-- that was given back 0 times, and a line of `finally` where there is none.
use Rattle.std.specs.Prelude.{ℕ, List, [], ◌∷◌, Some, None, codes}
use Rattle.at_name.specs.Texts.{special_texts}
use Rattle.at_value.specs.declared.operation.Op.TheVariants as ops
use Rattle.at_value.specs.declared.reply.Reply.TheVariants as replies
use Rattle.at_value.specs.declared.reply.Path.TheVariants as paths
use Rattle.at_model.specs.declared.last.Final.{Final}
use Rattle.at_line.specs.Lines.{main_thread, finally_thread}
use Rattle.at_line.specs.Types.{Line, LineOp, LineReply, What}
use Rattle.at_line.specs.declared.line.LineOp.TheVariants as line_ops
use Rattle.at_line.specs.declared.line.LineReply.TheVariants as line_replies
use Rattle.at_line.specs.declared.line.Local.TheVariants as locals
use Rattle.at_line.specs.declared.line.What.TheVariants as whats
use Rattle.at_script.specs.Limits as limits
use Rattle.at_script.specs.Parts.{ScriptParts}
use Rattle.at_text.specs.Printable.{IsPrintable}

abbrev pub odd_script : List ℕ
odd_script = codes "attrs 1\nmain\nend\n"

abbrev pub odd_parts : ScriptParts
odd_parts = record {
  budget = limits.usual_budget;
  names = special_texts;
  classes = codes "object" ∷ [];
  vars = [];
  funcs = [];
  bodies = [];
  main = [];
  threads = [];
  finally = None;
}

abbrev pub did : LineOp → LineReply → What
did operation reply = whats.Did (record { 0 = 0 }) paths.Locked operation reply

abbrev pub line : ℕ → ℕ → What → Line
line thread number what = record { thread = thread; number = number; what = what }

abbrev pub odd_lines : List Line
odd_lines =
    line main_thread 1 (did (line_ops.Of (ops.Mro 0)) (line_replies.Of (replies.Order [])))
    ∷ line main_thread 2 (did (line_ops.Begin 0 (Some 0)) (line_replies.Of replies.Done))
    ∷ line main_thread 3 (did line_ops.Finish (line_replies.Suspended 0)) ∷ line finally_thread 1 (whats.Local locals.Depth) ∷ []

abbrev pub odd_last : Final
odd_last = record { classes = record { class = 0; order = []; own = [] } ∷ []; objects = record { class = 0; own = [] } ∷ [] }

abbrev pub OddRunIsPrintable : Type 0
OddRunIsPrintable = IsPrintable odd_script odd_parts odd_lines odd_last
