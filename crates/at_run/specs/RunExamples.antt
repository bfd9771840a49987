-- A script with two threads, a run of it in which these run one after another and one in which they interleave, and lists
-- of lines that are no run of it, each by one part.
use Rattle.std.specs.Prelude.{ℕ, pos, List, [], ◌∷◌, ◌++◌, Some, None, codes}
use Rattle.at_value.specs.declared.value.Value.TheVariants as values
use Rattle.at_value.specs.Types.{Op}
use Rattle.at_value.specs.declared.operation.Op.TheVariants as ops
use Rattle.at_value.specs.declared.reply.Reply.TheVariants as replies
use Rattle.at_line.specs.Types.{Line, What}
use Rattle.at_line.specs.declared.line.Local.TheVariants as locals
use Rattle.at_line.specs.declared.line.What.TheVariants as whats
use Rattle.at_line.specs.Lines.{main_thread, finally_thread}
use Rattle.at_line.specs.LineExamples.{begins, does, line_in, makes_class, gets_five, gets_six, sets_five, sets_six, gives_seven, gives_eight}
use Rattle.at_line.specs.KeptExamples.{ends_kept}
use Rattle.at_script.specs.Types.{Stmt}
use Rattle.at_script.specs.declared.stmt.Stmt.TheVariants as stmts
use Rattle.at_script.specs.declared.stmt.Operand.TheVariants as operands
use Rattle.at_script.specs.declared.stmt.Target.TheVariants as targets
use Rattle.at_script.specs.Parts.{ScriptParts}
use Rattle.at_script.specs.Texts.{texts_of}

-- `begin a`, `set a.x 7`, `finish`, `get a.y`, `let b a`
abbrev pub first_block : List Stmt
first_block =
    stmts.Begin (targets.Var 0) None ∷ stmts.Set (targets.Var 0) 5 (operands.Value (values.Int (pos 7))) ∷ stmts.Finish ∷ stmts.Get (targets.Var 0) 6
    ∷ stmts.Let 1 (operands.Var 0) ∷ []

-- `set a.y 8`, `get b.x`
abbrev pub second_block : List Stmt
second_block = stmts.Set (targets.Var 0) 6 (operands.Value (values.Int (pos 8))) ∷ stmts.Get (targets.Var 1) 5 ∷ []

-- `get a.x`
abbrev pub last_block : List Stmt
last_block = stmts.Get (targets.Var 0) 5 ∷ []

-- `main` makes a class, `class C`, and an object, `new a C`, whose variable the threads and `finally` use. The variable that
-- the first thread binds is its own.
abbrev pub example_script : ScriptParts
example_script = record {
  budget = 100;
  names = (texts_of []).names ++ codes "x" ∷ codes "y" ∷ [];
  classes = (texts_of []).classes ++ codes "C" ∷ [];
  vars = codes "a" ∷ codes "b" ∷ [];
  funcs = [];
  bodies = [];
  main = stmts.Class 1 (0 ∷ []) ∷ stmts.New 0 1 None ∷ [];
  threads = first_block ∷ second_block ∷ [];
  finally = Some last_block;
}

-- Runs

abbrev pub main_lines : List Line
main_lines = line_in main_thread 1 (does 1 makes_class replies.Done) ∷ line_in main_thread 2 (does 2 (ops.New 1) (replies.Made 0 None)) ∷ []

-- the first thread up to the end of its section
abbrev pub section_lines : List Line
section_lines = line_in 1 1 (begins 2 0) ∷ line_in 1 2 (does 3 sets_five replies.Done) ∷ line_in 1 3 (ends_kept 3) ∷ []

abbrev pub says_unbound : ℕ → What
says_unbound variable = whats.Local (locals.Unbound variable)

-- the second thread, and `finally`
abbrev pub second_lines : List Line
second_lines = line_in 2 1 (does 4 sets_six replies.Done) ∷ line_in 2 2 (says_unbound 1) ∷ []

abbrev pub last_lines : List Line
last_lines = line_in finally_thread 1 (does 4 gets_five gives_seven) ∷ []

-- the first thread ends, and then the second writes
abbrev pub plain_lines : List Line
plain_lines = main_lines ++ section_lines ++ line_in 1 4 (does 3 gets_six replies.NoAttr) ∷ second_lines ++ last_lines

-- the second thread writes after the section of the first, and before its last read
abbrev pub interleaved_lines : List Line
interleaved_lines = main_lines ++ section_lines ++ line_in 1 4 (does 4 gets_six gives_eight) ∷ second_lines ++ last_lines

-- both have this history
abbrev pub example_history : List Op
example_history = makes_class ∷ ops.New 1 ∷ sets_five ∷ sets_six ∷ []

-- Lists that are no run of the script

-- the threads don't know the variable of `main`
abbrev pub variable_forgotten : List Line
variable_forgotten =
    main_lines ++ line_in 1 1 (says_unbound 0) ∷ line_in 1 2 (says_unbound 0) ∷ line_in 1 3 (says_unbound 0) ∷ line_in 1 4 (says_unbound 0)
    ∷ line_in 2 1 (says_unbound 0) ∷ line_in 2 2 (says_unbound 1) ∷ line_in finally_thread 1 (does 2 gets_five replies.NoAttr) ∷ []

-- `finally` alone doesn't know it
abbrev pub variable_forgotten_at_last : List Line
variable_forgotten_at_last =
    main_lines ++ section_lines ++ line_in 1 4 (does 3 gets_six replies.NoAttr) ∷ second_lines ++ line_in finally_thread 1 (says_unbound 0) ∷ []

-- the second thread knows the variable of the first
abbrev pub variable_shared : List Line
variable_shared =
    main_lines ++ section_lines ++ line_in 1 4 (does 3 gets_six replies.NoAttr) ∷ line_in 2 1 (does 4 sets_six replies.Done)
    ∷ line_in 2 2 (does 4 gets_five gives_seven) ∷ last_lines

-- each thread has the lines of the other
abbrev pub threads_swapped : List Line
threads_swapped =
    main_lines ++ line_in 1 1 (does 3 sets_six replies.Done) ∷ line_in 1 2 (says_unbound 1) ∷ line_in 2 1 (begins 3 0) ∷ line_in 2 2 (does 4 sets_five replies.Done)
    ∷ line_in 2 3 (ends_kept 4) ∷ line_in 2 4 (does 4 gets_six gives_eight) ∷ last_lines

-- `finally` has no line
abbrev pub finally_left_out : List Line
finally_left_out = main_lines ++ section_lines ++ line_in 1 4 (does 3 gets_six replies.NoAttr) ∷ second_lines

-- the lines of the second thread are numbered from 0
abbrev pub numbered_from_zero : List Line
numbered_from_zero =
    main_lines ++ section_lines ++ line_in 1 4 (does 3 gets_six replies.NoAttr) ∷ line_in 2 0 (does 4 sets_six replies.Done) ∷ line_in 2 1 (says_unbound 1)
    ∷ last_lines

-- a thread that the script hasn't says a line
abbrev pub thread_added : List Line
thread_added = main_lines ++ section_lines ++ line_in 1 4 (does 3 gets_six replies.NoAttr) ∷ second_lines ++ line_in 3 1 (does 4 gets_six gives_eight) ∷ last_lines

-- the second thread stands before the first
abbrev pub threads_out_of_order : List Line
threads_out_of_order = main_lines ++ second_lines ++ section_lines ++ line_in 1 4 (does 3 gets_six replies.NoAttr) ∷ last_lines
