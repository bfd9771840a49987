-- What the text before a line says.
use Rattle.std.specs.Prelude.{ℕ, List, [], Option, None}
use Rattle.at_script.specs.declared.stage.Stage as stage
use Rattle.at_script.specs.declared.stage.Stage.TheVariants as stages
use Rattle.at_script.specs.declared.stmt.Stmt.{Stmt}
use Rattle.at_script.specs.Limits as limits
use Rattle.at_script.specs.Texts.{Texts, texts_of}
use Rattle.at_script.specs.Parts.{ScriptParts}

-- Where the line stands, how many bytes stand before it, and the script so far; `block` has the statements of the block
-- that the line stands in.
pub record State : Type 0 where
  pub stage : stage.Stage
  pub bytes : ℕ
  pub texts : Texts
  pub budget : ℕ
  pub block : List Stmt
  pub bodies : List (List Stmt)
  pub main : List Stmt
  pub threads : List (List Stmt)
  pub finally : Option (List Stmt)

-- before the first of these lines
abbrev pub before_all : List (List ℕ) → State
before_all lines = record {
  stage = stages.Header;
  bytes = 0;
  texts = texts_of lines;
  budget = limits.usual_budget;
  block = [];
  bodies = [];
  main = [];
  threads = [];
  finally = None;
}

-- the script, where no line is left
abbrev pub parts_of : State → ScriptParts
parts_of s = record {
  budget = s.budget;
  names = s.texts.names;
  classes = s.texts.classes;
  vars = s.texts.vars;
  funcs = s.texts.funcs;
  bodies = s.bodies;
  main = s.main;
  threads = s.threads;
  finally = s.finally;
}
