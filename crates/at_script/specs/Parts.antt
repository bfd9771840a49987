-- What a script is.
use Rattle.std.specs.Prelude.{ℕ, List, Option, Some, slice_get}
use Rattle.at_script.specs.declared.stmt.Stmt.{Stmt}
use Rattle.at_script.specs.declared.stmt.Block.{Block}
use Rattle.at_script.specs.declared.stmt.Block.TheVariants.{Main, Thread, Finally, Func}

-- Texts and functions are known by their places in these lists; `bodies` has the statements of each function.
pub record ScriptParts : Type 0 where
  pub budget : ℕ
  pub names : List (List ℕ)
  pub classes : List (List ℕ)
  pub vars : List (List ℕ)
  pub funcs : List (List ℕ)
  pub bodies : List (List Stmt)
  pub main : List Stmt
  pub threads : List (List Stmt)
  pub finally : Option (List Stmt)

-- the statements of a block, where the script has it
abbrev pub block_of : ScriptParts → Block → Option (List Stmt)
block_of s Main = Some s.main
block_of s (Thread number) = slice_get s.threads number
block_of s Finally = s.finally
block_of s (Func f) = slice_get s.bodies f
