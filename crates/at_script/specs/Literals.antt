-- Values as a script writes them.
use Rattle.std.specs.Prelude.{ℕ, ◌==◌, ◌&&◌, List, length, Option, Some, None, if◌then◌else◌, codes, bytes_eq, option_and_then, ℤ}
use Rattle.std.specs.Option.{option_map}
use Rattle.at_script.specs.Bytes as bytes
use Rattle.at_script.specs.Pieces.{halves}
use Rattle.at_script.specs.Words.{identifier_of, number_of}

infixl 10 ◌>>=◌
abbrev pub ◌>>=◌ : {A B : Type 0} → Option A → (A → Option B) → Option B
o >>= f = option_and_then f o

-- A value in texts. A named one is a class, a function, a variable, `self`, `arg`, `other` or `it`.
pub data Written : Type 0 where
  nothing : Written
  integer : ℤ → Written
  quoted : List ℕ → Written
  named : List ℕ → Written
  static : List ℕ → Written
  classm : List ℕ → Written
  prop : Option (List ℕ) → Option (List ℕ) → Option (List ℕ) → Written

-- the first that there is
abbrev pub or : {A : Type 0} → Option A → Option A → Option A
or None second = second
or (Some x) second = Some x

-- an identifier between two double quotes
abbrev pub quoted_of : List ℕ → Option (List ℕ)
quoted_of word = do
  first ← halves bytes.double_quote word
  second ← halves bytes.double_quote first.1
  if length first.0 == 0 && length second.1 == 0 then identifier_of second.0 else None

-- a function of a property, or `-` where it has none
abbrev pub function_of : List ℕ → Option (Option (List ℕ))
function_of word = if bytes_eq word (codes "-") then Some None else option_map Some (identifier_of word)

-- `P,P,P`: what reads, what writes and what deletes
abbrev pub property_of : List ℕ → Option Written
property_of word = do
  first ← halves bytes.comma word
  second ← halves bytes.comma first.1
  get ← function_of first.0
  set ← function_of second.0
  del ← function_of second.1
  Some (prop get set del)

-- `static:F`, `classm:F` or `prop:P,P,P`
abbrev pub wrapped : List ℕ × List ℕ → Option Written
wrapped sides =
    if bytes_eq sides.0 (codes "static")
    then option_map static (identifier_of sides.1)
    else if bytes_eq sides.0 (codes "classm")
    then option_map classm (identifier_of sides.1)
    else if bytes_eq sides.0 (codes "prop") then property_of sides.1 else None

abbrev pub wrapped_of : List ℕ → Option Written
wrapped_of word = halves bytes.colon word >>= wrapped

-- The value of this form: `none`, a name, a number, a text, or a function that is wrapped.
abbrev pub value_of : List ℕ → Option Written
value_of word =
    if bytes_eq word (codes "none")
    then Some nothing
    else or (option_map named (identifier_of word)) (or (option_map integer (number_of word)) (or (option_map quoted (quoted_of word)) (wrapped_of word)))
