-- What a line says: its words, told apart by their form alone.
use Rattle.std.specs.Prelude.{ℕ, nat_le, Bool, ◌&&◌, List, [], ◌∷◌, length, Option, Some, None, if◌then◌else◌, ℤ}
use Rattle.std.specs.Option.{option_map}
use Rattle.std.specs.List.{list_all}
use Rattle.at_value.specs.Widths as widths
use Rattle.at_script.specs.declared.keyword.Keyword as keyword
use Rattle.at_script.specs.declared.keyword.Keyword.TheVariants as keywords
use Rattle.at_script.specs.Bytes as bytes
use Rattle.at_script.specs.Pieces.{halves, one_part, two_parts}
use Rattle.at_script.specs.Words.{is_identifier, identifier_of, number_of}
use Rattle.at_script.specs.Literals.{◌>>=◌, Written, value_of}

-- A line in texts: first those that begin a block or end it, then the statements.
pub data Said : Type 0 where
  budget : ℤ → Said
  func : List ℕ → Said
  main : Said
  thread : Said
  finally : Said
  end : Said
  class : List ℕ → List (List ℕ) → Said
  bases : List ℕ → List (List ℕ) → Said
  put : List ℕ → List ℕ → Written → Said
  cut : List ℕ → List ℕ → Said
  new : List ℕ → List ℕ → Option Written → Said
  set : List ℕ → List ℕ → Written → Said
  del : List ℕ → List ℕ → Said
  get : List ℕ → List ℕ → Said
  turn : List ℕ → List ℕ → Said
  share : List ℕ → List ℕ → Said
  super_read : List ℕ → List ℕ → List ℕ → Said
  special : List ℕ → List ℕ → Said
  classof : List ℕ → Said
  mro : List ℕ → Said
  call : List ℕ → List ℕ → Option Written → Said
  super_call : List ℕ → List ℕ → List ℕ → Option Written → Said
  bind : List ℕ → Written → Said
  result : Written → Said
  begin : List ℕ → Option (List ℕ) → Said
  finish : Said
  checkpoint : Said

-- Words of a form

-- `C.x` or `R.x`: the two sides of the dot
abbrev pub attribute_of : List ℕ → Option (List ℕ × List ℕ)
attribute_of word = do
  sides ← halves bytes.dot word
  owner ← identifier_of sides.0
  name ← identifier_of sides.1
  Some (owner, name)

-- up to as many identifiers as a class may have bases
abbrev pub are_bases : List (List ℕ) → Bool
are_bases words = nat_le (length words) widths.most_bases && list_all is_identifier words

-- What follows the first word

-- an identifier: `func F`, `classof R`, `mro C`
abbrev pub identifier : List (List ℕ) → Option (List ℕ)
identifier words = one_part words >>= identifier_of

-- two identifiers: `turn R C`, `share R R`
abbrev pub identifiers : List (List ℕ) → Option (List ℕ × List ℕ)
identifiers words = do
  parts ← two_parts words
  first ← identifier_of parts.0
  second ← identifier_of parts.1
  Some (first, second)

-- one identifier or two: `begin R [R]`
abbrev pub identifier_or_two : List (List ℕ) → Option (List ℕ × Option (List ℕ))
identifier_or_two [] = None
identifier_or_two (r ∷ []) = option_map (λ first. (first, None)) (identifier_of r)
identifier_or_two (r ∷ q ∷ []) = do
  first ← identifier_of r
  second ← identifier_of q
  Some (first, Some second)
identifier_or_two (r ∷ q ∷ word ∷ rest) = None

-- a class and bases: `class C B..`, `bases C B..`
abbrev pub class_and_bases : List (List ℕ) → Option (List ℕ × List (List ℕ))
class_and_bases [] = None
class_and_bases (c ∷ words) = do
  name ← identifier_of c
  if are_bases words then Some (name, words) else None

-- an attribute: `cut C.x`, `del R.x`, `get R.x`, `special R.x`
abbrev pub attribute : List (List ℕ) → Option (List ℕ × List ℕ)
attribute words = one_part words >>= attribute_of

-- an attribute and a value: `put C.x V`, `set R.x V`
abbrev pub attribute_and_value : List (List ℕ) → Option ((List ℕ × List ℕ) × Written)
attribute_and_value words = do
  parts ← two_parts words
  place ← attribute_of parts.0
  value ← value_of parts.1
  Some (place, value)

-- an identifier and an attribute: `super C R.x`
abbrev pub identifier_and_attribute : List (List ℕ) → Option (List ℕ × (List ℕ × List ℕ))
identifier_and_attribute words = do
  parts ← two_parts words
  name ← identifier_of parts.0
  place ← attribute_of parts.1
  Some (name, place)

-- an identifier and a value: `let a V`
abbrev pub identifier_and_value : List (List ℕ) → Option (List ℕ × Written)
identifier_and_value words = do
  parts ← two_parts words
  name ← identifier_of parts.0
  value ← value_of parts.1
  Some (name, value)

-- a value: `return V`
abbrev pub value : List (List ℕ) → Option Written
value words = one_part words >>= value_of

-- a value that may be left out
abbrev pub given : List (List ℕ) → Option (Option Written)
given [] = Some None
given (word ∷ []) = option_map Some (value_of word)
given (word ∷ next ∷ rest) = None

-- two identifiers, and a value that may be left out: `new a C [V]`
abbrev pub identifiers_and_given : List (List ℕ) → Option ((List ℕ × List ℕ) × Option Written)
identifiers_and_given [] = None
identifiers_and_given (a ∷ []) = None
identifiers_and_given (a ∷ c ∷ rest) = do
  first ← identifier_of a
  second ← identifier_of c
  value ← given rest
  Some ((first, second), value)

-- an attribute, and a value that may be left out: `call R.x [V]`
abbrev pub attribute_and_given : List (List ℕ) → Option ((List ℕ × List ℕ) × Option Written)
attribute_and_given [] = None
attribute_and_given (word ∷ rest) = do
  place ← attribute_of word
  value ← given rest
  Some (place, value)

-- an identifier, an attribute, and a value that may be left out: `callsuper C R.x [V]`
abbrev pub identifier_attribute_and_given : List (List ℕ) → Option (List ℕ × (List ℕ × List ℕ) × Option Written)
identifier_attribute_and_given [] = None
identifier_attribute_and_given (c ∷ []) = None
identifier_attribute_and_given (c ∷ word ∷ rest) = do
  name ← identifier_of c
  place ← attribute_of word
  value ← given rest
  Some (name, place, value)

-- nothing
abbrev pub alone : Said → List (List ℕ) → Option Said
alone said [] = Some said
alone said (word ∷ words) = None

-- What the words after a keyword say with it. A line that begins with `attrs` says something as the first alone.
abbrev pub words_say : keyword.Keyword → List (List ℕ) → Option Said
words_say keywords.Attrs words = None
words_say keywords.Budget words = option_map budget (one_part words >>= number_of)
words_say keywords.Func words = option_map func (identifier words)
words_say keywords.Main words = alone main words
words_say keywords.Thread words = alone thread words
words_say keywords.Finally words = alone finally words
words_say keywords.End words = alone end words
words_say keywords.Class words = option_map (λ p. class p.0 p.1) (class_and_bases words)
words_say keywords.Bases words = option_map (λ p. bases p.0 p.1) (class_and_bases words)
words_say keywords.Put words = option_map (λ p. put p.0.0 p.0.1 p.1) (attribute_and_value words)
words_say keywords.Cut words = option_map (λ p. cut p.0 p.1) (attribute words)
words_say keywords.New words = option_map (λ p. new p.0.0 p.0.1 p.1) (identifiers_and_given words)
words_say keywords.Set words = option_map (λ p. set p.0.0 p.0.1 p.1) (attribute_and_value words)
words_say keywords.Del words = option_map (λ p. del p.0 p.1) (attribute words)
words_say keywords.Get words = option_map (λ p. get p.0 p.1) (attribute words)
words_say keywords.Turn words = option_map (λ p. turn p.0 p.1) (identifiers words)
words_say keywords.Share words = option_map (λ p. share p.0 p.1) (identifiers words)
words_say keywords.Super words = option_map (λ p. super_read p.0 p.1.0 p.1.1) (identifier_and_attribute words)
words_say keywords.Special words = option_map (λ p. special p.0 p.1) (attribute words)
words_say keywords.ClassOf words = option_map classof (identifier words)
words_say keywords.Mro words = option_map mro (identifier words)
words_say keywords.Call words = option_map (λ p. call p.0.0 p.0.1 p.1) (attribute_and_given words)
words_say keywords.CallSuper words =
    option_map (λ p. super_call p.0 p.1.0 p.1.1 p.2) (identifier_attribute_and_given words)
words_say keywords.Let words = option_map (λ p. bind p.0 p.1) (identifier_and_value words)
words_say keywords.Return words = option_map result (value words)
words_say keywords.Begin words = option_map (λ p. begin p.0 p.1) (identifier_or_two words)
words_say keywords.Finish words = alone finish words
words_say keywords.Checkpoint words = alone checkpoint words
