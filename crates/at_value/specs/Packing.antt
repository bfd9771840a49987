-- How an operation is written as four words of 64 bits. The layout is this project's own.
use Rattle.std.specs.Prelude.{ℕ, zero, suc, ◌≡◌, ◌<◌, ◌≤◌, List, [], ◌∷◌, length, map, take, drop}
use Rattle.at_value.specs.declared.operation.Op as op
use Rattle.at_value.specs.declared.operation.Op.TheVariants as ops
use Rattle.at_value.specs.Classes.{AreClasses}
use Rattle.at_value.specs.Widths.{names, objects, classes, most_bases, operation_bits, subject_bits, second_bits, attribute_bits, base_bits, bases_a_word, bases_words}
use Rattle.at_value.specs.Fields.{Field, field, number_of}
use Rattle.at_value.specs.Words.{IsValue, fields_of}

-- the numbers of classes, objects and names that there may be
abbrev pub IsClass : ℕ → Type 0
IsClass c = c < classes

abbrev pub IsObject : ℕ → Type 0
IsObject o = o < objects

abbrev pub IsName : ℕ → Type 0
IsName n = n < names

-- no more bases than a class may have
abbrev pub IsBases : List ℕ → Type 0
IsBases bases = (length bases ≤ most_bases) × AreClasses bases

-- each number of the operation is in its range
abbrev pub IsOp : op.Op → Type 0
IsOp (ops.NewClass c bases) = IsClass c × IsBases bases
IsOp (ops.TypeSet c n v) = IsClass c × IsName n × IsValue v
IsOp (ops.TypeDel c n) = IsClass c × IsName n
IsOp (ops.SetBases c bases) = IsClass c × IsBases bases
IsOp (ops.New c) = IsClass c
IsOp (ops.Set o n v) = IsObject o × IsName n × IsValue v
IsOp (ops.Del o n) = IsObject o × IsName n
IsOp (ops.SetClass o c) = IsObject o × IsClass c
IsOp (ops.Share o q) = IsObject o × IsObject q
IsOp (ops.Get o n) = IsObject o × IsName n
IsOp (ops.TypeGet c n) = IsClass c × IsName n
IsOp (ops.Super k o n) = IsClass k × IsObject o × IsName n
IsOp (ops.Special o n) = IsObject o × IsName n
IsOp (ops.ClassOf o) = IsObject o
IsOp (ops.Mro c) = IsClass c

-- The fields of word 0 from bit 0 on: the kind of the operation, the class or object that it is done to, a second number,
-- and a name.
abbrev pub heading_fields : ℕ → ℕ → ℕ → ℕ → List Field
heading_fields kind subject second name =
    field operation_bits kind ∷ field subject_bits subject ∷ field second_bits second ∷ field attribute_bits name ∷ []

-- numbers in one word, each in a field of the width, the first from bit 0 on
abbrev pub row_fields : ℕ → List ℕ → List Field
row_fields width numbers = map (field width) numbers

-- numbers in words, `each` a word and each number in a field of the width, the first in word 0 from bit 0 on
abbrev pub rows_fields : (width each words : ℕ) → List ℕ → List (List Field)
rows_fields width each zero numbers = []
rows_fields width each (suc words) numbers = row_fields width (take each numbers) ∷ rows_fields width each words (drop each numbers)

-- the fields of the words after word 0 that have bases
abbrev pub bases_fields : List ℕ → List (List Field)
bases_fields bases = rows_fields base_bits bases_a_word bases_words bases

-- The fields of the four words of an operation. What an operation doesn't have is 0, and a word that it doesn't use has no
-- fields.
abbrev pub words_fields : op.Op → List (List Field)
words_fields (ops.NewClass c bases) = heading_fields 1 c (length bases) 0 ∷ bases_fields bases
words_fields (ops.TypeSet c n v) = heading_fields 2 c 0 n ∷ fields_of v ∷ [] ∷ [] ∷ []
words_fields (ops.TypeDel c n) = heading_fields 3 c 0 n ∷ [] ∷ [] ∷ [] ∷ []
words_fields (ops.SetBases c bases) = heading_fields 4 c (length bases) 0 ∷ bases_fields bases
words_fields (ops.New c) = heading_fields 5 c 0 0 ∷ [] ∷ [] ∷ [] ∷ []
words_fields (ops.Set o n v) = heading_fields 6 o 0 n ∷ fields_of v ∷ [] ∷ [] ∷ []
words_fields (ops.Del o n) = heading_fields 7 o 0 n ∷ [] ∷ [] ∷ [] ∷ []
words_fields (ops.SetClass o c) = heading_fields 8 o c 0 ∷ [] ∷ [] ∷ [] ∷ []
words_fields (ops.Share o q) = heading_fields 9 o q 0 ∷ [] ∷ [] ∷ [] ∷ []
words_fields (ops.Get o n) = heading_fields 10 o 0 n ∷ [] ∷ [] ∷ [] ∷ []
words_fields (ops.TypeGet c n) = heading_fields 11 c 0 n ∷ [] ∷ [] ∷ [] ∷ []
words_fields (ops.Super k o n) = heading_fields 12 o k n ∷ [] ∷ [] ∷ [] ∷ []
words_fields (ops.Special o n) = heading_fields 13 o 0 n ∷ [] ∷ [] ∷ [] ∷ []
words_fields (ops.ClassOf o) = heading_fields 14 o 0 0 ∷ [] ∷ [] ∷ [] ∷ []
words_fields (ops.Mro c) = heading_fields 15 c 0 0 ∷ [] ∷ [] ∷ [] ∷ []

-- the four words of an operation
abbrev pub words_of : op.Op → List ℕ
words_of o = map number_of (words_fields o)

-- o is in range, and these are its words
abbrev pub HasWords : op.Op → List ℕ → Type 0
HasWords o words = IsOp o × (words_of o ≡ words)
