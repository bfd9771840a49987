-- How the words of an operation are read: what stands under each kind, whatever else the words have. Only private functions
-- cite it: what the public ones promise is said by the words of operations.
use Rattle.std.specs.Prelude.{ℕ, zero, suc, ◌/◌, ◌%◌, ◌^◌, ◌-◌, ◌==◌, nat_le, min, List, [], ◌∷◌, ◌++◌, Option, Some, None, option_map, if◌then◌else◌, slice_index}
use Rattle.at_value.specs.declared.operation.Op as op
use Rattle.at_value.specs.declared.operation.Op.TheVariants as ops
use Rattle.at_value.specs.declared.packing.Heading.{Heading}
use Rattle.at_value.specs.Widths.{names, objects, classes, most_bases, operation_bits, subject_bits, second_bits, attribute_bits, base_bits, bases_a_word}
use Rattle.at_value.specs.Reading.{below, value_in_word}

-- what is made of two parts, and of three, where they are there
abbrev pub with_two : {A B C : Type 0} → (A → B → C) → Option A → Option B → Option C
with_two make None b = None
with_two make (Some a) None = None
with_two make (Some a) (Some b) = Some (make a b)

abbrev pub with_three : {A B C D : Type 0} → (A → B → C → D) → Option A → Option B → Option C → Option D
with_three make None b c = None
with_three make (Some a) b c = with_two (make a) b c

-- the first n classes in a word, each in a field of the width
abbrev pub classes_of_word : ℕ → ℕ → ℕ → Option (List ℕ)
classes_of_word width zero word = Some []
classes_of_word width (suc n) word = with_two (λ c cs. c ∷ cs) (below classes (word % 2 ^ width)) (classes_of_word width n (word / 2 ^ width))

-- the first `count` classes in these words, `each` a word and each class in a field of the width
abbrev pub classes_of_words : (width each count : ℕ) → List ℕ → Option (List ℕ)
classes_of_words width each count [] = Some []
classes_of_words width each count (word ∷ words) =
    with_two (λ row rest. row ++ rest) (classes_of_word width (min count each) word) (classes_of_words width each (count - each) words)

-- the first `count` bases in these words
abbrev pub bases_from : ℕ → List ℕ → Option (List ℕ)
bases_from count words = if nat_le count most_bases then classes_of_words base_bits bases_a_word count words else None

-- the fields of word 0
abbrev pub heading_at : ℕ → Heading
heading_at word = record {
  kind = word % 2 ^ operation_bits;
  subject = word / 2 ^ operation_bits % 2 ^ subject_bits;
  second = word / 2 ^ operation_bits / 2 ^ subject_bits % 2 ^ second_bits;
  name = word / 2 ^ operation_bits / 2 ^ subject_bits / 2 ^ second_bits % 2 ^ attribute_bits;
}

-- the operation with this word 0, and these words after it
abbrev pub op_at : Heading → List ℕ → Option op.Op
op_at h words =
    if h.kind == 1 then with_two ops.NewClass (below classes h.subject) (bases_from h.second words)
    else if h.kind == 2 then with_three ops.TypeSet (below classes h.subject) (below names h.name) (value_in_word (slice_index words 0))
    else if h.kind == 3 then with_two ops.TypeDel (below classes h.subject) (below names h.name)
    else if h.kind == 4 then with_two ops.SetBases (below classes h.subject) (bases_from h.second words)
    else if h.kind == 5 then option_map ops.New (below classes h.subject)
    else if h.kind == 6 then with_three ops.Set (below objects h.subject) (below names h.name) (value_in_word (slice_index words 0))
    else if h.kind == 7 then with_two ops.Del (below objects h.subject) (below names h.name)
    else if h.kind == 8 then with_two ops.SetClass (below objects h.subject) (below classes h.second)
    else if h.kind == 9 then with_two ops.Share (below objects h.subject) (below objects h.second)
    else if h.kind == 10 then with_two ops.Get (below objects h.subject) (below names h.name)
    else if h.kind == 11 then with_two ops.TypeGet (below classes h.subject) (below names h.name)
    else if h.kind == 12 then with_three ops.Super (below classes h.second) (below objects h.subject) (below names h.name)
    else if h.kind == 13 then with_two ops.Special (below objects h.subject) (below names h.name)
    else if h.kind == 14 then option_map ops.ClassOf (below objects h.subject)
    else if h.kind == 15 then option_map ops.Mro (below classes h.subject)
    else None
