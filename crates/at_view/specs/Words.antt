-- The words of the shared table by name.
use Rattle.std.specs.Prelude.{ℕ, suc, ◌≡◌, ◌+◌, ◌*◌, ◌<◌, ◌==◌, ◌&&◌, nat_lt, Bool, true, IsTrue, if◌then◌else◌}
use Rattle.at_value.specs.Widths.{classes, objects}
use Rattle.at_view.specs.Counts.{passes, keys, inline_values, entries, intent_words, entry_fields}

pub data Word : Type 0 where
  -- the count of writes
  place : Word
  -- the lock of the types
  type_lock : Word
  -- the sequence that each retirement raises
  global_sequence : Word
  -- of each pass: the sequence that it has come to, and the words of the operation that it intends
  own_sequence : ℕ → Word
  intent : ℕ → ℕ → Word
  -- of each class: its version tag, and its keys
  tag : ℕ → Word
  key : ℕ → ℕ → Word
  -- of each cache entry: its sequence, and its fields
  entry_sequence : ℕ → Word
  entry_field : ℕ → ℕ → Word
  -- of each object: the lock of its row, its head, and its inline values
  row_lock : ℕ → Word
  head : ℕ → Word
  inline_value : ℕ → ℕ → Word

-- how many words a cache entry has, and how many an object
abbrev pub entry_words : ℕ
entry_words = suc entry_fields

abbrev pub object_words : ℕ
object_words = suc (suc inline_values)

-- The words stand family by family; the first word of each

abbrev pub first_own : ℕ
first_own = 3

abbrev pub first_intent : ℕ
first_intent = first_own + passes

abbrev pub first_tag : ℕ
first_tag = first_intent + intent_words * passes

abbrev pub first_key : ℕ
first_key = first_tag + classes

abbrev pub first_entry : ℕ
first_entry = first_key + keys * classes

abbrev pub first_object : ℕ
first_object = first_entry + entry_words * entries

-- how many words there are
abbrev pub table_words : ℕ
table_words = first_object + object_words * objects

-- the number of a word in the table
abbrev pub number_of : Word → ℕ
number_of place = 0
number_of type_lock = 1
number_of global_sequence = 2
number_of (own_sequence p) = first_own + p
number_of (intent p j) = first_intent + intent_words * p + j
number_of (tag c) = first_tag + c
number_of (key c i) = first_key + keys * c + i
number_of (entry_sequence e) = first_entry + entry_words * e
number_of (entry_field e i) = first_entry + entry_words * e + 1 + i
number_of (row_lock o) = first_object + object_words * o
number_of (head o) = first_object + object_words * o + 1
number_of (inline_value o i) = first_object + object_words * o + 2 + i

-- whether the table has the word
abbrev pub is_there : Word → Bool
is_there place = true
is_there type_lock = true
is_there global_sequence = true
is_there (own_sequence p) = nat_lt p passes
is_there (intent p j) = nat_lt p passes && nat_lt j intent_words
is_there (tag c) = nat_lt c classes
is_there (key c i) = nat_lt c classes && nat_lt i keys
is_there (entry_sequence e) = nat_lt e entries
is_there (entry_field e i) = nat_lt e entries && nat_lt i entry_fields
is_there (row_lock o) = nat_lt o objects
is_there (head o) = nat_lt o objects
is_there (inline_value o i) = nat_lt o objects && nat_lt i inline_values

-- Whether two names are the same: the family, and the one or two indices in it

abbrev pub family : Word → ℕ
family place = 0
family type_lock = 1
family global_sequence = 2
family (own_sequence p) = 3
family (intent p j) = 4
family (tag c) = 5
family (key c i) = 6
family (entry_sequence e) = 7
family (entry_field e i) = 8
family (row_lock o) = 9
family (head o) = 10
family (inline_value o i) = 11

abbrev pub first_index : Word → ℕ
first_index place = 0
first_index type_lock = 0
first_index global_sequence = 0
first_index (own_sequence p) = p
first_index (intent p j) = p
first_index (tag c) = c
first_index (key c i) = c
first_index (entry_sequence e) = e
first_index (entry_field e i) = e
first_index (row_lock o) = o
first_index (head o) = o
first_index (inline_value o i) = o

abbrev pub second_index : Word → ℕ
second_index place = 0
second_index type_lock = 0
second_index global_sequence = 0
second_index (own_sequence p) = 0
second_index (intent p j) = j
second_index (tag c) = 0
second_index (key c i) = i
second_index (entry_sequence e) = 0
second_index (entry_field e i) = i
second_index (row_lock o) = 0
second_index (head o) = 0
second_index (inline_value o i) = i

abbrev pub is_same : Word → Word → Bool
is_same a b = (family a == family b) && (second_index a == second_index b) && (first_index a == first_index b)

-- What the words say

-- each word by name; a name that the table doesn't have says 0
abbrev pub Words : Type 0
Words = Word → ℕ

-- the words in which one says this
abbrev pub updated : Words → Word → ℕ → Words
updated words a n = λ b. if is_same b a then n else words b

-- The laws of the numbers

-- each word of the table stands in it
abbrev pub AllAreInside : Type 0
AllAreInside = (a : Word) → IsTrue (is_there a) → number_of a < table_words

-- no two words of the table have one number
abbrev pub AllAreApart : Type 0
AllAreApart = (a b : Word) → IsTrue (is_there a) → IsTrue (is_there b) → number_of a ≡ number_of b → a ≡ b
