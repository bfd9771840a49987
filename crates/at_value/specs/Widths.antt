-- How many numbers of each kind there may be, and how wide each stands in words. The widths are this project's own.
use Rattle.std.specs.Prelude.{ℕ}

-- names and texts together, objects, classes and functions
abbrev pub names : ℕ
names = 4096

abbrev pub objects : ℕ
objects = 4096

abbrev pub classes : ℕ
classes = 255

abbrev pub functions : ℕ
functions = 1024

-- passes at once
abbrev pub passes : ℕ
passes = 64

-- bases of one class
abbrev pub most_bases : ℕ
most_bases = 8

-- in the word of a value: its kind, an integer, a name or text, an object, a class, a function, and each part of a property
abbrev pub kind_bits : ℕ
kind_bits = 4

abbrev pub integer_bits : ℕ
integer_bits = 32

abbrev pub name_bits : ℕ
name_bits = 12

abbrev pub object_bits : ℕ
object_bits = 12

abbrev pub class_bits : ℕ
class_bits = 8

abbrev pub function_bits : ℕ
function_bits = 10

abbrev pub part_bits : ℕ
part_bits = 16

-- in word 0 of an operation: its kind, the class or object that it is done to, a second number, and a name
abbrev pub operation_bits : ℕ
operation_bits = 8

abbrev pub subject_bits : ℕ
subject_bits = 16

abbrev pub second_bits : ℕ
second_bits = 16

abbrev pub attribute_bits : ℕ
attribute_bits = 16

-- in the words after it: each base, how many bases stand in one word, and how many words there are for bases
abbrev pub base_bits : ℕ
base_bits = 8

abbrev pub bases_a_word : ℕ
bases_a_word = 8

abbrev pub bases_words : ℕ
bases_words = 3
