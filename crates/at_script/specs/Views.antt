-- private: about the reader's own types; no public clause cites it.
use Rattle.std.specs.Prelude.{ℕ, List, [], Option, Some, None, if◌then◌else◌, codes, bytes_eq}
use Rattle.std.specs.Option.{option_map, option_copied}
use Rattle.std.specs.List.{slice_split, filter}
use Rattle.std.specs.Borrow.{Bor}
use Rattle.at_script.specs.declared.lines.Words.{Words}
use Rattle.at_script.specs.declared.literal.Literal.{Literal}
use Rattle.at_script.specs.declared.literal.Literal.TheVariants as literals
use Rattle.at_script.specs.declared.word.Register.{Register}
use Rattle.at_script.specs.declared.word.Register.TheVariants as registers
use Rattle.at_script.specs.Numerals.{number_in}
use Rattle.at_script.specs.Lines.{is_blank, is_word}
use Rattle.at_script.specs.Literals.{Written, nothing, integer, quoted, named, static, classm, prop}

-- Words

-- the parts of what stands after a blank, where anything does
abbrev pub parts_after : Option (Bor (List ℕ)) → List (List ℕ)
parts_after None = []
parts_after (Some rest) = slice_split is_blank rest.now

-- the words that are left
abbrev pub words_left : Words → List (List ℕ)
words_left w = filter is_word (parts_after w.rest)

-- what two references lead to
abbrev pub both_now : Bor (List ℕ) × Bor (List ℕ) → List ℕ × List ℕ
both_now p = (p.0.now, p.1.now)

-- the register that an identifier names
abbrev pub register_in : List ℕ → Option Register
register_in word =
    if bytes_eq word (codes "self")
    then Some registers.SelfArg
    else if bytes_eq word (codes "arg")
    then Some registers.Arg
    else if bytes_eq word (codes "other")
    then Some registers.Other
    else if bytes_eq word (codes "it") then Some registers.It else None

-- Values

abbrev pub written : Literal → Written
written literals.Nothing = nothing
written (literals.Number n) = integer (number_in n)
written (literals.Text t) = quoted t.now
written (literals.Word w) = named w.now
written (literals.Static f) = static f.now
written (literals.ClassM f) = classm f.now
written (literals.Prop reader writer deleter) = prop (option_copied reader) (option_copied writer) (option_copied deleter)

-- What references in the parts of a line lead to

abbrev pub first_and_second : Bor (List ℕ) × Option (Bor (List ℕ)) → List ℕ × Option (List ℕ)
first_and_second p = (p.0.now, option_copied p.1)

abbrev pub first_and_words : Bor (List ℕ) × Words → List ℕ × List (List ℕ)
first_and_words p = (p.0.now, words_left p.1)

abbrev pub place_and_value : (Bor (List ℕ) × Bor (List ℕ)) × Literal → (List ℕ × List ℕ) × Written
place_and_value p = (both_now p.0, written p.1)

abbrev pub first_and_place : Bor (List ℕ) × (Bor (List ℕ) × Bor (List ℕ)) → List ℕ × (List ℕ × List ℕ)
first_and_place p = (p.0.now, both_now p.1)

abbrev pub first_and_value : Bor (List ℕ) × Literal → List ℕ × Written
first_and_value p = (p.0.now, written p.1)

abbrev pub both_and_given : (Bor (List ℕ) × Bor (List ℕ)) × Option Literal → (List ℕ × List ℕ) × Option Written
both_and_given p = (both_now p.0, option_map written p.1)

abbrev pub first_place_and_given : Bor (List ℕ) × (Bor (List ℕ) × Bor (List ℕ)) × Option Literal → List ℕ × (List ℕ × List ℕ) × Option Written
first_place_and_given p = (p.0.now, both_now p.1, option_map written p.2)
