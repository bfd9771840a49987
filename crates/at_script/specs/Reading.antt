-- private: about the reader's own types; no public clause cites it. What the reader finds of each operand of a line, in
-- the texts so far: its value, or the first thing that is wrong with it.
use Rattle.std.specs.Prelude.{ℕ, nat_le, nat_lt, Bool, false, List, [], ◌∷◌, map, length, Option, Some, None, Result, Ok, Err, if◌then◌else◌, ◌++◌, codes}
use Rattle.std.specs.Option.{option_to_list}
use Rattle.at_script.specs.declared.fault.Cause as cause
use Rattle.at_script.specs.declared.fault.Cause.TheVariants as causes
use Rattle.at_script.specs.declared.fault.ReadFault.{ReadFault}
use Rattle.at_script.specs.declared.fault.ReadFault.TheVariants as read_faults
use Rattle.at_script.specs.declared.fault.LineFault.{LineFault}
use Rattle.at_script.specs.declared.fault.LineFault.TheVariants.{Wrong, NoMemory}
use Rattle.at_script.specs.declared.meaning.Meaning.{Meaning}
use Rattle.at_script.specs.declared.tables.Tables.{Tables}
use Rattle.at_script.specs.Meanings.{now_of, meaning_among}
use Rattle.at_name.specs.Texts.{place_of, special_texts}
use Rattle.at_script.specs.Lines.{words_in}
use Rattle.at_script.specs.Texts.{Texts, with_texts, declared_by}

-- What the tables have

abbrev pub texts_in : Tables → Texts
texts_in t = record {
  classes = map now_of t.classes.items;
  funcs = map now_of t.funcs.items;
  names = map now_of t.names.items;
  vars = map now_of t.vars.items;
}

-- what an identifier is numbered as
abbrev pub meaning_in : Texts → List ℕ → Meaning
meaning_in t word = meaning_among t.classes t.funcs t.vars t.names word

-- the texts with what a line of these words declares
abbrev pub with_declared : Texts → List (List ℕ) → Texts
with_declared t words = record t {
  classes = with_texts t.classes (option_to_list (declared_by (codes "class") words));
  funcs = with_texts t.funcs (option_to_list (declared_by (codes "func") words));
}

-- the texts with what these lines declare
abbrev pub with_all_declared : Texts → List (List ℕ) → Texts
with_all_declared t [] = t
with_all_declared t (line ∷ lines) = with_all_declared (with_declared t (words_in line)) lines

-- the texts of no line
abbrev pub no_texts : Texts
no_texts = record { classes = []; funcs = []; names = special_texts; vars = [] }

-- What is numbered

abbrev pub found_or_added : ℕ → List ℕ → List (List ℕ) → Option ℕ → Result ℕ LineFault × List (List ℕ)
found_or_added most text texts (Some number) = (Ok number, texts)
found_or_added most text texts None =
    if nat_lt (length texts) most then (Ok (length texts), texts ++ text ∷ []) else (Err (Wrong causes.Limit), texts)

-- the number of a text, and the texts with it, where there is room for it
abbrev pub numbered_in : ℕ → List (List ℕ) → List ℕ → Result ℕ LineFault × List (List ℕ)
numbered_in most texts text = found_or_added most text texts (place_of text texts)

-- a number there is, and below this one
abbrev pub is_below : ℕ → Option ℕ → Bool
is_below most None = false
is_below most (Some number) = nat_lt number most

-- What is found

-- the value, where nothing is wrong
abbrev pub unless : {A : Type 0} → Option cause.Cause → A → Result A LineFault
unless None x = Ok x
unless (Some c) x = Err (Wrong c)

-- the fact, where memory was found
abbrev pub IfTold : {A : Type 0} → Result A LineFault → Type 0 → Type 0
IfTold (Ok x) P = P
IfTold (Err (Wrong c)) P = P
IfTold (Err NoMemory) P = Unit {0}

-- the order of causes
abbrev pub rank : cause.Cause → ℕ
rank causes.Byte = 0
rank causes.Header = 1
rank causes.Word = 2
rank causes.Place = 3
rank causes.Form = 4
rank causes.Number = 5
rank causes.Name = 6
rank causes.Class = 7
rank causes.Func = 8
rank causes.Limit = 9
rank causes.End = 10

-- of two faults of a line, the one that is said
abbrev pub fault_of : LineFault → LineFault → LineFault
fault_of NoMemory second = NoMemory
fault_of (Wrong c) NoMemory = NoMemory
fault_of (Wrong c) (Wrong d) = if nat_le (rank c) (rank d) then Wrong c else Wrong d

-- two parts of a line
abbrev pub both_of : {A B : Type 0} → Result A LineFault → Result B LineFault → Result (A × B) LineFault
both_of (Ok x) (Ok y) = Ok (x, y)
both_of (Ok x) (Err f) = Err f
both_of (Err f) (Ok y) = Err f
both_of (Err f) (Err g) = Err (fault_of f g)

-- the fault of a line with its number
abbrev pub read_fault : ℕ → LineFault → ReadFault
read_fault line (Wrong c) = read_faults.Refused line c
read_fault line NoMemory = read_faults.NoMemory
