-- private: about the reader's own types; no public clause cites it. What the reader makes of a line.
use Rattle.std.specs.Prelude.{ℕ, ◌+◌, nat_le, nat_lt, Bool, true, false, List, [], ◌∷◌, ◌++◌, length, map, Option, Some, None, Result, Ok, Err, if◌then◌else◌, codes, ℤ}
use Rattle.std.specs.Option.{option_map}
use Rattle.std.specs.List.{list_all}
use Rattle.std.specs.declared.vec.Vec.{Vec}
use Rattle.at_script.specs.declared.fault.Cause as cause
use Rattle.at_script.specs.declared.fault.Cause.TheVariants as causes
use Rattle.at_script.specs.declared.fault.ReadFault.{ReadFault}
use Rattle.at_script.specs.declared.fault.ReadFault.TheVariants as read_faults
use Rattle.at_script.specs.declared.fault.LineFault.{LineFault}
use Rattle.at_script.specs.declared.keyword.Keyword as keyword
use Rattle.at_script.specs.declared.keyword.Keyword.TheVariants as keywords
use Rattle.at_script.specs.declared.so_far.Reader.{Reader}
use Rattle.at_script.specs.declared.stage.BlockKind as block_kind
use Rattle.at_script.specs.declared.stage.BlockKind.TheVariants as block_kinds
use Rattle.at_script.specs.declared.stage.Stage as stage
use Rattle.at_script.specs.declared.stage.Stage.TheVariants as stages
use Rattle.at_script.specs.declared.stmt.Stmt.{Stmt}
use Rattle.at_script.specs.Limits as limits
use Rattle.at_script.specs.Pieces.{one_part, two_parts}
use Rattle.at_script.specs.Lines.{is_allowed, words_in, begins_with_hash}
use Rattle.at_script.specs.Keywords.{keyword_of}
use Rattle.at_script.specs.Words.{number_of, is_in_range, is_budget}
use Rattle.at_script.specs.Shapes as shapes
use Rattle.at_script.specs.Stages.{may_stand, end_cause}
use Rattle.at_script.specs.State.{State}
use Rattle.at_script.specs.Causes.{are_words}
use Rattle.at_script.specs.Script.{budget_of, ended}
use Rattle.at_script.specs.Reading.{texts_in, read_fault}
use Rattle.at_script.specs.Taking.{Taken, wrong, mapped, function_begun}
use Rattle.at_script.specs.Stating.{statement_taken}

abbrev pub items_of : {Z : Type 0} → Vec Stmt Z → List Stmt
items_of block = block.items

-- what the lines so far say
abbrev pub state_of : Reader → State
state_of r = record {
  stage = r.stage;
  bytes = r.bytes;
  texts = texts_in r.tables;
  budget = r.budget;
  block = r.block.items;
  bodies = map items_of r.bodies.items;
  main = r.main.items;
  threads = map items_of r.threads.items;
  finally = option_map items_of r.finally;
}

-- the state that a call leaves where it answers no fault
abbrev pub left : {A : Type 0} → Result A LineFault → State → Result State LineFault
left (Ok x) s = Ok s
left (Err fault) s = Err fault

-- The stage

abbrev pub section_after : keyword.Keyword → Bool → Bool
section_after keywords.Begin section = true
section_after keywords.Finish section = false
section_after k section = section

abbrev pub stage_after : keyword.Keyword → stage.Stage → stage.Stage
stage_after k (stages.Within kind section) = stages.Within kind (section_after k section)
stage_after k stages.Header = stages.Header
stage_after k stages.Opening = stages.Opening
stage_after k stages.Functions = stages.Functions
stage_after k stages.Ending = stages.Ending
stage_after k stages.Closed = stages.Closed

-- A line of a block

abbrev pub state_with : State → keyword.Keyword → Taken Stmt → Result State LineFault
state_with s k found =
    mapped (λ statement. record s { texts = found.1; block = s.block ++ statement ∷ []; stage = stage_after k s.stage }) found.0

abbrev pub statement_read : State → keyword.Keyword → List (List ℕ) → Result State LineFault
statement_read s k words = state_with s k (statement_taken (length s.texts.vars) s.texts k words)

-- Lines that begin or end a block

abbrev pub if_alone : {A : Type 0} → List (List ℕ) → Result A LineFault → Result A LineFault
if_alone [] result = result
if_alone (word ∷ words) result = wrong causes.Form

abbrev pub budget_checked : Option ℤ → Result ℕ LineFault
budget_checked None = wrong causes.Number
budget_checked (Some z) = if is_budget z then Ok (budget_of z) else wrong causes.Number

abbrev pub budget_found : Option ℤ → Result ℕ LineFault
budget_found None = wrong causes.Form
budget_found (Some z) = budget_checked (if is_in_range z then Some z else None)

abbrev pub number_word : Option (List ℕ) → Option ℤ
number_word None = None
number_word (Some word) = number_of word

abbrev pub budget_taken : List (List ℕ) → Result ℕ LineFault
budget_taken words = budget_found (number_word (one_part words))

abbrev pub budget_read : State → List (List ℕ) → Result State LineFault
budget_read s words = mapped (λ n. record s { budget = n; stage = stages.Functions }) (budget_taken words)

abbrev pub function_named : State → Option (List ℕ) → Result State LineFault
function_named s None = wrong causes.Form
function_named s (Some f) = mapped (λ _. record s { stage = stages.Within block_kinds.Func false }) (function_begun (length s.bodies) s.texts f)

abbrev pub function_read : State → List (List ℕ) → Result State LineFault
function_read s words = function_named s (shapes.identifier words)

abbrev pub block_read : State → block_kind.BlockKind → List (List ℕ) → Result State LineFault
block_read s kind words = if_alone words (Ok (record s { stage = stages.Within kind false }))

abbrev pub thread_read : State → List (List ℕ) → Result State LineFault
thread_read s words =
    if_alone words (if nat_le limits.most_threads (length s.threads) then wrong causes.Limit else Ok (record s { stage = stages.Within block_kinds.Thread false }))

abbrev pub end_read : State → List (List ℕ) → Result State LineFault
end_read s words = if_alone words (Ok (ended s.stage s))

-- what a line with this keyword makes of the state
abbrev pub keyword_read : State → keyword.Keyword → List (List ℕ) → Result State LineFault
keyword_read s keywords.Budget words = budget_read s words
keyword_read s keywords.Func words = function_read s words
keyword_read s keywords.Main words = block_read s block_kinds.Main words
keyword_read s keywords.Thread words = thread_read s words
keyword_read s keywords.Finally words = block_read s block_kinds.Finally words
keyword_read s keywords.End words = end_read s words
keyword_read s k words = statement_read s k words

-- A line

abbrev pub keyword_found : State → Option keyword.Keyword → List (List ℕ) → Result State LineFault
keyword_found s None words = wrong causes.Word
keyword_found s (Some k) words = if may_stand s.stage k then keyword_read s k words else wrong causes.Place

abbrev pub words_read : State → List (List ℕ) → Result State LineFault
words_read s [] = Ok s
words_read s (word ∷ words) = if begins_with_hash word then Ok s else keyword_found s (keyword_of word) words

abbrev pub header_read : State → List ℕ → Result State LineFault
header_read s line =
    if are_words (codes "attrs") (codes "1") (two_parts (words_in line)) then Ok (record s { stage = stages.Opening }) else wrong causes.Header

abbrev pub said_read : stage.Stage → State → List ℕ → Result State LineFault
said_read stages.Header s line = header_read s line
said_read stages.Opening s line = words_read s (words_in line)
said_read stages.Functions s line = words_read s (words_in line)
said_read (stages.Within kind section) s line = words_read s (words_in line)
said_read stages.Ending s line = words_read s (words_in line)
said_read stages.Closed s line = words_read s (words_in line)

-- the state with the bytes of a line, where they aren't too many
abbrev pub counted : ℕ → State → Result State LineFault
counted count s =
    if nat_lt limits.most_bytes (s.bytes + count) then wrong causes.Limit else Ok (record s { bytes = s.bytes + count })

abbrev pub then_counted : ℕ → Result State LineFault → Result State LineFault
then_counted count (Ok s) = counted count s
then_counted count (Err fault) = Err fault

abbrev pub line_read : State → List ℕ → Result State LineFault
line_read s line = if list_all is_allowed line then then_counted (length line) (said_read s.stage s line) else wrong causes.Byte

-- Lines to the end of the text

-- what is missing after the last line
abbrev pub end_read_at : ℕ → State → Option cause.Cause → Result State ReadFault
end_read_at number s None = Ok s
end_read_at number s (Some c) = Err (read_faults.Refused number c)

abbrev pub then_lines : ℕ → (State → Result State ReadFault) → Result State LineFault → Result State ReadFault
then_lines number next (Ok s) = next s
then_lines number next (Err fault) = Err (read_fault number fault)

abbrev pub lines_read : ℕ → State → List (List ℕ) → Result State ReadFault
lines_read number s [] = end_read_at number s (end_cause s.stage)
lines_read number s (line ∷ lines) = then_lines number (λ t. lines_read (number + 1) t lines) (line_read s line)

abbrev pub left_read : {A : Type 0} → Result A ReadFault → State → Result State ReadFault
left_read (Ok x) s = Ok s
left_read (Err fault) s = Err fault

-- the fact, where memory was found
abbrev pub IfToldRead : {A : Type 0} → Result A ReadFault → Type 0 → Type 0
IfToldRead (Ok x) P = P
IfToldRead (Err (read_faults.Refused line c)) P = P
IfToldRead (Err read_faults.NoMemory) P = Unit {0}
