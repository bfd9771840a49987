-- Which bytes are the text of a script, of which one, and what is first wrong with other bytes.
use Rattle.std.specs.Prelude.{ℕ, suc, ◌≡◌, ◌+◌, Bool, true, false, List, [], ◌∷◌, ◌++◌, length, take, Option, Some, None, ℤ, pos, negsuc}
use Rattle.std.specs.Option.{option_map, option_to_list}
use Rattle.std.specs.List.{fold}
use Rattle.at_script.specs.declared.stage.BlockKind as block_kind
use Rattle.at_script.specs.declared.stage.BlockKind.TheVariants as block_kinds
use Rattle.at_script.specs.declared.stage.Stage as stage
use Rattle.at_script.specs.declared.stage.Stage.TheVariants as stages
use Rattle.at_script.specs.declared.fault.Cause as cause
use Rattle.at_script.specs.Lines.{lines_of}
use Rattle.at_script.specs.Literals.{or}
use Rattle.at_script.specs.Shapes as shapes
use Rattle.at_script.specs.Shapes.{Said}
use Rattle.at_script.specs.Stages.{end_cause}
use Rattle.at_script.specs.Uses.{uses_of, with_uses}
use Rattle.at_script.specs.State.{State, before_all, parts_of}
use Rattle.at_script.specs.Causes.{read_words, said_in, cause_of}
use Rattle.at_script.specs.Statements.{statement_of}
use Rattle.at_script.specs.Parts.{ScriptParts}

-- What a line adds

-- the number of statements, where it isn't negative
abbrev pub budget_of : ℤ → ℕ
budget_of (pos n) = n
budget_of (negsuc n) = 0

-- a block begins; no statement stands between blocks
abbrev pub beginning : block_kind.BlockKind → State → State
beginning kind s = record s { stage = stages.Within kind false }

-- a block ends, and the script has its statements
abbrev pub ending : block_kind.BlockKind → State → State
ending block_kinds.Func s = record s { stage = stages.Functions; block = []; bodies = s.bodies ++ s.block ∷ [] }
ending block_kinds.Main s = record s { stage = stages.Ending; block = []; main = s.block }
ending block_kinds.Thread s = record s { stage = stages.Ending; block = []; threads = s.threads ++ s.block ∷ [] }
ending block_kinds.Finally s = record s { stage = stages.Closed; block = []; finally = Some s.block }

-- the block in which a line stands ends with it
abbrev pub ended : stage.Stage → State → State
ended (stages.Within kind section) s = ending kind s
ended stages.Header s = s
ended stages.Opening s = s
ended stages.Functions s = s
ended stages.Ending s = s
ended stages.Closed s = s

-- in a block, with a section open or not from then on
abbrev pub in_section : Bool → stage.Stage → stage.Stage
in_section section (stages.Within kind before) = stages.Within kind section
in_section section stages.Header = stages.Header
in_section section stages.Opening = stages.Opening
in_section section stages.Functions = stages.Functions
in_section section stages.Ending = stages.Ending
in_section section stages.Closed = stages.Closed

-- where the line after this one stands; what the script has where the line begins or ends a block or says a budget
abbrev pub led_by : Said → State → State
led_by (shapes.budget z) s = record s { stage = stages.Functions; budget = budget_of z }
led_by (shapes.func f) s = beginning block_kinds.Func s
led_by shapes.main s = beginning block_kinds.Main s
led_by shapes.thread s = beginning block_kinds.Thread s
led_by shapes.finally s = beginning block_kinds.Finally s
led_by shapes.end s = ended s.stage s
led_by (shapes.begin r q) s = record s { stage = in_section true s.stage }
led_by shapes.finish s = record s { stage = in_section false s.stage }
led_by (shapes.class c above) s = s
led_by (shapes.bases c above) s = s
led_by (shapes.put c x v) s = s
led_by (shapes.cut c x) s = s
led_by (shapes.new a c v) s = s
led_by (shapes.set r x v) s = s
led_by (shapes.del r x) s = s
led_by (shapes.get r x) s = s
led_by (shapes.turn r c) s = s
led_by (shapes.share r q) s = s
led_by (shapes.super_read c r x) s = s
led_by (shapes.special r x) s = s
led_by (shapes.classof r) s = s
led_by (shapes.mro c) s = s
led_by (shapes.call r x v) s = s
led_by (shapes.super_call c r x v) s = s
led_by (shapes.bind a v) s = s
led_by (shapes.result v) s = s
led_by shapes.checkpoint s = s

-- the block with the statement of a line, and the texts with the line's own
abbrev pub with_said : Said → State → State
with_said said s =
    let t = with_uses s.texts (uses_of said) in
    record s { texts = t; block = s.block ++ option_to_list (statement_of t said) }

-- what the text says with a line that says this
abbrev pub after_said : Option Said → State → State
after_said None s = s
after_said (Some said) s = led_by said (with_said said s)

-- after the header stands the rest
abbrev pub past_header : stage.Stage → stage.Stage
past_header stages.Header = stages.Opening
past_header stages.Opening = stages.Opening
past_header stages.Functions = stages.Functions
past_header (stages.Within kind section) = stages.Within kind section
past_header stages.Ending = stages.Ending
past_header stages.Closed = stages.Closed

-- what the text says with a line that has no offence
abbrev pub after : State → List ℕ → State
after s line =
    let said = said_in (read_words s line) in
    after_said said (record s { stage = past_header s.stage; bytes = s.bytes + length line })

-- The whole text

-- The first of these lines with an offence, the lines numbered from this number on, and its cause; or else, after the last,
-- what is missing there.
abbrev pub first_from : ℕ → State → List (List ℕ) → Option (ℕ × cause.Cause)
first_from number s [] = option_map (λ c. (number, c)) (end_cause s.stage)
first_from number s (line ∷ lines) =
    or (option_map (λ c. (number, c)) (cause_of s line)) (first_from (suc number) (after s line) lines)

-- what is first wrong with a text: the line, from 1, and the cause
abbrev pub first_offence : List ℕ → Option (ℕ × cause.Cause)
first_offence text = first_from 1 (before_all (lines_of text)) (lines_of text)

-- what the text says before the line with this many lines before it, where none of those has an offence
abbrev pub state_before : List ℕ → ℕ → State
state_before text n = fold after (before_all (lines_of text)) (take n (lines_of text))

-- the script that a text without offence writes
abbrev pub script_in : List ℕ → ScriptParts
script_in text = parts_of (fold after (before_all (lines_of text)) (lines_of text))

abbrev pub if_no_offence : {A B : Type 0} → Option A → B → Option B
if_no_offence None b = Some b
if_no_offence (Some offence) b = None

-- the script that the bytes write, where they are a script
abbrev pub script_of : List ℕ → Option ScriptParts
script_of text = if_no_offence (first_offence text) (script_in text)

-- the bytes are the text of this script
abbrev pub IsScript : List ℕ → ScriptParts → Type 0
IsScript text script = script_of text ≡ Some script
