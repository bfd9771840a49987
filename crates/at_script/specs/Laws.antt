-- What is true of every text.
use Rattle.std.specs.Prelude.{ℕ, suc, ◌≡◌, ◌<◌, ◌≤◌, ◌↔◌, List, length, take, slice_get, Option, Some, None, is_some, is_none, codes, true}
use Rattle.at_name.specs.Texts.{place_of}
use Rattle.at_script.specs.declared.fault.Cause as cause
use Rattle.at_script.specs.Limits as limits
use Rattle.at_script.specs.Lines.{lines_of}
use Rattle.at_script.specs.Words.{is_identifier}
use Rattle.at_script.specs.Parts.{ScriptParts}
use Rattle.at_script.specs.Stages.{end_cause}
use Rattle.at_script.specs.Texts.{texts_of}
use Rattle.at_script.specs.State.{State}
use Rattle.at_script.specs.Causes.{cause_of}
use Rattle.at_script.specs.Script.{first_offence, state_before, script_of, IsScript}

-- what is wrong with a line, or what is missing where there is no more
abbrev pub cause_in : State → Option (List ℕ) → Option cause.Cause
cause_in s None = end_cause s.stage
cause_in s (Some line) = cause_of s line

-- what is wrong with the line that has this many lines before it, or what is missing after the last
abbrev pub cause_at : List ℕ → ℕ → Option cause.Cause
cause_at text n = cause_in (state_before text n) (slice_get (lines_of text) n)

-- no line before the one that has this many lines before it has an offence
abbrev pub IsCleanBefore : List ℕ → ℕ → Type 0
IsCleanBefore text n = (m : ℕ) → m < n → cause_at text m ≡ None

-- a text is a script exactly where it has no offence
abbrev pub ScriptsHaveNoOffence : Type 0
ScriptsHaveNoOffence = (text : List ℕ) → is_some (script_of text) ≡ is_none (first_offence text)

-- The first offence of a text is that of the line with this number, or what is missing behind the last line; no line
-- before has one.
abbrev pub OffenceIsTheFirst : Type 0
OffenceIsTheFirst =
    (text : List ℕ) (line : ℕ) (c : cause.Cause)
    → (first_offence text ≡ Some (line, c))
    ↔ ((n : ℕ) × (line ≡ suc n) × (n ≤ length (lines_of text)) × (cause_at text n ≡ Some c) × IsCleanBefore text n)

-- Texts that declare the same, and that are alike up to the first line with an offence, have the same first offence:
-- what stands behind it changes nothing but by what it declares.
abbrev pub NothingBehindCounts : Type 0
NothingBehindCounts =
    (text other : List ℕ) (line : ℕ) (c : cause.Cause)
    → first_offence text ≡ Some (line, c)
    → take line (lines_of text) ≡ take line (lines_of other)
    → texts_of (lines_of text) ≡ texts_of (lines_of other)
    → first_offence other ≡ Some (line, c)

-- each text is an identifier, and is known by its place
abbrev pub AreIdentifiers : List (List ℕ) → Type 0
AreIdentifiers texts = (n : ℕ) (text : List ℕ) → slice_get texts n ≡ Some text → (is_identifier text ≡ true) × (place_of text texts ≡ Some n)

-- What a script names is told apart by its identifiers. Classes and functions have one name among them, and none of them is
-- called `none`.
pub record AreToldApart (s : ScriptParts) : Type 0 where
  pub names : AreIdentifiers s.names
  pub classes : AreIdentifiers s.classes
  pub vars : AreIdentifiers s.vars
  pub funcs : AreIdentifiers s.funcs
  pub apart : (text : List ℕ) → is_some (place_of text s.classes) ≡ true → place_of text s.funcs ≡ None
  pub none_class : place_of (codes "none") s.classes ≡ None
  pub none_func : place_of (codes "none") s.funcs ≡ None

-- the names of a script are told apart
abbrev pub NamesAreToldApart : Type 0
NamesAreToldApart = (text : List ℕ) (s : ScriptParts) → IsScript text s → AreToldApart s

-- a script has no more bytes than there may be
abbrev pub ScriptsAreShort : Type 0
ScriptsAreShort = (text : List ℕ) (s : ScriptParts) → IsScript text s → length text ≤ limits.most_bytes
