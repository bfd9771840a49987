-- The lines of a text, and the words of a line.
use Rattle.std.specs.Prelude.{ℕ, ◌==◌, nat_le, Bool, true, not, ◌&&◌, ◌||◌, List, [], ◌∷◌, length, if◌then◌else◌}
use Rattle.std.specs.List.{slice_split, onto_first, filter}
use Rattle.at_script.specs.Bytes as bytes

-- A newline ends a line and belongs to it; the last line may lack one.
abbrev pub lines_of : List ℕ → List (List ℕ)
lines_of [] = []
lines_of (byte ∷ rest) = if byte == bytes.newline then (byte ∷ []) ∷ lines_of rest else onto_first byte (lines_of rest)

-- a byte of ASCII that prints, a newline, a tab or a carriage return
abbrev pub is_allowed : ℕ → Bool
is_allowed byte =
    nat_le bytes.space byte && nat_le byte bytes.tilde || byte == bytes.newline || byte == bytes.tab || byte == bytes.carriage_return

-- a space, the newline at the end, a tab or a carriage return
abbrev pub is_blank : ℕ → Bool
is_blank byte = byte == bytes.space || byte == bytes.newline || byte == bytes.tab || byte == bytes.carriage_return

-- between two blanks that stand side by side there is no word
abbrev pub is_word : List ℕ → Bool
is_word part = not (length part == 0)

-- the words of a line stand between blanks
abbrev pub words_in : List ℕ → List (List ℕ)
words_in line = filter is_word (slice_split is_blank line)

abbrev pub begins_with_hash : List ℕ → Bool
begins_with_hash [] = true
begins_with_hash (byte ∷ rest) = byte == bytes.hash

-- a line that says nothing: it has no word, or its first word begins with `#`
abbrev pub is_skipped : List (List ℕ) → Bool
is_skipped [] = true
is_skipped (word ∷ words) = begins_with_hash word
