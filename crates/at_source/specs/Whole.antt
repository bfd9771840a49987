-- Whole inputs and whole texts.
use Rattle.std.specs.Prelude.{ℕ, ◌≡◌, ◌≤◌, ◌<◌, List, [], take, drop, length, Option, Some, None}
use Rattle.std.specs.Io.KnownBytes.{append_known}

-- The source gave all that was left, where its content is known: the bytes are those, and nothing is left.
abbrev pub GaveAll : Option (List ℕ) → Option (List ℕ) → List ℕ → Type 0
GaveAll None now bytes = now ≡ None
GaveAll (Some left) now bytes = (bytes ≡ left) × (now ≡ Some [])

-- The source gave n bytes, where its content is known: it had them, and those after them are left.
abbrev pub GaveFirst : ℕ → Option (List ℕ) → Option (List ℕ) → Type 0
GaveFirst n None now = now ≡ None
GaveFirst n (Some left) now = (n ≤ length left) × (now ≡ Some (drop n left))

-- The source gave fewer bytes than `most`.
abbrev pub GaveFewer : ℕ → Option (List ℕ) → Option (List ℕ) → Type 0
GaveFewer most before now = (n : ℕ) × (n < most) × GaveFirst n before now

-- What was written grew by a prefix of the text, perhaps by all of it.
abbrev pub GrewByPrefix : Option (List ℕ) → Option (List ℕ) → List ℕ → Type 0
GrewByPrefix before now text = (n : ℕ) × (n ≤ length text) × (now ≡ append_known before (take n text))
