-- The sections of a pass: what their notes say, and that the notes are what the trace says.
use Rattle.std.specs.Prelude.{ℕ, suc, ◌≡◌, ◌≤◌, ◌==◌, ◌||◌, ◌&&◌, nat_lt, Bool, true, false, List, [], ◌∷◌, ◌++◌, map, Option, Some, None, if◌then◌else◌}
use Rattle.std.specs.List.{list_all}
use Rattle.at_view.specs.declared.mark.Mark.{Mark}
use Rattle.at_view.specs.declared.view.View.{View}
use Rattle.at_core.specs.declared.lock.Lock as lock
use Rattle.at_core.specs.declared.lock.Lock.TheVariants as locks
use Rattle.at_core.specs.declared.note.Note.{Note}
use Rattle.at_core.specs.declared.world.Pass.{Pass}
use Rattle.at_core.specs.Locks.{hold_of, holds}
use Rattle.at_core.specs.Passes.{notes, view}
use Rattle.at_section.specs.Deeds.{Every, Held, held, names, word_of, is_blocked}
use Rattle.at_section.specs.Scores.{score, Start, opening, capped, most}

-- Locks

abbrev pub types_lock : Bool → List lock.Lock
types_lock true = locks.Types ∷ []
types_lock false = []

abbrev pub row_lock : Option ℕ → List lock.Lock
row_lock None = []
row_lock (Some o) = locks.Row o ∷ []

-- the locks that a note names, in the order in which they are taken
abbrev pub locks_of : Note → List lock.Lock
locks_of n = types_lock n.types ++ (row_lock n.a ++ row_lock n.b)

-- the rows of two objects by rising number, one where both are the same
abbrev pub two_rows : ℕ → ℕ → List lock.Lock
two_rows o p = if o == p then locks.Row o ∷ [] else (if nat_lt o p then locks.Row o ∷ locks.Row p ∷ [] else locks.Row p ∷ locks.Row o ∷ [])

abbrev pub rows : Option ℕ → Option ℕ → List lock.Lock
rows None b = row_lock b
rows (Some o) None = locks.Row o ∷ []
rows (Some o) (Some p) = two_rows o p

-- the locks of a section over these objects in the order in which they are taken: that of the types, then rows by rising number
abbrev pub in_order : Bool → Option ℕ → Option ℕ → List lock.Lock
in_order types a b = types_lock types ++ rows a b

-- Notes after steps

abbrev pub lost : Bool → Note → Note
lost true n = record n { active = false; given = if nat_lt n.given most then suc n.given else most }
lost false n = n

-- a section that has the lock is given back
abbrev pub after_give : lock.Lock → Note → Note
after_give l n = lost (n.active && names (locks_of n) (word_of l)) n

-- a section has its locks where all are held
abbrev pub after_load : Held → Note → Note
after_load before n = record n { active = n.active || list_all before (locks_of n) }

-- What a note says

-- the lock is held, and has been so from a history of at most so many writes on
abbrev pub IsHeldSince : ℕ → View → lock.Lock → Type 0
IsHeldSince place v l = (holds l v ≡ true) × ((hold_of l v).entered ≤ place)

-- The note is what the trace says of a section with this start.
pub record Stands (v : View) (n : Note) (s : Start) : Type 0 where
  pub marks : List Mark
  pub trace : v.trace ≡ s.trace ++ marks
  pub given : ℕ
  pub scored : score (locks_of n) (opening s) marks ≡ record { held = held v; had = n.active; given = given; blocked = is_blocked v; caused = true }
  pub counted : n.given ≡ capped given
  pub since : n.given ≡ 0 → Every (IsHeldSince s.place v) (locks_of n)

abbrev pub Pairs : {A B : Type 0} → (A → B → Type 0) → List A → List B → Type 0
Pairs R [] [] = Unit {0}
Pairs R [] (y ∷ ys) = ⊥
Pairs R (x ∷ xs) [] = ⊥
Pairs R (x ∷ xs) (y ∷ ys) = R x y × Pairs R xs ys

-- the sections that a pass is in have these starts, the innermost last
abbrev pub Sections : Pass → List Start → Type 0
Sections p starts = Pairs (λ n s. Stands (view p) n s) (notes p) starts

-- Whatever sections a pass is in, it is in them yet: what every call does that begins and ends none.
abbrev pub Stay : Pass → Pass → Type 0
Stay p q = (starts : List Start) → Sections p starts → Sections q starts

-- the locks that its sections name
abbrev pub named_locks : List Note → List (List lock.Lock)
named_locks ns = map locks_of ns
