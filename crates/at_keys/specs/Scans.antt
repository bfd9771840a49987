-- Scans of the keys of a class: its keys are loaded in turn, as far as that of a name, or the first that isn't used.
use Rattle.std.specs.Prelude.{ℕ, suc, ◌≡◌, ◌≢◌, ◌⊎◌, List, [], ◌∷◌, ◌++◌, length, slice_index, All}
use Rattle.at_view.specs.declared.view.View.{View}
use Rattle.at_view.specs.Counts as counts
use Rattle.at_core.specs.HeadPlays.{SawKey}
use Rattle.at_core.specs.HeadSteps.{key_loaded}
use Rattle.at_keys.specs.declared.scanning.KeyAt as key_at
use Rattle.at_keys.specs.declared.scanning.KeyAt.TheVariants as found

-- Keys of the class were loaded in turn, from this index on. At each load all keys of the class were these.
abbrev pub keys_loaded : ℕ → View → ℕ → List (List ℕ) → View
keys_loaded c v i [] = v
keys_loaded c v i (known ∷ more) = keys_loaded c (key_loaded v c i known (slice_index known i)) (suc i) more

-- the words that were loaded
abbrev pub words_loaded : ℕ → List (List ℕ) → List ℕ
words_loaded i [] = []
words_loaded i (known ∷ more) = slice_index known i ∷ words_loaded (suc i) more

-- each load told what a load of a key tells
abbrev pub AreSeen : ℕ → View → ℕ → List (List ℕ) → Type 0
AreSeen c v i [] = Unit {0}
AreSeen c v i (known ∷ more) = SawKey v c i (slice_index known i) known × AreSeen c (key_loaded v c i known (slice_index known i)) (suc i) more

-- the word is the key of another name
abbrev pub IsOther : ℕ → ℕ → Type 0
IsOther n word = (word ≢ 0) × (word ≢ suc n)

-- What the words that were loaded answer: the last is the name's key; or the last isn't used, or there are no more. All before are
-- the keys of other names.
abbrev pub Answers : ℕ → List ℕ → key_at.KeyAt → Type 0
Answers n words (found.At i) = (others : List ℕ) × All (IsOther n) others × (length others ≡ i) × (words ≡ others ++ suc n ∷ [])
Answers n words found.NotThere = (others : List ℕ) × All (IsOther n) others × ((words ≡ others ++ 0 ∷ []) ⊎ ((words ≡ others) × (length others ≡ counts.keys)))

-- The answer is that of the words that were loaded.
pub record Scans (c n : ℕ) (v w : View) (answer : key_at.KeyAt) : Type 0 where
  pub loads : List (List ℕ)
  pub after : w ≡ keys_loaded c v 0 loads
  pub seen : AreSeen c v 0 loads
  pub answers : Answers n (words_loaded 0 loads) answer
