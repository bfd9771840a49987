-- Inline values: values in words beside each other, each under the key of its word, in place of a map.
use Rattle.std.specs.Prelude.{ℕ, suc, ◌≡◌, ◌≢◌, ◌≤◌, ◌⊎◌, List, Option, Some, None}
use Rattle.at_value.specs.declared.value.Value as value
use Rattle.at_value.specs.Pairs.{value_at}
use Rattle.at_value.specs.Widths.{names}
use Rattle.at_value.specs.Words.{HasWord}

-- how many there are at most
abbrev pub inline_most : ℕ
inline_most = 8

-- none of the keys is that of the name; a key is 0, or the number of a name and 1
abbrev pub NoneIs : ℕ → (ℕ → ℕ) → Type 0
NoneIs n keys = (i : ℕ) → keys i ≢ suc n

-- an inline word is 0, or the word of a value
abbrev pub IsCell : ℕ → Type 0
IsCell word = (word ≡ 0) ⊎ ((v : value.Value) × HasWord v word)

abbrev pub IsWordOf : Option value.Value → ℕ → Type 0
IsWordOf None word = word ≡ 0
IsWordOf (Some v) word = HasWord v word

-- it is the word of the name's value, and 0 where the name has none
abbrev pub IsWordUnder : ℕ → List (ℕ × value.Value) → ℕ → Type 0
IsWordUnder n pairs word = IsWordOf (value_at n pairs) word

-- The inline values are those of the map: under a key stands its name's value, each name that has a value has a key, and
-- past the keys each word is 0.
pub record AreValuesOf (pairs : List (ℕ × value.Value)) (keys values : ℕ → ℕ) : Type 0 where
  pub under : (i n : ℕ) → keys i ≡ suc n → IsWordUnder n pairs (values i)
  pub named : (n : ℕ) → NoneIs n keys → value_at n pairs ≡ None
  pub past : (i : ℕ) → keys i ≡ 0 → values i ≡ 0

-- Keys and words that are inline values of some map: each key is 0 or that of a name, no name has two, and each word is 0 or
-- that of a value, and 0 where its key is 0.
pub record AreInline (keys values : ℕ → ℕ) : Type 0 where
  pub small : (i : ℕ) → keys i ≤ names
  pub distinct : (i j n : ℕ) → keys i ≡ suc n → keys j ≡ suc n → i ≡ j
  pub cells : (i : ℕ) → IsCell (values i)
  pub past : (i : ℕ) → keys i ≡ 0 → values i ≡ 0
