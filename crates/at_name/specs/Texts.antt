-- Lists of distinct texts, in which a text is known by its place.
use Rattle.std.specs.Prelude.{ℕ, ◌≡◌, ◌≤◌, nat_lt, List, [], ◌∷◌, ◌++◌, length, take, Option, Some, None, position, bytes_eq, codes, if◌then◌else◌, option_and_then}
use Rattle.std.specs.List.{IsDistinct}
use Rattle.at_value.specs.Numbers.{special_names}
use Rattle.at_value.specs.Widths as widths

-- where the text stands
abbrev pub place_of : List ℕ → List (List ℕ) → Option ℕ
place_of text texts = position (bytes_eq text) texts

-- a place that was found, or else that of a text that is added at the end where fewer than `most` are there
abbrev pub found_or_added : ℕ → List ℕ → List (List ℕ) → Option ℕ → Option (ℕ × List (List ℕ))
found_or_added most text texts (Some place) = Some (place, texts)
found_or_added most text texts None =
    if nat_lt (length texts) most then Some (length texts, texts ++ text ∷ []) else None

-- the place of the text, and the texts with it
abbrev pub interned : ℕ → List ℕ → List (List ℕ) → Option (ℕ × List (List ℕ))
interned most text texts = found_or_added most text texts (place_of text texts)

-- the text isn't there, and as many texts are as there may be
abbrev pub HasNoRoomFor : ℕ → List ℕ → List (List ℕ) → Type 0
HasNoRoomFor most text texts = (place_of text texts ≡ None) × (length texts ≡ most)

-- the texts with all of these, each added at the end where it isn't there
abbrev pub all_interned : ℕ → List (List ℕ) → List (List ℕ) → Option (List (List ℕ))
all_interned most texts [] = Some texts
all_interned most texts (text ∷ more) =
    option_and_then (λ found. all_interned most found.1 more) (interned most text texts)

-- no text twice, and no more than `most` texts
pub record AreDistinct (most : ℕ) (texts : List (List ℕ)) : Type 0 where
  pub distinct : IsDistinct bytes_eq texts
  pub bounded : length texts ≤ most

-- The special names that attribute access looks up (Python language reference, sections 3.3.2 and 3.3.1), in the order
-- of their numbers.
abbrev pub special_texts : List (List ℕ)
special_texts = codes "__get__" ∷ codes "__set__" ∷ codes "__delete__" ∷ codes "__getattr__" ∷ codes "__init__" ∷ []

-- What a table of names is: the special names first, no text twice, and no more texts than there are names.
pub record AreNames (texts : List (List ℕ)) : Type 0 where
  pub special : take special_names texts ≡ special_texts
  pub distinct : IsDistinct bytes_eq texts
  pub most : length texts ≤ widths.names
