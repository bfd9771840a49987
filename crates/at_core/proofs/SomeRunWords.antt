-- Words after several stores.
use Rattle.std.proofs.Common.{◌≡◌, ℕ, zero, suc, Bool, false, true, IsTrue, List, [], ◌∷◌, length, set, refl, ap, ◌∙◌, length-set}
use Rattle.std.specs.Prelude.{◌&&◌, not, slice_index}
use Rattle.std.proofs.lemmas.Bool.{and_parts, not-true}
use Rattle.at_view.specs.Words.{Word, number_of, is_there, is_same, table_words}
use Rattle.at_core.specs.Rule.{listed, words_of}
use Rattle.at_core.proofs.WordLemmas.{updated_here, updated_else, reloaded, said, stored}

-- a word that was stored, and another one
pub said_here : (words : List ℕ) → length words ≡ table_words → (a : Word) (n : ℕ) → IsTrue (is_there a) → words_of (set words (number_of a) n) a ≡ n
said_here words wide a n here = ap (λ w. w a) (stored words wide a n here) ∙ updated_here (words_of words) a n

pub said_else : (words : List ℕ) → length words ≡ table_words → (a b : Word) (n : ℕ) → IsTrue (is_there a) → is_same b a ≡ false → words_of (set words (number_of a) n) b ≡ words_of words b
said_else words wide a b n here ne = ap (λ w. w b) (stored words wide a n here) ∙ updated_else (words_of words) a b n ne

pub wide_still : (words : List ℕ) (i n : ℕ) → length words ≡ table_words → length (set words i n) ≡ table_words
wide_still words i n wide = length-set words i n ∙ wide

-- a word is set, or loaded
pub data Store : Type 0 where
  puts : Word → ℕ → Store
  loads : Word → Store

abbrev pub with_store : List ℕ → Store → List ℕ
with_store words (puts b n) = set words (number_of b) n
with_store words (loads b) = set words (number_of b) (words_of words b)

-- the words after these, the first of them first
abbrev pub with_stores : List ℕ → List Store → List ℕ
with_stores words [] = words
with_stores words (store ∷ stores) = with_stores (with_store words store) stores

pub wide_with : (words : List ℕ) (stores : List Store) → length words ≡ table_words → length (with_stores words stores) ≡ table_words
wide_with words [] wide = wide
wide_with words (puts b n ∷ stores) wide = wide_with (set words (number_of b) n) stores (wide_still words (number_of b) n wide)
wide_with words (loads b ∷ stores) wide = wide_with (set words (number_of b) (words_of words b)) stores (wide_still words (number_of b) (words_of words b) wide)

-- they are to words of the table, and none sets this one
abbrev pub is_beside : Word → Store → Bool
is_beside a (puts b n) = is_there b && not (is_same a b)
is_beside a (loads b) = is_there b

abbrev pub are_beside : Word → List Store → Bool
are_beside a [] = true
are_beside a (store ∷ stores) = is_beside a store && are_beside a stores

-- one such leaves it
beside_one : (words : List ℕ) → length words ≡ table_words → (a : Word) (store : Store) → is_beside a store ≡ true → words_of (with_store words store) a ≡ words_of words a
beside_one words wide a (puts b n) beside =
    let (there, apart) = and_parts (is_there b) (not (is_same a b)) beside in said_else words wide b a n there (not-true (is_same a b) apart)
beside_one words wide a (loads b) beside =
    ap (λ (n : ℕ). words_of (set words (number_of b) n) a) (said words b beside) ∙ ap (λ w. w a) (reloaded words (number_of b))

-- and so do all
pub said_beside : (words : List ℕ) → length words ≡ table_words → (a : Word) (stores : List Store) → are_beside a stores ≡ true → words_of (with_stores words stores) a ≡ words_of words a
said_beside words wide a [] beside = refl
said_beside words wide a (store ∷ stores) beside =
    let (one, others) = and_parts (is_beside a store) (are_beside a stores) beside in
    said_beside (with_store words store) (wide_with words (store ∷ []) wide) a stores others ∙ beside_one words wide a store one

-- where each value is 0, so is each of a list of them
pub listed_zero : (n : ℕ) (f : ℕ → ℕ) → ((i : ℕ) → f i ≡ 0) → (i : ℕ) → slice_index (listed n f) i ≡ 0
listed_zero zero f none i = refl
listed_zero (suc n) f none zero = none 0
listed_zero (suc n) f none (suc i) = listed_zero n (λ j. f (suc j)) (λ j. none (suc j)) i
