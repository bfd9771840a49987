-- What a change of one word does to the words by name.
use Rattle.std.proofs.Common.{◌≡◌, ◌≢◌, ℕ, ◌<◌, Bool, true, false, true≢false, List, length, set, get_or, IsTrue, refl, sym, ap, ◌∙◌, subst, get_or-set_same, get_or-set_other}
use Rattle.std.specs.Prelude.{if◌then◌else◌}
use lib.Seq.{set-get_or}
use Rattle.at_view.specs.Words.{Word, Words, number_of, is_there, is_same, updated, table_words}
use Rattle.at_view.proofs.WordLaws.{inside, apart, one_word, self}
use Rattle.at_core.specs.Rule.{words_of}

-- the word that was stored
pub updated_here : (words : Words) (a : Word) (n : ℕ) → updated words a n a ≡ n
updated_here words a n = ap (λ (b : Bool). if b then n else words a) (self a)

-- a word by another name
pub updated_else : (words : Words) (a b : Word) (n : ℕ) → is_same b a ≡ false → updated words a n b ≡ words b
updated_else words a b n e = ap (λ (t : Bool). if t then n else words b) e

-- a load leaves all words
pub reloaded : (words : List ℕ) (i : ℕ) → words_of (set words i (get_or words i 0)) ≡ words_of words
reloaded words i = ap words_of (set-get_or words i 0)

-- a word that the table has says what stands there
pub said : (words : List ℕ) (a : Word) → IsTrue (is_there a) → words_of words a ≡ get_or words (number_of a) 0
said words a here = ap (λ (t : Bool). if t then get_or words (number_of a) 0 else 0) here

-- a store changes what one name says
pub stored : (words : List ℕ) → length words ≡ table_words → (a : Word) (n : ℕ) → IsTrue (is_there a) → words_of (set words (number_of a) n) ≡ updated (words_of words) a n
stored words wide a n here = λ i b. at b (is_same b a) refl i
  where
    other : (b : Word) → is_same b a ≡ false → (t : Bool) → is_there b ≡ t → words_of (set words (number_of a) n) b ≡ words_of words b
    other b e false gone = ap (λ (t : Bool). if t then get_or (set words (number_of a) n) (number_of b) 0 else 0) gone ∙ sym (ap (λ (t : Bool). if t then get_or words (number_of b) 0 else 0) gone)
    other b e true is =
        let ne : number_of b ≢ number_of a = λ z. true≢false (sym (ap (λ (w : Word). is_same w a) (apart b a is here z) ∙ self a) ∙ e) in
        said (set words (number_of a) n) b is ∙ (get_or-set_other words (number_of a) (number_of b) n 0 ne ∙ sym (said words b is))

    at : (b : Word) → (t : Bool) → is_same b a ≡ t → words_of (set words (number_of a) n) b ≡ updated (words_of words) a n b
    at b false e = other b e (is_there b) refl ∙ sym (updated_else (words_of words) a b n e)
    at b true e =
        let is : a ≡ b = sym (one_word b a e) in
        let room : number_of a < length words = subst (λ (k : ℕ). number_of a < k) (sym wide) (inside a here) in
        let here_now : words_of (set words (number_of a) n) a ≡ updated (words_of words) a n a = said (set words (number_of a) n) a here ∙ (get_or-set_same words (number_of a) n 0 room ∙ sym (updated_here (words_of words) a n)) in
        subst (λ (c : Word). words_of (set words (number_of a) n) c ≡ updated (words_of words) a n c) is here_now
