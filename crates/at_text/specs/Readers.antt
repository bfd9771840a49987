-- private: no public clause cites it. Readers: what stands at the front of a text, and what follows it.
use Rattle.std.specs.Prelude.{ℕ, zero, suc, ◌==◌, ◌+◌, nat_lt, Bool, false, List, [], ◌∷◌, length, Option, Some, None, if◌then◌else◌, bytes_eq, decimal}
use Rattle.std.specs.Option.{option_map}
use Rattle.std.specs.Str.Parse.{digits_value}
use Rattle.at_name.specs.Texts.{place_of}
use Rattle.at_script.specs.Literals.{◌>>=◌}
use Rattle.at_script.specs.Words.{continues_identifier}

abbrev pub Reader : Type 0 → Type 0
Reader A = List ℕ → Option (A × List ℕ)

-- nothing is read
unfoldable pub nothing : {A : Type 0} → A → Reader A
nothing a = λ text. Some (a, text)

-- what is read is made into something else
unfoldable pub made : {A B : Type 0} → (A → B) → Reader A → Reader B
made f r = λ text. option_map (λ found. (f found.0, found.1)) (r text)

-- what is read, where it passes a test
unfoldable pub passing : {A : Type 0} → (A → Bool) → Reader A → Reader A
passing test r = λ text. r text >>= (λ found. if test found.0 then Some found else None)

-- one after another
unfoldable pub both : {A B : Type 0} → Reader A → Reader B → Reader (A × B)
both r q = λ text. r text >>= (λ first. option_map (λ second. ((first.0, second.0), second.1)) (q first.1))

-- Words

-- what follows these bytes, where they stand at the front
abbrev pub past : List ℕ → List ℕ → Option (List ℕ)
past [] text = Some text
past (byte ∷ word) [] = None
past (byte ∷ word) (first ∷ text) = if byte == first then past word text else None

-- a word, and what is read after it
unfoldable pub after : {A : Type 0} → List ℕ → Reader A → Reader A
after word r = λ text. past word text >>= r

-- what is read, and a word after it
unfoldable pub before : {A : Type 0} → Reader A → List ℕ → Reader A
before r word = λ text. r text >>= (λ found. option_map (λ rest. (found.0, rest)) (past word found.1))

abbrev pub chosen : {A : Type 0} → Option (List ℕ) → Reader A → Option (A × List ℕ) → Option (A × List ℕ)
chosen None r other = other
chosen (Some text) r other = r text

-- a word, and what is read after it
abbrev pub Row : Type 0 → Type 0
Row A = List ℕ × Reader A

-- the first row whose word stands at the front
abbrev pub choice : {A : Type 0} → List (Row A) → Reader A
choice [] = λ text. None
choice (row ∷ rows) = λ text. chosen (past row.0 text) row.1 (choice rows text)

-- Names and numbers

-- the letters, digits and `_` at the front
abbrev pub run : List ℕ → List ℕ
run [] = []
run (byte ∷ text) = if continues_identifier byte then byte ∷ run text else []

-- what follows them
abbrev pub past_run : List ℕ → List ℕ
past_run [] = []
past_run (byte ∷ text) = if continues_identifier byte then past_run text else byte ∷ text

-- a letter, a digit or `_` stands at the front
abbrev pub begins_run : List ℕ → Bool
begins_run [] = false
begins_run (byte ∷ text) = continues_identifier byte

-- this byte stands at the front
abbrev pub begins_with : ℕ → List ℕ → Bool
begins_with byte [] = false
begins_with byte (first ∷ text) = first == byte

-- the number whose decimal text the word is
abbrev pub number_of : List ℕ → Option ℕ
number_of word = if bytes_eq word (decimal (digits_value 10 word)) then Some (digits_value 10 word) else None

-- the number, where it is below a bound
abbrev pub number_below : ℕ → List ℕ → Option ℕ
number_below bound word = number_of word >>= (λ n. if nat_lt n bound then Some n else None)

-- a number below a bound
unfoldable pub number_at : ℕ → Reader ℕ
number_at bound = λ text. option_map (λ n. (n, past_run text)) (number_below bound (run text))

-- a number from 1 on, below a bound
abbrev pub positive_at : ℕ → Reader ℕ
positive_at bound = passing (nat_lt 0) (number_at bound)

-- one of these texts, by its place
unfoldable pub name_at : List (List ℕ) → Reader ℕ
name_at texts = λ text. option_map (λ n. (n, past_run text)) (place_of (run text) texts)

-- Lists

-- so many
abbrev pub counted : {A : Type 0} → ℕ → Reader A → Reader (List A)
counted zero r = nothing []
counted (suc n) r = λ text. r text >>= (λ first. option_map (λ more. (first.0 ∷ more.0, more.1)) (counted n r first.1))

-- as many as the text has before the test of it fails, numbered from a number on, and at most n
abbrev pub up_to : {A : Type 0} → ℕ → (List ℕ → Bool) → (ℕ → Reader A) → ℕ → Reader (List A)
up_to zero more r number = nothing []
up_to (suc n) more r number = λ text.
    if more text
    then r number text >>= (λ first. option_map (λ rest. (first.0 ∷ rest.0, rest.1)) (up_to n more r (number + 1) first.1))
    else Some ([], text)

-- all that the text has before the test of it fails
unfoldable pub numbered : {A : Type 0} → (List ℕ → Bool) → (ℕ → Reader A) → Reader (List A)
numbered more r = λ text. up_to (length text) more r 0 text
