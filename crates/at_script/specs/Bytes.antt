-- The bytes of ASCII that scripts give a meaning.
use Rattle.std.specs.Prelude.{ℕ}

abbrev pub tab : ℕ
tab = 9

abbrev pub newline : ℕ
newline = 10

abbrev pub carriage_return : ℕ
carriage_return = 13

abbrev pub space : ℕ
space = 32

abbrev pub double_quote : ℕ
double_quote = 34

abbrev pub hash : ℕ
hash = 35

abbrev pub comma : ℕ
comma = 44

abbrev pub minus : ℕ
minus = 45

abbrev pub dot : ℕ
dot = 46

abbrev pub zero : ℕ
zero = 48

abbrev pub nine : ℕ
nine = 57

abbrev pub colon : ℕ
colon = 58

abbrev pub underscore : ℕ
underscore = 95

-- the last byte that prints
abbrev pub tilde : ℕ
tilde = 126
