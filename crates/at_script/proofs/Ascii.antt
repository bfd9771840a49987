-- Identifiers are ASCII.
use Rattle.std.proofs.Common.{◌≡◌, refl, ℕ, ◌<◌, List, [], ◌∷◌, arith, Bool, true, false, ◌&&◌}
use Rattle.std.specs.List.{list_all}
use Rattle.std.specs.Str.{IsAscii, IsUtf8}
use Rattle.std.proofs.lemmas.Str.{IsUtf8-from_ascii}
use Rattle.std.proofs.lemmas.Str.Ascii.{IsAscii-nil, IsAscii-cons}
use Rattle.std.proofs.lemmas.Bool.Decides.{nat_tests}
use Rattle.at_script.specs.Words.{begins_identifier, continues_identifier, is_identifier}

begins_ascii : (b : ℕ) → begins_identifier b ≡ true → b < 128
begins_ascii b h = grind (arith, nat_tests)

continues_ascii : (b : ℕ) → continues_identifier b ≡ true → b < 128
continues_ascii b h = grind (arith, nat_tests)

pub and-true : (a b : Bool) → (a && b) ≡ true → (a ≡ true) × (b ≡ true)
and-true true b h = (refl, h)
and-true false b h = cc

all_ascii : (bytes : List ℕ) → list_all continues_identifier bytes ≡ true → IsAscii bytes
all_ascii [] h = IsAscii-nil
all_ascii (b ∷ bytes) h =
    let k = and-true (continues_identifier b) (list_all continues_identifier bytes) h in
    IsAscii-cons b bytes (continues_ascii b k.0) (all_ascii bytes k.1)

pub IsUtf8-from_identifier : (word : List ℕ) → is_identifier word ≡ true → IsUtf8 word
IsUtf8-from_identifier [] h = cc
IsUtf8-from_identifier (b ∷ bytes) h =
    let k = and-true (begins_identifier b) (list_all continues_identifier bytes) h in
    IsUtf8-from_ascii (b ∷ bytes) (IsAscii-cons b bytes (begins_ascii b k.0) (all_ascii bytes k.1))
