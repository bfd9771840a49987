-- The names of words, and their numbers.
use Rattle.std.proofs.Common.{◌≡◌, true, arith}
use Rattle.std.proofs.lemmas.Grind.{common_steps}
use Rattle.at_view.specs.Words.{Word, place, type_lock, global_sequence, own_sequence, intent, tag, key, entry_sequence, entry_field, row_lock, head, inline_value, is_same, AllAreApart, AllAreInside}

pub inside : AllAreInside
inside place h = omega arith
inside type_lock h = omega arith
inside global_sequence h = omega arith
inside (own_sequence p) h = grind (arith, h)
inside (intent p j) h = grind (arith, h)
inside (tag c) h = grind (arith, h)
inside (key c i) h = grind (arith, h)
inside (entry_sequence e) h = grind (arith, h)
inside (entry_field e i) h = grind (arith, h)
inside (row_lock o) h = grind (arith, h)
inside (head o) h = grind (arith, h)
inside (inline_value o i) h = grind (arith, h)

pub apart : AllAreApart
apart a b ha hb e = grind (arith, common_steps, ha, hb, e)

-- two names that are the same are one
pub one_word : (a b : Word) → is_same a b ≡ true → a ≡ b
one_word a b e = grind (arith, common_steps, e)

pub self : (a : Word) → is_same a a ≡ true
self a = grind (arith, common_steps)
