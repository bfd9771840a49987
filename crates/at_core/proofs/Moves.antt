-- The rule over the table, after each step.
use Rattle.std.proofs.Common.{◌≡◌, ◌≢◌, ℕ, suc, ◌<◌, true, List, [], ◌∷◌, ◌++◌, length, set, sym, ap, ◌∙◌, subst, arith, length-set}
use Rattle.std.specs.Prelude.{Some}
use mathlib.Core.Option.{some, none}
use lib.ListN.{get_elem?}
use Rattle.atomic_table.specs.Table.{keeps, takes, gives, stepped}
use Rattle.at_value.specs.Widths.{objects}
use Rattle.at_value.specs.declared.limits.Limits.{Limits}
use Rattle.at_model.specs.World.{World}
use Rattle.at_view.specs.declared.view.TypeLists.{TypeLists}
use Rattle.at_view.specs.declared.view.View.{View}
use Rattle.at_view.specs.Views.{blank}
use Rattle.at_view.specs.Words.{Words, number_of}
use Rattle.at_core.specs.declared.lock.Lock as lock
use Rattle.at_core.specs.declared.lock.Lock.TheVariants as locks
use Rattle.at_core.specs.declared.stored.Stored.{Stored}
use Rattle.at_core.specs.Locks.{lock_word, slot_of}
use Rattle.at_core.specs.Rule.{Slot, Board, Ghost, Parts, Holds, IsLock, words_of}
use Rattle.at_core.specs.Steps.{Moment, taken, missed, MayGive, given, lists_given, MaySplit, lists_parted, parted, child, MayJoin, lists_joined, merged}
use Rattle.at_core.specs.Runs.{with_views}
use Rattle.at_core.proofs.WordLemmas.{stored, said, reloaded}
use Rattle.at_core.proofs.Taking.{take_keeps, miss_keeps}
use Rattle.at_core.proofs.Giving.{give_keeps, lists_stay}
use Rattle.at_core.proofs.Splitting.{split_keeps}
use Rattle.at_core.proofs.Joining.{join_keeps}

-- the slot of a lock is one of the table's
pub lock_room : (l : lock.Lock) → IsLock l → slot_of l < suc objects
lock_room locks.Types is = omega arith
lock_room (locks.Row o) is = grind (arith, is)

module _ (opened : World) (limits : Limits) (s : Board) (g : Ghost) (h : Holds opened limits s g) (id : ℕ) (v : View) (at : get_elem? s.views id ≡ some v) (live : v.who.live ≡ true) (hand : List (ℕ × Slot)) where
  abbrev pub now : Moment
  now = record { history = g.history; lists = g.lists; words = words_of s.words }

  room : (l : lock.Lock) → IsLock l → slot_of l < length s.homes
  room l is = subst (λ (n : ℕ). slot_of l < n) (sym h.slots_are) (lock_room l is)

  pub take_moves : (l : lock.Lock) (x : Stored) → IsLock l → words_of s.words (lock_word l) ≡ 0 → Holds opened limits (stepped s (number_of (lock_word l)) (suc v.who.number) id hand (taken l v now) (takes (slot_of l) (Some x))) g
  take_moves l x is free = record {
    words_are = length-set s.words (number_of (lock_word l)) (suc v.who.number) ∙ h.words_are;
    slots_are = length-set s.homes (slot_of l) none ∙ h.slots_are;
    small = h.small;
    formed = h.formed;
    parts = subst (λ (ws : Words). Parts opened limits ws (set s.homes (slot_of l) none) (set s.views id (taken l v now)) g) (sym (stored s.words h.words_are (lock_word l) (suc v.who.number) is))
        (take_keeps opened limits (words_of s.words) s.homes s.views g h.parts id v at live l is free (room l is));
  }

  pub miss_moves : (l : lock.Lock) (n : ℕ) → IsLock l → n ≡ words_of s.words (lock_word l) → Holds opened limits (stepped s (number_of (lock_word l)) n id hand (missed l v n) keeps) g
  miss_moves l n is found = record {
    words_are = length-set s.words (number_of (lock_word l)) n ∙ h.words_are;
    slots_are = h.slots_are;
    small = h.small;
    formed = h.formed;
    parts = subst (λ (ws : Words). Parts opened limits ws s.homes (set s.views id (missed l v n)) g)
        (sym (ap (λ (k : ℕ). words_of (set s.words (number_of (lock_word l)) k)) (found ∙ said s.words (lock_word l) is) ∙ reloaded s.words (number_of (lock_word l))))
        (miss_keeps opened limits (words_of s.words) s.homes s.views g h.parts id v at live l n);
  }

  pub give_moves : (l : lock.Lock) (back : TypeLists) (x : Stored) (others : List (ℕ × Slot)) → IsLock l → MayGive opened l v back x
      → Holds opened limits (stepped s (number_of (lock_word l)) 0 id ((slot_of l, Some x) ∷ others) (given l v) gives) (record g { lists = lists_given l back g.lists })
  give_moves l back x others is may = record {
    words_are = length-set s.words (number_of (lock_word l)) 0 ∙ h.words_are;
    slots_are = length-set s.homes (slot_of l) (some (Some x)) ∙ h.slots_are;
    small = h.small;
    formed = h.formed;
    parts =
        let same : lists_given l back g.lists ≡ g.lists = lists_stay opened limits (words_of s.words) s.homes s.views g h.parts id v at live l back x may in
        let Q : Words × TypeLists → Type 0 = λ y. Parts opened limits y.0 (set s.homes (slot_of l) (some (Some x))) (set s.views id (given l v)) (record g { lists = y.1 }) in
        subst Q (λ i. (sym (stored s.words h.words_are (lock_word l) 0 is) i, sym same i))
        (give_keeps opened limits (words_of s.words) s.homes s.views g h.parts id v at live l back x may (room l is));
  }

  pub split_moves : (number : ℕ) → MaySplit v number → Holds opened limits (with_views s (set s.views id (parted v) ++ child v ∷ [])) (record g { lists = lists_parted g.lists })
  split_moves number may = record {
    words_are = h.words_are;
    slots_are = h.slots_are;
    small = h.small;
    formed = h.formed;
    parts = split_keeps opened limits (words_of s.words) s.homes s.views g h.parts id v at live number may;
  }

  pub join_moves : (other : ℕ) (w : View) → other ≢ id → get_elem? s.views other ≡ some w → w.who.live ≡ true → MayJoin v w
      → Holds opened limits (with_views s (set (set s.views id (merged v w)) other blank)) (record g { lists = lists_joined g.lists w.who.number })
  join_moves other w apart at' live' may = record {
    words_are = h.words_are;
    slots_are = h.slots_are;
    small = h.small;
    formed = h.formed;
    parts = join_keeps opened limits (words_of s.words) s.homes s.views g h.parts id v at live other w apart at' live' may;
  }
