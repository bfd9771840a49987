-- The place is loaded.
use Rattle.std.proofs.Common.{◌≡◌, ℕ, suc, ◌<◌, ◌≤◌, ◌||◌, Bool, true, false, List, [], ◌∷◌, length, map, set, refl, sym, ap, ◌∙◌, subst, arith, length-set}
use Rattle.std.specs.Prelude.{count_by, nat_lt}
use Rattle.std.proofs.lemmas.List.Sums.{sum_by-cons}
use mathlib.Core.Option.{some}
use lib.ListN.{get_elem?}
use Rattle.atomic_table.specs.Table.{keeps, stepped}
use Rattle.atomic_table.proofs.Lists.{at_map}
use Rattle.at_value.specs.declared.limits.Limits.{Limits}
use Rattle.at_model.specs.World.{World}
use Rattle.at_model.specs.History.{replay}
use Rattle.at_view.specs.declared.view.View.{View}
use Rattle.at_view.specs.Views.{blank}
use Rattle.at_view.specs.Words.{Words, number_of, place, global_sequence}
use Rattle.at_core.specs.declared.lock.Lock as lock
use Rattle.at_core.specs.declared.lock.Lock.TheVariants as locks
use Rattle.at_core.specs.Locks.{lock_word, hold_of}
use Rattle.at_core.specs.PlaceSteps.{place_loaded}
use Rattle.at_core.specs.Reads.{past_read, fresh_read, kin_read, NumberRead, number_read, holder_read, kept_read, types_read, row_read, join_read, limit_read, open_read}
use Rattle.at_core.specs.Rule.{Slot, Board, Homes, Each, weight, HistoryRule, RoomRule, KinRule, LockRule, NumberRule, KeptBy, KeptRule, TypesRule, RowRule, JoinRule, LimitRule, OpenRule, Ghost, Parts, Holds, words_of, heads_of, keys_of, own_sequences_of, types_words, row_words}
use Rattle.at_core.proofs.OpeningCounts.{no_fewer, openings_left}
use Rattle.at_core.proofs.Lists.{each_set, map_same}
use Rattle.at_core.proofs.Counts.{at_most_one}
use Rattle.at_core.proofs.Prefixes.{prefix_self, prefix_trans, prefix_length}
use Rattle.at_core.proofs.WordLemmas.{said, reloaded}
use Rattle.at_core.proofs.Parts.{left_alone, changed, history_seen, seen_begins, spent_set, known_left, looks_left, sequence_left, open_same}

-- No more passes are on their way to a place than are live.
few_fresh : (views : List View) → Each (λ i u. u.who.live ≡ false → u ≡ blank) views → count_by (λ b. b) (map fresh_read views) ≤ count_by (λ (u : NumberRead). u.live) (map number_read views)
few_fresh [] spent = omega arith
few_fresh (u ∷ us) spent =
    let rest = few_fresh us (λ i w e. spent (suc i) w e) in
    let a = sum_by-cons (λ (b : Bool). weight b) (fresh_read u) (map fresh_read us) in
    let b = sum_by-cons (λ (r : NumberRead). weight r.live) (number_read u) (map number_read us) in
    let here = by_live u.who.live refl in
    omega arith
  where
    by_live : (t : Bool) → u.who.live ≡ t → weight u.intent.fresh ≤ weight u.who.live
    by_live true e = let one = at_most_one u.intent.fresh in let l : weight u.who.live ≡ 1 = ap weight e in omega arith
    by_live false e = let none : weight u.intent.fresh ≡ 0 = ap (λ (x : View). weight x.intent.fresh) (spent 0 u refl e) in omega arith

or_false : (a b : Bool) → b ≡ false → (a || b) ≡ a
or_false true b e = refl
or_false false b e = e

module _ (opened : World) (limits : Limits) (words : Words) (homes : Homes) (views : List View) (g : Ghost) (p : Parts opened limits words homes views g) (id : ℕ) (v : View) (at : get_elem? views id ≡ some v) (live : v.who.live ≡ true) where
  abbrev w : View
  w = place_loaded v g.history

  hold_same : (l : lock.Lock) → hold_of l w ≡ hold_of l v
  hold_same locks.Types = refl
  hold_same (locks.Row o) = refl

  holder_same : (l : lock.Lock) → holder_read l w ≡ holder_read l v
  holder_same l = λ i. record { number = v.who.number; held = (hold_same l i).held }

  room_after : RoomRule limits.place_max (words place) (map fresh_read (set views id w))
  room_after = by_test (nat_lt (length g.history) v.who.limits.place_max) refl
    where
      limit : v.who.limits ≡ limits
      limit = p.limited id (limit_read v) (at_map limit_read views id v at) live

      by_test : (t : Bool) → nat_lt (length g.history) v.who.limits.place_max ≡ t → RoomRule limits.place_max (words place) (map fresh_read (set views id w))
      by_test true e =
          let same = ap (λ (x : Limits). x.place_max) limit in
          let lt : length g.history < v.who.limits.place_max = grind (arith, e) in
          let few = few_fresh (set views id w) (spent_set views id w p.spent live) in
          let lives : count_by (λ (u : NumberRead). u.live) (map number_read (set views id w)) ≡ count_by (λ (u : NumberRead). u.live) (map number_read views) = ap (count_by (λ (u : NumberRead). u.live)) (map_same number_read views id v w at refl) in
          let all = p.numbers.all in
          let counted = p.history.counted in
          omega (arith, same, lt, few, lives, all, counted)
      by_test false e = left_alone fresh_read (RoomRule limits.place_max (words place)) views id v w at (or_false v.intent.fresh (nat_lt (length g.history) v.who.limits.place_max) e) p.room

  kept_after : (l : lock.Lock) → KeptRule opened l g.history (map (kept_read l) (set views id w))
  kept_after l = changed (kept_read l) (KeptRule opened l g.history) views id w
      (each_set (λ i u. u.hold.held ≡ true → KeptBy opened l g.history u) (map (kept_read l) views) id (kept_read l w) (p.kept l)
      (λ held.
      let old = p.kept l id (kept_read l v) (at_map (kept_read l) views id v at) (ap (λ h. h.held) (sym (hold_same l)) ∙ held) in
      let Q : _ → Type 0 = λ h. KeptBy opened l g.history (record { hold = h; seen = g.history; own = v.history.own }) in
      subst Q (sym (hold_same l)) (record {
        begun = prefix_trans (hold_of l v).since v.history.seen g.history old.begun (seen_begins p id v at);
        came = old.came;
        protects = old.protects;
        excludes = old.excludes;
      })))

  pub place_keeps : Parts opened limits words homes (set views id w) g
  place_keeps = record {
    history = changed past_read (HistoryRule opened (words place) g.history) views id w
        (history_seen opened (words place) g.history (map past_read views) id (past_read v) (past_read w) p.history (at_map past_read views id v at) refl (prefix_self g.history)
        (prefix_length v.history.seen g.history (seen_begins p id v at)));
    room = room_after;
    kin = left_alone kin_read (KinRule g.lists.next_birth) views id v w at refl p.kin;
    locks = λ l. left_alone (holder_read l) (LockRule (words (lock_word l))) views id v w at (holder_same l) (p.locks l);
    numbers = left_alone number_read (NumberRule g.lists.numbers) views id v w at refl p.numbers;
    slots = p.slots;
    headed = record {
      heads_are = p.headed.heads_are;
      open_are = λ o. left_alone (open_read o) (OpenRule (replay opened g.history) o (heads_of words o)) views id v w at (open_same o v w (holder_same (locks.Row o)) (holder_same locks.Types)) (p.headed.open_are o);
      rows_are = p.headed.rows_are;
      openings = λ k. openings_left k (heads_of words k) views id v w at (no_fewer k v w _ refl refl) (p.headed.openings k);
      keys = p.headed.keys;
      cells = p.headed.cells;
      known = known_left views id v w at (keys_of words) refl p.headed.known;
      looks = looks_left views id v w at opened (heads_of words) (keys_of words) g.history refl p.headed.looks;
    };
    kept = kept_after;
    types = left_alone types_read (TypesRule g.lists (types_words words)) views id v w at refl p.types;
    rows = λ o. left_alone (row_read o) (RowRule (row_words words o)) views id v w at refl (p.rows o);
    joins = left_alone join_read (JoinRule g.history) views id v w at refl p.joins;
    sequence = sequence_left views id v w at (words global_sequence) (own_sequences_of words) refl p.sequence;
    limited = left_alone limit_read (LimitRule limits) views id v w at refl p.limited;
    spent = spent_set views id w p.spent live;
  }

-- The rule over the table, after the load
pub place_moves : (opened : World) (limits : Limits) (s : Board) (g : Ghost) (h : Holds opened limits s g) (id : ℕ) (v : View) (at : get_elem? s.views id ≡ some v) (live : v.who.live ≡ true) (hand : List (ℕ × Slot))
    → Holds opened limits (stepped s (number_of place) (words_of s.words place) id hand (place_loaded v g.history) keeps) g
place_moves opened limits s g h id v at live hand = record {
  words_are = length-set s.words (number_of place) (words_of s.words place) ∙ h.words_are;
  slots_are = h.slots_are;
  small = h.small;
  formed = h.formed;
  parts = subst (λ (ws : Words). Parts opened limits ws s.homes (set s.views id (place_loaded v g.history)) g)
      (sym (ap (λ (k : ℕ). words_of (set s.words (number_of place) k)) (said s.words place refl) ∙ reloaded s.words (number_of place)))
      (place_keeps opened limits (words_of s.words) s.homes s.views g h.parts id v at live);
}
