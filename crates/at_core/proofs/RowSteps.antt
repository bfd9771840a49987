-- A step by which the holder of a row changes its words: what is left as it was, and what is to be shown of the rest.
use Rattle.std.proofs.Common.{◌≡◌, ◌≢◌, ℕ, ◌<◌, true, List, map, set, refl, sym, ap, ◌∙◌, subst, arith}
use mathlib.Core.Option.{some}
use mathlib.Core.Logic.{dite}
use native.Mathlib.Decide.{ℕ_discrete}
use lib.ListN.{get_elem?}
use Rattle.atomic_table.proofs.Lists.{at_map}
use Rattle.at_value.specs.declared.limits.Limits.{Limits}
use Rattle.at_model.specs.World.{World}
use Rattle.at_model.specs.History.{replay}
use Rattle.at_view.specs.declared.mark.Mark.{Mark}
use Rattle.at_view.specs.declared.view.RowCopy.{RowCopy}
use Rattle.at_view.specs.declared.view.RowWords.{RowWords}
use Rattle.at_view.specs.declared.view.View.{View}
use Rattle.at_view.specs.Words.{Words, place, global_sequence}
use Rattle.at_core.specs.declared.lock.Lock as lock
use Rattle.at_core.specs.declared.lock.Lock.TheVariants as locks
use Rattle.at_core.specs.HeadSteps.{with_row}
use Rattle.at_core.specs.Locks.{lock_word, slot_of, hold_of, holds}
use Rattle.at_core.specs.Reads.{past_read, fresh_read, kin_read, number_read, holder_read, kept_read, types_read, RowRead, row_read, open_read, sequence_read, join_read, limit_read}
use Rattle.at_core.specs.Rule.{Homes, Each, HistoryRule, RoomRule, KinRule, LockRule, NumberRule, SlotRule, KeptRule, TypesRule, RowRule, JoinRule, LimitRule, OpenRule, SequenceRule, IsLock, Ghost, HeadParts, Parts, heads_of, row_locks_of, keys_of, values_of, own_sequences_of, types_words, row_words, shape_under}
use Rattle.at_core.specs.Steps.{marked, copied_heads}
use Rattle.at_core.proofs.Lists.{each_other, map_back, map_set}
use Rattle.at_core.proofs.LockLemmas.{copy_here, copy_else}
use Rattle.at_core.proofs.Parts.{left_alone, holder_is, spent_set, sequence_left, open_same}

-- the words that such a step leaves
pub record LeavesRest (words after : Words) (o : ℕ) : Type 0 where
  pub count : words place ≡ after place
  pub locks : (l : lock.Lock) → words (lock_word l) ≡ after (lock_word l)
  pub types : types_words words ≡ types_words after
  pub global : words global_sequence ≡ after global_sequence
  pub own : own_sequences_of words ≡ own_sequences_of after
  pub rows : (k : ℕ) → k ≢ o → row_words words k ≡ row_words after k

module _ (opened : World) (limits : Limits) (words : Words) (homes : Homes) (views : List View) (g : Ghost) (p : Parts opened limits words homes views g) (id : ℕ) (v : View) (at : get_elem? views id ≡ some v) (live : v.who.live ≡ true)
    (o : ℕ) (held : holds (locks.Row o) v ≡ true) where
  -- the copy of the head of a row that is held is the head
  pub head_of_row : (k : ℕ) → holds (locks.Row k) v ≡ true → copied_heads v k ≡ heads_of words k
  head_of_row k on = ap (λ r. r.head) (p.rows k id (row_read k v) (at_map (row_read k) views id v at) on)

  -- the lock is taken, and nobody else has it
  pub lock_stands : 0 < row_locks_of words o
  lock_stands = let m = (p.locks (locks.Row o)).named id (holder_read (locks.Row o) v) (at_map (holder_read (locks.Row o)) views id v at) held in omega arith

  pub row_mine : (j : ℕ) (u : View) → get_elem? views j ≡ some u → holds (locks.Row o) u ≡ true → j ≡ id
  row_mine j u e on = holder_is (locks.Row o) (words (lock_word (locks.Row o))) views id v (p.locks (locks.Row o)) at held j u e on

  module _ (new : RowWords) (m : Mark) where
    abbrev w : View
    w = marked (with_row o new v) m

    hold_same : (l : lock.Lock) → hold_of l w ≡ hold_of l v
    hold_same locks.Types = refl
    hold_same (locks.Row k) = refl

    holder_same : (l : lock.Lock) → holder_read l w ≡ holder_read l v
    holder_same l = λ i. record { number = v.who.number; held = (hold_same l i).held }

    kept_same : (l : lock.Lock) → kept_read l w ≡ kept_read l v
    kept_same l = λ i. record { hold = hold_same l i; seen = v.history.seen; own = v.history.own }

    -- who has rows and the types is as it was
    pub open_left : (k word : ℕ) → OpenRule (replay opened g.history) k word (map (open_read k) views) → OpenRule (replay opened g.history) k word (map (open_read k) (set views id w))
    open_left k word = left_alone (open_read k) (OpenRule (replay opened g.history) k word) views id v w at (open_same k v w (holder_same (locks.Row k)) (holder_same locks.Types))

    abbrev entry : RowCopy
    entry = record { object = o; words = new }

    copies_after : (after : Words) → LeavesRest words after o → new ≡ row_words after o → (k : ℕ) → RowRule (row_words after k) (map (row_read k) (set views id w))
    copies_after after e new_is k = dite (ℕ_discrete k o)
        (λ (is : k ≡ o). subst (λ (x : ℕ). RowRule (row_words after x) (map (row_read x) (set views id w))) (sym is) here)
        (λ (ne : k ≢ o). subst (λ (x : RowWords). RowRule x (map (row_read k) (set views id w))) (e.rows k ne)
        (left_alone (row_read k) (RowRule (row_words words k)) views id v w at (λ i. record { held = (hold_same (locks.Row k) i).held; words = copy_else k entry v.rows ne i }) (p.rows k)))
      where
        here : RowRule (row_words after o) (map (row_read o) (set views id w))
        here = subst (Each _) (sym (map_set (row_read o) views id w))
            (each_other _ (map (row_read o) views) id (row_read o w)
            (λ j u ne e' on. let x = map_back (row_read o) views j u e' in absurd (ne (row_mine j x.0 x.1 (ap (λ (r : RowRead). r.held) x.2 ∙ on))))
            (λ on. copy_here o entry v.rows refl ∙ new_is))

    -- the parts, where the slots still agree and heads, keys and values say what they should
    pub row_keeps : (after : Words) → LeavesRest words after o → new ≡ row_words after o
        → ((l : lock.Lock) → IsLock l → SlotRule limits (replay opened g.history) g.lists (shape_under (heads_of after) l) l (after (lock_word l)) (get_elem? homes (slot_of l)))
        → HeadParts opened (heads_of after) (row_locks_of after) (keys_of after) (values_of after) g.history (set views id w)
        → Parts opened limits after homes (set views id w) g
    row_keeps after e new_is slots headed = record {
      history = subst (λ (n : ℕ). HistoryRule opened n g.history (map past_read (set views id w))) e.count (left_alone past_read (HistoryRule opened (words place) g.history) views id v w at refl p.history);
      room = subst (λ (n : ℕ). RoomRule limits.place_max n (map fresh_read (set views id w))) e.count (left_alone fresh_read (RoomRule limits.place_max (words place)) views id v w at refl p.room);
      kin = left_alone kin_read (KinRule g.lists.next_birth) views id v w at refl p.kin;
      locks = λ l. subst (λ (n : ℕ). LockRule n (map (holder_read l) (set views id w))) (e.locks l) (left_alone (holder_read l) (LockRule (words (lock_word l))) views id v w at (holder_same l) (p.locks l));
      numbers = left_alone number_read (NumberRule g.lists.numbers) views id v w at refl p.numbers;
      slots = slots;
      headed = headed;
      kept = λ l. left_alone (kept_read l) (KeptRule opened l g.history) views id v w at (kept_same l) (p.kept l);
      types = subst (λ x. TypesRule g.lists x (map types_read (set views id w))) e.types (left_alone types_read (TypesRule g.lists (types_words words)) views id v w at refl p.types);
      rows = copies_after after e new_is;
      joins = left_alone join_read (JoinRule g.history) views id v w at refl p.joins;
      sequence =
          let Q : ℕ × (ℕ → ℕ) → Type 0 = λ x. SequenceRule x.0 x.1 (map sequence_read (set views id w)) in
          subst Q (λ i. (e.global i, e.own i)) (sequence_left views id v w at (words global_sequence) (own_sequences_of words) refl p.sequence);
      limited = left_alone limit_read (LimitRule limits) views id v w at refl p.limited;
      spent = spent_set views id w p.spent live;
    }
