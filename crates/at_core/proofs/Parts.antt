-- What a change of one view does to the parts of the rule.
use Rattle.std.proofs.Common.{◌≡◌, ℕ, suc, ◌<◌, ◌≤◌, true, false, true≢false, List, length, map, set, refl, sym, ap, ◌∙◌, subst, arith}
use mathlib.Core.Option.{some}
use mathlib.Core.List.{IsPrefix}
use lib.ListN.{get_elem?}
use Rattle.atomic_table.proofs.Lists.{at_map, set_here}
use Rattle.at_value.specs.declared.limits.Limits.{Limits}
use Rattle.at_value.specs.declared.operation.Op as op
use Rattle.at_model.specs.World.{World}
use Rattle.at_model.specs.History.{replay}
use Rattle.at_types.specs.Tags.{times}
use Rattle.at_view.specs.declared.view.View.{View}
use Rattle.at_view.specs.Views.{blank}
use Rattle.at_view.specs.declared.view.TypesWords.{TypesWords}
use Rattle.at_view.specs.declared.view.RowWords.{RowWords}
use Rattle.at_view.specs.Words.{Words, place, global_sequence}
use Rattle.at_core.specs.declared.lock.Lock as lock
use Rattle.at_core.specs.declared.lock.Lock.TheVariants as locks
use Rattle.at_core.specs.Reads.{PastRead, past_read, fresh_read, kin_read, number_read, HolderRead, holder_read, kept_read, types_read, row_read, open_read, known_read, looks_read, sequence_read, join_read, limit_read}
use Rattle.at_core.specs.Locks.{lock_word, slot_of}
use Rattle.at_core.specs.Rule.{Homes, Each, HistoryRule, RoomRule, KinRule, LockRule, NumberRule, KeptRule, TypesRule, RowRule, JoinRule, LimitRule, SlotRule, OpenRule, KnownRule, LookRule, SequenceRule, Ghost, HeadParts, Parts, heads_of, row_locks_of, keys_of, values_of, own_sequences_of, types_words, row_words, shape_under}
use Rattle.at_core.specs.Openings.{openings_of}
use Rattle.at_core.proofs.OpeningCounts.{openings_left}
use Rattle.at_core.proofs.Lists.{each_set, each_other, there, sum_set, map_set, map_same}

-- a part over what it reads of views, of which one changes: where the read is the same, and where it isn't
pub left_alone : {A : Type 0} (f : View → A) (P : List A → Type 0) (views : List View) (id : ℕ) (v w : View) → get_elem? views id ≡ some v → f w ≡ f v → P (map f views) → P (map f (set views id w))
left_alone f P views id v w at same p = subst P (sym (map_same f views id v w at same)) p

pub changed : {A : Type 0} (f : View → A) (P : List A → Type 0) (views : List View) (id : ℕ) (w : View) → P (set (map f views) id (f w)) → P (map f (set views id w))
changed f P views id w p = subst P (sym (map_set f views id w)) p

-- a pass has seen more of the history
pub history_seen : (opened : World) (count : ℕ) (history : List op.Op) (views : List PastRead) (id : ℕ) (v w : PastRead) → HistoryRule opened count history views → get_elem? views id ≡ some v
    → w.own ≡ v.own → IsPrefix w.seen history → length v.seen ≤ length w.seen → HistoryRule opened count history (set views id w)
history_seen opened count history views id v w h at own seen more = record {
  counted = h.counted;
  proper = h.proper;
  begun = each_set (λ i u. IsPrefix u.seen history) views id w h.begun seen;
  owned = λ p. let s = sum_set (λ (u : PastRead). times p u.own) views id v w at in let e : times p w.own ≡ times p v.own = ap (times p) own in let o = h.owned p in omega arith;
  reached = each_set (λ i u. (p : ℕ) → 0 < times p u.own → p ≤ length u.seen) views id w h.reached
      (λ p has. let r = h.reached id v at p (subst (λ (xs : List ℕ). 0 < times p xs) own has) in omega arith);
}

-- a lock that was free is held by one
pub lock_taken : (views : List HolderRead) (id : ℕ) (v w : HolderRead) (word : ℕ) → LockRule 0 views → get_elem? views id ≡ some v → word ≡ suc w.number → w.held ≡ true → LockRule word (set views id w)
lock_taken views id v w word rule at is held = record {
  named = each_other (λ i u. u.held ≡ true → word ≡ suc u.number) views id w (λ j u _ e h. absurd (nobody j u e h)) (λ _. is);
  one = λ i j u u' e e' h h'. mine i u e h ∙ sym (mine j u' e' h');
  holder = λ _. (id, w, set_here views id w (there views id v at), held);
}
  where
    nobody : (j : ℕ) (u : HolderRead) → get_elem? views j ≡ some u → u.held ≡ true → ⊥
    nobody j u e h = let z = rule.named j u e h in absurd (omega arith)

    mine : (i : ℕ) (u : HolderRead) → get_elem? (set views id w) i ≡ some u → u.held ≡ true → i ≡ id
    mine i u e h = each_other (λ j x. x.held ≡ true → j ≡ id) views id w (λ j x _ e' h'. absurd (nobody j x e' h')) (λ _. refl) i u e h

-- a lock that one holds is free
pub lock_freed : (views : List HolderRead) (id : ℕ) (v w : HolderRead) (word : ℕ) → LockRule word views → get_elem? views id ≡ some v → v.held ≡ true → w.held ≡ false → LockRule 0 (set views id w)
lock_freed views id v w word rule at was now = record {
  named = λ j u e h. absurd (nobody j u e h);
  one = λ i j u u' e e' h h'. absurd (nobody i u e h);
  holder = λ busy. absurd (omega arith);
}
  where
    nobody : (j : ℕ) (u : HolderRead) → get_elem? (set views id w) j ≡ some u → u.held ≡ true → ⊥
    nobody j u e h = each_other (λ i x. x.held ≡ true → ⊥) views id w (λ i x apart e' h'. apart (rule.one i id x v e' at h' was)) (λ on. true≢false (sym on ∙ now)) j u e h

-- the number of the view that holds the lock
pub holder_is : (l : lock.Lock) (word : ℕ) (views : List View) (id : ℕ) (v : View) → LockRule word (map (holder_read l) views) → get_elem? views id ≡ some v → (holder_read l v).held ≡ true
    → (j : ℕ) (u : View) → get_elem? views j ≡ some u → (holder_read l u).held ≡ true → j ≡ id
holder_is l word views id v rule at held j u e h = rule.one j id (holder_read l u) (holder_read l v) (at_map (holder_read l) views j u e) (at_map (holder_read l) views id v at) h held

-- What a view is known to have, by the rule

module _ {opened : World} {limits : Limits} {words : Words} {homes : Homes} {views : List View} {g : Ghost} (p : Parts opened limits words homes views g) (id : ℕ) (v : View) (at : get_elem? views id ≡ some v) where
  pub seen_begins : IsPrefix v.history.seen g.history
  seen_begins = p.history.begun id (past_read v) (at_map past_read views id v at)

  pub read_at : {A : Type 0} (f : View → A) → get_elem? (map f views) id ≡ some (f v)
  read_at f = at_map f views id v at

-- the reads of a view that a step leaves
pub record Alike (v w : View) : Type 0 where
  pub past : past_read w ≡ past_read v
  pub fresh : fresh_read w ≡ fresh_read v
  pub kin : kin_read w ≡ kin_read v
  pub number : number_read w ≡ number_read v
  pub holder : (l : lock.Lock) → holder_read l w ≡ holder_read l v
  pub kept : (l : lock.Lock) → kept_read l w ≡ kept_read l v
  pub types : types_read w ≡ types_read v
  pub row : (o : ℕ) → row_read o w ≡ row_read o v
  pub joins : join_read w ≡ join_read v
  pub limited : limit_read w ≡ limit_read v
  pub openings : (o : ℕ) → openings_of o v ≤ openings_of o w

-- the words that a step leaves
pub record Leaves (words after : Words) : Type 0 where
  pub count : words place ≡ after place
  pub locks : (l : lock.Lock) → words (lock_word l) ≡ after (lock_word l)
  pub heads : heads_of words ≡ heads_of after
  pub row_locks : row_locks_of words ≡ row_locks_of after
  pub keys : keys_of words ≡ keys_of after
  pub values : values_of words ≡ values_of after
  pub types : types_words words ≡ types_words after
  pub rows : (o : ℕ) → row_words words o ≡ row_words after o

pub leaves_all : (words : Words) → Leaves words words
leaves_all words = record { count = refl; locks = λ l. refl; heads = refl; row_locks = refl; keys = refl; values = refl; types = refl; rows = λ o. refl }

pub spent_set : (views : List View) (id : ℕ) (w : View) → Each (λ i u. u.who.live ≡ false → u ≡ blank) views → w.who.live ≡ true → Each (λ i u. u.who.live ≡ false → u ≡ blank) (set views id w)
spent_set views id w spent live = each_set (λ i u. u.who.live ≡ false → u ≡ blank) views id w spent (λ off. absurd (true≢false (sym live ∙ off)))

-- who has a row and the types
pub open_same : (o : ℕ) (v w : View) → holder_read (locks.Row o) w ≡ holder_read (locks.Row o) v → holder_read locks.Types w ≡ holder_read locks.Types v → open_read o w ≡ open_read o v
open_same o v w row types = λ i. record { row = (row i).held; types = (types i).held }

-- keys that are known, looks and sequences, where they are as they were
module _ (views : List View) (id : ℕ) (v w : View) (at : get_elem? views id ≡ some v) where
  pub known_left : (keys : ℕ → ℕ → ℕ) → w.known ≡ v.known → KnownRule keys (map known_read views) → KnownRule keys (map known_read (set views id w))
  known_left keys same p = left_alone known_read (KnownRule keys) views id v w at same p

  pub looks_left : (opened : World) (heads : ℕ → ℕ) (keys : ℕ → ℕ → ℕ) (history : List op.Op) → w.looks ≡ v.looks → LookRule opened heads keys history (map looks_read views) → LookRule opened heads keys history (map looks_read (set views id w))
  looks_left opened heads keys history same p = left_alone looks_read (LookRule opened heads keys history) views id v w at same p

  pub sequence_left : (global : ℕ) (own : ℕ → ℕ) → sequence_read w ≡ sequence_read v → SequenceRule global own (map sequence_read views) → SequenceRule global own (map sequence_read (set views id w))
  sequence_left global own same p = left_alone sequence_read (SequenceRule global own) views id v w at same p

-- A step that leaves these reads, words and all slots leaves the parts, where what it loaded is right.
pub alike_keeps : (opened : World) (limits : Limits) (words after : Words) (homes : Homes) (views : List View) (g : Ghost) (id : ℕ) (v w : View) → Parts opened limits words homes views g → get_elem? views id ≡ some v
    → Alike v w → w.who.live ≡ true → Leaves words after
    → KnownRule (keys_of words) (map known_read (set views id w))
    → LookRule opened (heads_of words) (keys_of words) g.history (map looks_read (set views id w))
    → SequenceRule (after global_sequence) (own_sequences_of after) (map sequence_read (set views id w))
    → Parts opened limits after homes (set views id w) g
alike_keeps opened limits words after homes views g id v w p at a live e known looks sequence =
    record {
      history = subst (λ (n : ℕ). HistoryRule opened n g.history (map past_read (set views id w))) e.count (left_alone past_read (HistoryRule opened (words place) g.history) views id v w at a.past p.history);
      room = subst (λ (n : ℕ). RoomRule limits.place_max n (map fresh_read (set views id w))) e.count (left_alone fresh_read (RoomRule limits.place_max (words place)) views id v w at a.fresh p.room);
      kin = left_alone kin_read (KinRule g.lists.next_birth) views id v w at a.kin p.kin;
      locks = λ l. subst (λ (n : ℕ). LockRule n (map (holder_read l) (set views id w))) (e.locks l) (left_alone (holder_read l) (LockRule (words (lock_word l))) views id v w at (a.holder l) (p.locks l));
      numbers = left_alone number_read (NumberRule g.lists.numbers) views id v w at a.number p.numbers;
      slots = λ l is.
          let Q : (ℕ → ℕ) × ℕ → Type 0 = λ x. SlotRule limits (replay opened g.history) g.lists (shape_under x.0 l) l x.1 (get_elem? homes (slot_of l)) in
          subst Q (λ i. (e.heads i, e.locks l i)) (p.slots l is);
      headed =
          let h = p.headed in
          let Q : (ℕ → ℕ) × (ℕ → ℕ) × (ℕ → ℕ → ℕ) × (ℕ → ℕ → ℕ) → Type 0 = λ x. HeadParts opened x.0 x.1 x.2 x.3 g.history (set views id w) in
          subst Q (λ i. (e.heads i, e.row_locks i, e.keys i, e.values i)) (record {
            heads_are = h.heads_are;
            open_are = λ o. left_alone (open_read o) (OpenRule (replay opened g.history) o (heads_of words o)) views id v w at (open_same o v w (a.holder (locks.Row o)) (a.holder locks.Types)) (h.open_are o);
            rows_are = h.rows_are;
            openings = λ o. openings_left o (heads_of words o) views id v w at (a.openings o) (h.openings o);
            keys = h.keys;
            cells = h.cells;
            known = known;
            looks = looks;
          });
      kept = λ l. left_alone (kept_read l) (KeptRule opened l g.history) views id v w at (a.kept l) (p.kept l);
      types = subst (λ (x : TypesWords). TypesRule g.lists x (map types_read (set views id w))) e.types (left_alone types_read (TypesRule g.lists (types_words words)) views id v w at a.types p.types);
      rows = λ o. subst (λ (x : RowWords). RowRule x (map (row_read o) (set views id w))) (e.rows o) (left_alone (row_read o) (RowRule (row_words words o)) views id v w at (a.row o) (p.rows o));
      joins = left_alone join_read (JoinRule g.history) views id v w at a.joins p.joins;
      sequence = sequence;
      limited = left_alone limit_read (LimitRule limits) views id v w at a.limited p.limited;
      spent = spent_set views id w p.spent live;
    }
