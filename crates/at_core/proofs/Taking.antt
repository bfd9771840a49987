-- A lock is taken, or found held.
use Rattle.std.proofs.Common.{◌≡◌, ◌≢◌, ℕ, suc, ◌<◌, true, false, true≢false, List, [], ◌∷◌, ◌++◌, length, map, set, refl, sym, ap, ◌∙◌, subst, ⊎_elim, arith, length-append}
use Rattle.std.specs.Prelude.{Some, slice_index}
use mathlib.Core.Option.{some, none}
use lib.ListN.{get_elem?}
use Rattle.atomic_table.proofs.Lists.{at_map, set_here, set_else}
use Rattle.at_value.specs.declared.limits.Limits.{Limits}
use Rattle.at_value.specs.declared.operation.Op as op
use Rattle.at_model.specs.World.{World}
use Rattle.at_model.specs.History.{replay}
use Rattle.at_view.specs.declared.mark.Mark.{Mark}
use Rattle.at_view.specs.declared.mark.StepKind.TheVariants as kinds
use Rattle.at_view.specs.declared.view.View.{View}
use Rattle.at_view.specs.Counts.{keys}
use Rattle.at_view.specs.Words.{Words, updated, place, head, global_sequence}
use Rattle.at_core.specs.declared.lock.Lock as lock
use Rattle.at_core.specs.declared.lock.Lock.TheVariants as locks
use Rattle.at_core.specs.Heads.{class_of, IsOpened}
use Rattle.at_core.specs.Inline.{HaveGrown}
use Rattle.at_core.specs.Looks.{keys_at}
use Rattle.at_core.specs.Locks.{lock_word, slot_of, hold_of, holds, copy_at, IsUnchanged, Protects, Excludes}
use Rattle.at_core.specs.Reads.{past_read, fresh_read, kin_read, number_read, holder_read, kept_read, types_read, row_read, open_read, known_read, sequence_read, join_read, limit_read}
use Rattle.at_core.specs.Rule.{Homes, HistoryRule, RoomRule, KinRule, LockRule, NumberRule, SlotRule, KeptBy, KeptRule, TypesCopied, TypesRule, RowRule, JoinRule, LimitRule, Ghost, Parts, IsLock, OpenRule, KnownRule, SequenceRule, HeadParts, heads_of, row_locks_of, keys_of, values_of, own_sequences_of, types_words, row_words, shape_under}
use Rattle.at_core.specs.Steps.{Moment, mark, keys_of_class, taken, missed}
use Rattle.at_core.proofs.OpeningCounts.{no_fewer, openings_left}
use Rattle.at_core.proofs.Lists.{each_set, each_one}
use Rattle.at_core.proofs.Prefixes.{prefix_self, prefix_trans, prefix_length, prefix_whole}
use Rattle.at_core.proofs.WordLemmas.{updated_here}
use Rattle.at_core.proofs.LockLemmas.{lock_cases, slot_apart, other_word, same_place, same_heads, same_keys, same_values, same_global, same_sequences, same_types, same_row, hold_marked, hold_taken, hold_beside, copy_taken, copy_beside}
use Rattle.at_core.proofs.HeadFrames.{listed_grown, known_more, heads_locked, open_changed}
use Rattle.at_core.proofs.Parts.{left_alone, changed, history_seen, lock_taken, seen_begins, spent_set, leaves_all, known_left, looks_left, sequence_left, alike_keeps}

-- Whoever has seen all of the history: nothing comes after it

pub protects_all : (opened : World) (l : lock.Lock) (history : List op.Op) → Protects opened l history history
protects_all opened l history = λ point from to.
    let same : history ≡ point = prefix_whole history point from (prefix_length point history to) in
    subst (λ (xs : List op.Op). IsUnchanged l (replay opened history) (replay opened xs)) same (unchanged l (replay opened history))
  where
    unchanged : (l : lock.Lock) (w : World) → IsUnchanged l w w
    unchanged locks.Types w = (refl, refl)
    unchanged (locks.Row o) w = (refl, refl)

pub excludes_all : (opened : World) (l : lock.Lock) (own : List ℕ) (history : List op.Op) → Excludes opened l (length history) own history
excludes_all opened locks.Types own history = tt
excludes_all opened (locks.Row o) own history = λ point operation to late mine.
    let n = prefix_length (point ++ operation ∷ []) history to in let m = length-append point (operation ∷ []) in absurd (omega arith)

module _ (opened : World) (limits : Limits) (words : Words) (homes : Homes) (views : List View) (g : Ghost) (p : Parts opened limits words homes views g) (id : ℕ) (v : View) (at : get_elem? views id ≡ some v) (live : v.who.live ≡ true) where
  abbrev pub miss : lock.Lock → ℕ → Mark
  miss l n = mark kinds.LockTake (lock_word l) (Some n) (Some n)

  -- a lock is found held
  pub miss_keeps : (l : lock.Lock) (n : ℕ) → Parts opened limits words homes (set views id (missed l v n)) g
  miss_keeps l n = alike_keeps opened limits words words homes views g id v (missed l v n) p at
      (record { past = refl; fresh = refl; kin = refl; number = refl; holder = λ k i. record { number = v.who.number; held = (hold_marked k v (miss l n) i).held }; kept = λ k i. record { hold = hold_marked k v (miss l n) i; seen = v.history.seen; own = v.history.own }; types = refl; row = λ o. refl; joins = refl; limited = refl; openings = λ o. no_fewer o v (missed l v n) (miss l n) refl refl })
      live (leaves_all words)
      (known_left views id v (missed l v n) at (keys_of words) refl p.headed.known)
      (looks_left views id v (missed l v n) at opened (heads_of words) (keys_of words) g.history refl p.headed.looks)
      (sequence_left views id v (missed l v n) at (words global_sequence) (own_sequences_of words) refl p.sequence)

  abbrev pub now : Moment
  now = record { history = g.history; lists = g.lists; words = words }

  -- a lock that is free is taken
  module _ (l : lock.Lock) (is_lock : IsLock l) (free : words (lock_word l) ≡ 0) (room : slot_of l < length homes) where
    abbrev pub w : View
    w = taken l v now

    abbrev pub after : Words
    after = updated words (lock_word l) (suc v.who.number)

    abbrev pub views_after : List View
    views_after = set views id w

    -- what is read of the other locks
    holder_same : (k : lock.Lock) → k ≢ l → holder_read k w ≡ holder_read k v
    holder_same k ne = λ i. record { number = v.who.number; held = (hold_beside k l v now ne i).held }

    locks_after : (k : lock.Lock) → LockRule (after (lock_word k)) (map (holder_read k) views_after)
    locks_after k = ⊎_elim
        (λ (e : k ≡ l). subst (λ (j : lock.Lock). LockRule (after (lock_word j)) (map (holder_read j) views_after)) (sym e) here)
        (λ (ne : k ≢ l). subst (λ (n : ℕ). LockRule n (map (holder_read k) views_after)) (sym (other_word words k l (suc v.who.number) ne))
        (left_alone (holder_read k) (LockRule (words (lock_word k))) views id v w at (holder_same k ne) (p.locks k)))
        (lock_cases k l)
      where
        here : LockRule (after (lock_word l)) (map (holder_read l) views_after)
        here = changed (holder_read l) (LockRule (after (lock_word l))) views id w
            (lock_taken (map (holder_read l) views) id (holder_read l v) (holder_read l w) (after (lock_word l)) (subst (λ (n : ℕ). LockRule n (map (holder_read l) views)) free (p.locks l))
            (at_map (holder_read l) views id v at) (updated_here words (lock_word l) (suc v.who.number)) (ap (λ h. h.held) (hold_taken l v now)))

    abbrev pub homes_after : Homes
    homes_after = set homes (slot_of l) none

    slots_after : (k : lock.Lock) → IsLock k → SlotRule limits (replay opened g.history) g.lists (shape_under (heads_of after) k) k (after (lock_word k)) (get_elem? homes_after (slot_of k))
    slots_after k k_is = ⊎_elim
        (λ (e : k ≡ l). subst (λ (j : lock.Lock). SlotRule limits (replay opened g.history) g.lists (shape_under (heads_of after) j) j (after (lock_word j)) (get_elem? homes_after (slot_of j))) (sym e)
        (record {
          at_home = λ z. let e : suc v.who.number ≡ 0 = sym (updated_here words (lock_word l) (suc v.who.number)) ∙ z in absurd (omega arith);
          out = λ _. set_here homes (slot_of l) none room;
        }))
        (λ (ne : k ≢ l).
        let word = other_word words k l (suc v.who.number) ne in
        let home = set_else homes (slot_of l) (slot_of k) none (slot_apart k l ne) in
        let heads = same_heads words l (suc v.who.number) in
        let Q : (ℕ → ℕ) × ℕ × _ → Type 0 = λ x. SlotRule limits (replay opened g.history) g.lists (shape_under x.0 k) k x.1 x.2 in
        subst Q (λ i. (sym heads i, sym word i, sym home i)) (p.slots k k_is))
        (lock_cases k l)

    kept_same : (k : lock.Lock) → k ≢ l → KeptRule opened k g.history (map (kept_read k) views_after)
    kept_same k ne = changed (kept_read k) (KeptRule opened k g.history) views id w
        (each_set (λ i u. u.hold.held ≡ true → KeptBy opened k g.history u) (map (kept_read k) views) id (kept_read k w) (p.kept k)
        (λ held.
        let same = hold_beside k l v now ne in
        let old = p.kept k id (kept_read k v) (at_map (kept_read k) views id v at) (ap (λ h. h.held) (sym same) ∙ held) in
        let seen = seen_begins p id v at in
        let Q : _ → Type 0 = λ h. KeptBy opened k g.history (record { hold = h; seen = g.history; own = v.history.own }) in
        subst Q (sym same) (record {
          begun = prefix_trans (hold_of k v).since v.history.seen g.history old.begun seen;
          came = old.came;
          protects = old.protects;
          excludes = old.excludes;
        })))

    kept_here : KeptRule opened l g.history (map (kept_read l) views_after)
    kept_here = changed (kept_read l) (KeptRule opened l g.history) views id w
        (each_set (λ i u. u.hold.held ≡ true → KeptBy opened l g.history u) (map (kept_read l) views) id (kept_read l w) (p.kept l)
        (λ _.
        let Q : _ → Type 0 = λ h. KeptBy opened l g.history (record { hold = h; seen = g.history; own = v.history.own }) in
        subst Q (sym (hold_taken l v now)) (record {
          begun = prefix_self g.history;
          came = omega arith;
          protects = protects_all opened l g.history;
          excludes = excludes_all opened l v.history.own g.history;
        })))

    kept_after : (k : lock.Lock) → KeptRule opened k g.history (map (kept_read k) views_after)
    kept_after k = ⊎_elim
        (λ (e : k ≡ l). subst (λ (j : lock.Lock). KeptRule opened j g.history (map (kept_read j) views_after)) (sym e) kept_here)
        (λ (ne : k ≢ l). kept_same k ne)
        (lock_cases k l)

    types_after : (k : lock.Lock) → l ≡ k → TypesRule g.lists (types_words after) (map types_read views_after)
    types_after locks.Types e = subst (λ x. TypesRule g.lists x (map types_read views_after)) (sym (same_types words l (suc v.who.number)))
        (changed types_read (TypesRule g.lists (types_words words)) views id w
        (each_set (λ i u. u.held ≡ true → TypesCopied g.lists (types_words words) u) (map types_read views) id (types_read w) p.types
        (λ _. subst (λ (j : lock.Lock). TypesCopied g.lists (types_words words) (types_read (taken j v now))) (sym e) (record { lists_are = refl; words_are = refl }))))
    types_after (locks.Row o) e = subst (λ x. TypesRule g.lists x (map types_read views_after)) (sym (same_types words l (suc v.who.number)))
        (left_alone types_read (TypesRule g.lists (types_words words)) views id v w at (ap (λ (j : lock.Lock). types_read (taken j v now)) e) p.types)

    row_same : (o : ℕ) → locks.Row o ≢ l → row_read o w ≡ row_read o v
    row_same o ne = λ i. record { held = (hold_beside (locks.Row o) l v now ne i).held; words = copy_beside o l v now ne i }

    rows_after : (o : ℕ) → RowRule (row_words after o) (map (row_read o) views_after)
    rows_after o = subst (λ x. RowRule x (map (row_read o) views_after)) (sym (same_row words l (suc v.who.number) o))
        (⊎_elim
        (λ (e : locks.Row o ≡ l). changed (row_read o) (RowRule (row_words words o)) views id w
        (each_set (λ i u. u.held ≡ true → u.words ≡ row_words words o) (map (row_read o) views) id (row_read o w) (p.rows o)
        (λ _. subst (λ (j : lock.Lock). copy_at o (taken j v now).rows ≡ row_words words o) e (copy_taken o v now))))
        (λ (ne : locks.Row o ≢ l). left_alone (row_read o) (RowRule (row_words words o)) views id v w at (row_same o ne) (p.rows o))
        (lock_cases (locks.Row o) l))

    -- the lock of a row whose head is open stands
    still_owned : (o : ℕ) → IsOpened (heads_of words o) → 0 < row_locks_of after o
    still_owned o odd = ⊎_elim
        (λ (e : locks.Row o ≡ l). let here : after (lock_word (locks.Row o)) ≡ suc v.who.number = subst (λ (k : lock.Lock). after (lock_word k) ≡ suc v.who.number) (sym e) (updated_here words (lock_word l) (suc v.who.number)) in omega arith)
        (λ (ne : locks.Row o ≢ l). let same : after (lock_word (locks.Row o)) ≡ words (lock_word (locks.Row o)) = other_word words (locks.Row o) l (suc v.who.number) ne in let was = (p.headed.heads_are o).owned odd in omega arith)
        (lock_cases (locks.Row o) l)

    -- the pass says of a head that was open before what it said
    open_after : (o : ℕ) → IsOpened (heads_of words o) → holds (locks.Row o) w ≡ true → holds locks.Types w ≡ false → OpenRule (replay opened g.history) o (heads_of words o) (open_read o w ∷ [])
    open_after o odd row types = ⊎_elim
        (λ (e : locks.Row o ≡ l). let was = (p.headed.heads_are o).owned odd in let z : words (lock_word (locks.Row o)) ≡ 0 = subst (λ (k : lock.Lock). words (lock_word k) ≡ 0) (sym e) free in absurd (omega arith))
        (λ (ne : locks.Row o ≢ l). ⊎_elim
        (λ (e : locks.Types ≡ l). absurd (true≢false (sym (subst (λ (k : lock.Lock). holds k w ≡ true) (sym e) (ap (λ h. h.held) (hold_taken l v now))) ∙ types)))
        (λ (no : locks.Types ≢ l).
        let same : open_read o w ≡ open_read o v = λ i. record { row = (hold_beside (locks.Row o) l v now ne i).held; types = (hold_beside locks.Types l v now no i).held } in
        subst (λ r. OpenRule (replay opened g.history) o (heads_of words o) (r ∷ [])) (sym same) (λ odd'. each_one _ (open_read o v) (p.headed.open_are o odd' id (open_read o v) (at_map (open_read o) views id v at))))
        (lock_cases locks.Types l))
        (lock_cases (locks.Row o) l)

    -- with a row the keys of the class are known
    known_after : (k : lock.Lock) → l ≡ k → (c : ℕ) → HaveGrown (slice_index (keys_at c w.known)) (keys_of words c)
    known_after locks.Types e = subst (λ (j : lock.Lock). (c : ℕ) → HaveGrown (slice_index (keys_at c (taken j v now).known)) (keys_of words c)) (sym e) (p.headed.known id v.known (at_map known_read views id v at))
    known_after (locks.Row o) e = subst (λ (j : lock.Lock). (c : ℕ) → HaveGrown (slice_index (keys_at c (taken j v now).known)) (keys_of words c)) (sym e)
        (known_more (keys_of words) (keys_of_class words (class_of (words (head o)))) v.known (listed_grown keys (keys_of words (class_of (words (head o))))) (p.headed.known id v.known (at_map known_read views id v at)))

    headed_after : HeadParts opened (heads_of after) (row_locks_of after) (keys_of after) (values_of after) g.history views_after
    headed_after =
        let Q : (ℕ → ℕ) × (ℕ → ℕ → ℕ) × (ℕ → ℕ → ℕ) → Type 0 = λ x. HeadParts opened x.0 (row_locks_of after) x.1 x.2 g.history views_after in
        subst Q (λ i. (sym (same_heads words l (suc v.who.number)) i, sym (same_keys words l (suc v.who.number)) i, sym (same_values words l (suc v.who.number)) i))
        (record {
          heads_are = heads_locked opened (heads_of words) (row_locks_of words) (row_locks_of after) (keys_of words) (values_of words) g.history views p.headed still_owned;
          open_are = λ o. open_changed opened (heads_of words) g.history views id w o (p.headed.open_are o) (open_after o);
          rows_are = p.headed.rows_are;
          openings = λ o. openings_left o (heads_of words o) views id v w at (no_fewer o v w _ refl refl) (p.headed.openings o);
          keys = p.headed.keys;
          cells = p.headed.cells;
          known = changed known_read (KnownRule (keys_of words)) views id w (each_set (λ i known. (c : ℕ) → HaveGrown (slice_index (keys_at c known)) (keys_of words c)) (map known_read views) id w.known p.headed.known (known_after l refl));
          looks = looks_left views id v w at opened (heads_of words) (keys_of words) g.history refl p.headed.looks;
        })

    pub take_keeps : Parts opened limits after homes_after views_after g
    take_keeps =
        let seen = seen_begins p id v at in
        let count : after place ≡ words place = same_place words l (suc v.who.number) in
        record {
          history = subst (λ (n : ℕ). HistoryRule opened n g.history (map past_read views_after)) (sym count)
              (changed past_read (HistoryRule opened (words place) g.history) views id w
              (history_seen opened (words place) g.history (map past_read views) id (past_read v) (past_read w) p.history (at_map past_read views id v at) refl (prefix_self g.history)
              (prefix_length v.history.seen g.history seen)));
          room = subst (λ (n : ℕ). RoomRule limits.place_max n (map fresh_read views_after)) (sym count) (left_alone fresh_read (RoomRule limits.place_max (words place)) views id v w at refl p.room);
          kin = left_alone kin_read (KinRule g.lists.next_birth) views id v w at refl p.kin;
          locks = locks_after;
          numbers = left_alone number_read (NumberRule g.lists.numbers) views id v w at refl p.numbers;
          slots = slots_after;
          headed = headed_after;
          sequence =
              let Q : ℕ × (ℕ → ℕ) → Type 0 = λ x. SequenceRule x.0 x.1 (map sequence_read views_after) in
              subst Q (λ i. (sym (same_global words l (suc v.who.number)) i, sym (same_sequences words l (suc v.who.number)) i)) (sequence_left views id v w at (words global_sequence) (own_sequences_of words) refl p.sequence);
          kept = kept_after;
          types = types_after l refl;
          rows = rows_after;
          joins = left_alone join_read (JoinRule g.history) views id v w at refl p.joins;
          limited = left_alone limit_read (LimitRule limits) views id v w at refl p.limited;
          spent = spent_set views id w p.spent live;
        }
