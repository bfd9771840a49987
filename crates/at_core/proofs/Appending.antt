-- A key is appended to a class by who holds the lock of the types.
use Rattle.std.proofs.Common.{◌≡◌, ◌≢◌, ◌⊎◌, inl, inr, ℕ, suc, ◌<◌, ◌≤◌, ◌==◌, ◌&&◌, Bool, true, IsTrue, List, [], map, set, get_or, ne_eqb, refl, sym, ap, ◌∙◌, subst, arith, length-set}
use Rattle.std.specs.Prelude.{slice_index}
use Rattle.std.proofs.lemmas.Bool.{cases_lt}
use Rattle.std.proofs.lemmas.Bool.Decides.{nat_tests}
use Rattle.std.proofs.lemmas.List.Elements.{All-weaker}
use mathlib.Core.Option.{some}
use mathlib.Core.Logic.{dite}
use native.Mathlib.Decide.{ℕ_discrete}
use lib.ListN.{get_elem?}
use Rattle.atomic_table.specs.Table.{keeps, stepped}
use Rattle.atomic_table.proofs.Lists.{at_map}
use Rattle.at_value.specs.Widths.{classes}
use Rattle.at_value.specs.declared.limits.Limits.{Limits}
use Rattle.at_model.specs.World.{World}
use Rattle.at_model.specs.History.{replay}
use Rattle.at_view.specs.declared.view.ClassKeys.{ClassKeys}
use Rattle.at_view.specs.declared.view.HeadLook.{HeadLook}
use Rattle.at_view.specs.declared.view.TypesWords.{TypesWords}
use Rattle.at_view.specs.declared.view.View.{View}
use Rattle.at_view.specs.Counts.{keys}
use Rattle.at_view.specs.Words.{Words, is_there, number_of, updated, place, key, global_sequence}
use Rattle.at_core.specs.declared.lock.Lock as lock
use Rattle.at_core.specs.declared.lock.Lock.TheVariants as locks
use Rattle.at_core.specs.Heads.{class_of}
use Rattle.at_core.specs.HeadSteps.{copied_keys_of, MayAppend, key_appended}
use Rattle.at_core.specs.Inline.{AreKeys, HaveGrown}
use Rattle.at_core.specs.Locks.{lock_word, slot_of, hold_of}
use Rattle.at_core.specs.Looks.{keys_at, born_with, KeyStays, UnusedSays, IsBacked}
use Rattle.at_core.specs.Reads.{past_read, fresh_read, kin_read, number_read, holder_read, kept_read, TypesRead, types_read, row_read, open_read, known_read, looks_read, join_read, limit_read}
use Rattle.at_core.specs.Rule.{Slot, Board, Homes, Each, HistoryRule, RoomRule, KinRule, LockRule, NumberRule, SlotRule, KeptRule, TypesRule, RowRule, JoinRule, LimitRule, OpenRule, HeadRule, KnownRule, LookRule, IsLock, Ghost, Parts, Holds, listed, copied_keys, words_of, heads_of, row_locks_of, keys_of, values_of, own_sequences_of, types_words, row_words, shape_under}
use Rattle.at_core.proofs.OpeningCounts.{no_fewer, openings_left}
use Rattle.at_core.proofs.Lists.{each_set, each_other, map_back, map_set}
use Rattle.at_core.proofs.WordLemmas.{updated_here, updated_else, stored}
use Rattle.at_core.proofs.HeadFrames.{listed_at, listed_set, listed_grown, grown_trans, grown_key, values_grow, known_more}
use Rattle.at_core.proofs.InlineStoring.{and_false}
use Rattle.at_core.proofs.Parts.{left_alone, changed, holder_is, spent_set, sequence_left, open_same}

module _ (opened : World) (limits : Limits) (words : Words) (homes : Homes) (views : List View) (g : Ghost) (p : Parts opened limits words homes views g) (id : ℕ) (v : View) (at : get_elem? views id ≡ some v) (live : v.who.live ≡ true)
    (c i n : ℕ) (may : MayAppend v c i n) where
  abbrev w : View
  w = key_appended v c i n

  abbrev after : Words
  after = updated words (key c i) (suc n)

  hold_same : (l : lock.Lock) → hold_of l w ≡ hold_of l v
  hold_same locks.Types = refl
  hold_same (locks.Row k) = refl

  holder_same : (l : lock.Lock) → holder_read l w ≡ holder_read l v
  holder_same l = λ t. record { number = v.who.number; held = (hold_same l t).held }

  kept_same : (l : lock.Lock) → kept_read l w ≡ kept_read l v
  kept_same l = λ t. record { hold = hold_same l t; seen = v.history.seen; own = v.history.own }

  lock_same : (l : lock.Lock) → words (lock_word l) ≡ after (lock_word l)
  lock_same locks.Types = refl
  lock_same (locks.Row k) = refl

  -- The keys of the class

  types_are : v.types.words ≡ types_words words
  types_are = (p.types id (types_read v) (at_map types_read views id v at) may.held).words_are

  copy_is : copied_keys_of v c ≡ copied_keys (keys_of words) c
  copy_is = ap (λ (t : TypesWords). get_or t.keys c []) types_are ∙ listed_at classes (copied_keys (keys_of words)) c [] may.class

  copy_at_index : (j : ℕ) → j < keys → slice_index (copied_keys_of v c) j ≡ keys_of words c j
  copy_at_index j lt = ap (λ (xs : List ℕ). get_or xs j 0) copy_is ∙ listed_at keys (keys_of words c) j 0 lt

  was_unused : keys_of words c i ≡ 0
  was_unused = sym (copy_at_index i may.index) ∙ may.unused

  were_used : (j : ℕ) → j < i → keys_of words c j ≢ 0
  were_used j lt z = let less = may.index in may.earlier j lt (copy_at_index j (omega (arith, less, lt)) ∙ z)

  was_absent : (j : ℕ) → keys_of words c j ≢ suc n
  was_absent j e = by_side (cases_lt j i)
    where
      by_side : (j < i) ⊎ (i ≤ j) → ⊥
      by_side (inl lt) = let less = may.index in may.absent j (copy_at_index j (omega (arith, less, lt)) ∙ e)
      by_side (inr le) = let z = (p.headed.keys c).first i j le was_unused in absurd (omega (arith, z, e))

  here : keys_of after c i ≡ suc n
  here = updated_here words (key c i) (suc n)

  beside : (j : ℕ) → j ≢ i → keys_of after c j ≡ keys_of words c j
  beside j ne = updated_else words (key c i) (key c j) (suc n) (ap (λ (b : Bool). b && (c == c)) (ne_eqb j i ne))

  else_same : (d : ℕ) → d ≢ c → keys_of after d ≡ keys_of words d
  else_same d ne = λ t j. updated_else words (key c i) (key d j) (suc n) (ap (λ (b : Bool). (j == i) && b) (ne_eqb d c ne) ∙ and_false (j == i)) t

  keys_new : AreKeys (keys_of after c)
  keys_new = record {
    small = λ j. dite (ℕ_discrete j i)
        (λ (e : j ≡ i). let lt = may.name in let is : keys_of after c j ≡ suc n = ap (keys_of after c) e ∙ here in omega (arith, lt, is))
        (λ (ne : j ≢ i). let le = (p.headed.keys c).small j in let is = beside j ne in omega (arith, le, is));
    past = λ j le.
        let less = may.index in
        let other : j ≢ i = λ e. omega (arith, le, less, e) in
        beside j other ∙ (p.headed.keys c).past j le;
    first = λ a b le z. dite (ℕ_discrete a i)
        (λ (e : a ≡ i). let is : keys_of after c a ≡ suc n = ap (keys_of after c) e ∙ here in absurd (omega (arith, is, z)))
        (λ (ne : a ≢ i).
        let was : keys_of words c a ≡ 0 = sym (beside a ne) ∙ z in
        past a b le ne was (cases_lt a i));
    distinct = λ a b m e e'. dite (ℕ_discrete a i)
        (λ (x : a ≡ i). dite (ℕ_discrete b i)
        (λ (y : b ≡ i). x ∙ sym y)
        (λ (ne : b ≢ i).
        let one : suc n ≡ suc m = sym here ∙ (ap (keys_of after c) (sym x) ∙ e) in
        absurd (was_absent b (sym (beside b ne) ∙ (e' ∙ sym one)))))
        (λ (ne : a ≢ i). dite (ℕ_discrete b i)
        (λ (y : b ≡ i).
        let one : suc n ≡ suc m = sym here ∙ (ap (keys_of after c) (sym y) ∙ e') in
        absurd (was_absent a (sym (beside a ne) ∙ (e ∙ sym one))))
        (λ (ne' : b ≢ i). (p.headed.keys c).distinct a b m (sym (beside a ne) ∙ e) (sym (beside b ne') ∙ e')));
  }
    where
      past : (a b : ℕ) → a ≤ b → a ≢ i → keys_of words c a ≡ 0 → (a < i) ⊎ (i ≤ a) → keys_of after c b ≡ 0
      past a b le ne was (inl lt) = absurd (were_used a lt was)
      past a b le ne was (inr ge) =
          let other : b ≢ i = λ e. ne (omega (arith, le, ge, e)) in
          beside b other ∙ (p.headed.keys c).first a b le was

  keys_after : (d : ℕ) → AreKeys (keys_of after d)
  keys_after d = dite (ℕ_discrete d c)
      (λ (e : d ≡ c). subst (λ (x : ℕ). AreKeys (keys_of after x)) (sym e) keys_new)
      (λ (ne : d ≢ c). subst AreKeys (sym (else_same d ne)) (p.headed.keys d))

  grown : (d : ℕ) → HaveGrown (keys_of words d) (keys_of after d)
  grown d j used = dite (ℕ_discrete d c)
      (λ (e : d ≡ c). dite (ℕ_discrete j i)
      (λ (e' : j ≡ i). absurd (used (ap (λ (x : ℕ × ℕ). keys_of words x.0 x.1) (λ t. (e t, e' t)) ∙ was_unused)))
      (λ (ne : j ≢ i). ap (λ (x : ℕ). keys_of after x j) e ∙ (beside j ne ∙ ap (λ (x : ℕ). keys_of words x j) (sym e))))
      (λ (ne : d ≢ c). ap (λ (f : ℕ → ℕ). f j) (else_same d ne))

  -- the copy that the pass has from now on
  copy_after : set (copied_keys_of v c) i (suc n) ≡ copied_keys (keys_of after) c
  copy_after = ap (λ (xs : List ℕ). set xs i (suc n)) copy_is ∙ listed_set keys (keys_of words c) (keys_of after c) i (suc n) may.index here beside

  words_after : w.types.words ≡ types_words after
  words_after =
      ap (λ (t : TypesWords). record t { keys = set t.keys c (set (copied_keys_of v c) i (suc n)) }) types_are
      ∙ ap (λ (xs : List (List ℕ)). record (types_words words) { keys = xs })
      (listed_set classes (copied_keys (keys_of words)) (copied_keys (keys_of after)) c (set (copied_keys_of v c) i (suc n)) may.class (sym copy_after)
      (λ d ne. ap (λ (f : ℕ → ℕ). listed keys f) (else_same d ne)))

  types_after : TypesRule g.lists (types_words after) (map types_read (set views id w))
  types_after = subst (Each _) (sym (map_set types_read views id w))
      (each_other _ (map types_read views) id (types_read w)
      (λ j u ne e on.
      let x = map_back types_read views j u e in
      absurd (ne (holder_is locks.Types (words (lock_word locks.Types)) views id v (p.locks locks.Types) at may.held j x.0 x.1 (ap (λ (r : TypesRead). r.held) x.2 ∙ on))))
      (λ on. record { lists_are = (p.types id (types_read v) (at_map types_read views id v at) may.held).lists_are; words_are = words_after }))

  -- What heads, knowledge and looks say goes on

  heads_after : (k : ℕ) → HeadRule (replay opened g.history) k (row_locks_of words k) (heads_of words k) (keys_of after) (values_of words k)
  heads_after k = record {
    is = (p.headed.heads_are k).is;
    says = λ whole.
        let s = (p.headed.heads_are k).says whole in
        record {
          object = s.object;
          blank = s.blank;
          row = s.row;
          values = λ inlined. values_grow _ (keys_of words (class_of (heads_of words k))) (keys_of after (class_of (heads_of words k))) (values_of words k) (keys_after (class_of (heads_of words k))) (grown (class_of (heads_of words k))) (s.values inlined);
        };
    owned = (p.headed.heads_are k).owned;
  }

  known_after : KnownRule (keys_of after) (map known_read (set views id w))
  known_after = changed known_read (KnownRule (keys_of after)) views id w
      (each_set (λ j known. (d : ℕ) → HaveGrown (slice_index (keys_at d known)) (keys_of after d)) (map known_read views) id w.known old
      (known_more (keys_of after) (record { class = c; keys = set (copied_keys_of v c) i (suc n) }) v.known
      (subst (λ (xs : List ℕ). HaveGrown (slice_index xs) (keys_of after c)) (sym copy_after) (listed_grown keys (keys_of after c)))
      (old id v.known (at_map known_read views id v at))))
    where
      old : (j : ℕ) (known : List ClassKeys) → get_elem? (map known_read views) j ≡ some known → (d : ℕ) → HaveGrown (slice_index (keys_at d known)) (keys_of after d)
      old j known e d = grown_trans (slice_index (keys_at d known)) (keys_of words d) (keys_of after d) (p.headed.known j known e d) (grown d)

  backed_after : (look : HeadLook) → IsBacked opened (heads_of words look.object) (keys_of words) g.history look → IsBacked opened (heads_of words look.object) (keys_of after) g.history look
  backed_after look b = record {
    begins = b.begins;
    risen = b.risen;
    used = All-weaker (KeyStays (keys_of words)) (KeyStays (keys_of after)) (λ cell stays found. let is = stays found in grown cell.class cell.index (λ z. found (sym is ∙ z)) ∙ is) look.keys b.used;
    object = b.object;
    born = b.born;
    cells = b.cells;
    unused = λ e inlined.
        let pairs = born_with opened look.at look.object in
        let d = class_of look.word in
        All-weaker (UnusedSays (keys_of words) d pairs) (UnusedSays (keys_of after) d pairs)
        (λ cell says mine zero m none. says mine zero m (λ j lt used. none j lt (grown_key (keys_of words d) (keys_of after d) j m (grown d) used))) look.keys (b.unused e inlined);
  }

  pub append_keeps : Parts opened limits after homes (set views id w) g
  append_keeps = record {
    history = left_alone past_read (HistoryRule opened (words place) g.history) views id v w at refl p.history;
    room = left_alone fresh_read (RoomRule limits.place_max (words place)) views id v w at refl p.room;
    kin = left_alone kin_read (KinRule g.lists.next_birth) views id v w at refl p.kin;
    locks = λ l. subst (λ (x : ℕ). LockRule x (map (holder_read l) (set views id w))) (lock_same l) (left_alone (holder_read l) (LockRule (words (lock_word l))) views id v w at (holder_same l) (p.locks l));
    numbers = left_alone number_read (NumberRule g.lists.numbers) views id v w at refl p.numbers;
    slots = slots_after;
    headed = record {
      heads_are = heads_after;
      open_are = λ k. left_alone (open_read k) (OpenRule (replay opened g.history) k (heads_of words k)) views id v w at (open_same k v w (holder_same (locks.Row k)) (holder_same locks.Types)) (p.headed.open_are k);
      rows_are = p.headed.rows_are;
      openings = λ k. openings_left k (heads_of words k) views id v w at (no_fewer k v w _ refl refl) (p.headed.openings k);
      keys = keys_after;
      cells = p.headed.cells;
      known = known_after;
      looks = left_alone looks_read (LookRule opened (heads_of words) (keys_of after) g.history) views id v w at refl
          (λ j looks e. All-weaker (λ look. IsBacked opened (heads_of words look.object) (keys_of words) g.history look) (λ look. IsBacked opened (heads_of words look.object) (keys_of after) g.history look) backed_after looks (p.headed.looks j looks e));
    };
    kept = λ l. left_alone (kept_read l) (KeptRule opened l g.history) views id v w at (kept_same l) (p.kept l);
    types = types_after;
    rows = λ k. left_alone (row_read k) (RowRule (row_words words k)) views id v w at refl (p.rows k);
    joins = left_alone join_read (JoinRule g.history) views id v w at refl p.joins;
    sequence = sequence_left views id v w at (words global_sequence) (own_sequences_of words) refl p.sequence;
    limited = left_alone limit_read (LimitRule limits) views id v w at refl p.limited;
    spent = spent_set views id w p.spent live;
  }
    where
      slots_after : (l : lock.Lock) → IsLock l → SlotRule limits (replay opened g.history) g.lists (shape_under (heads_of after) l) l (after (lock_word l)) (get_elem? homes (slot_of l))
      slots_after locks.Types is = p.slots locks.Types is
      slots_after (locks.Row k) is = p.slots (locks.Row k) is

-- The rule over the table, after the append
pub append_moves : (opened : World) (limits : Limits) (s : Board) (g : Ghost) (h : Holds opened limits s g) (id : ℕ) (v : View) (at : get_elem? s.views id ≡ some v) (live : v.who.live ≡ true) (hand : List (ℕ × Slot))
    (c i n : ℕ) → MayAppend v c i n → Holds opened limits (stepped s (number_of (key c i)) (suc n) id hand (key_appended v c i n) keeps) g
append_moves opened limits s g h id v at live hand c i n may =
    let small = may.class in
    let less = may.index in
    let there : IsTrue (is_there (key c i)) = grind (arith, nat_tests, small, less) in
    record {
      words_are = length-set s.words (number_of (key c i)) (suc n) ∙ h.words_are;
      slots_are = h.slots_are;
      small = h.small;
      formed = h.formed;
      parts = subst (λ (ws : Words). Parts opened limits ws s.homes (set s.views id (key_appended v c i n)) g) (sym (stored s.words h.words_are (key c i) (suc n) there))
          (append_keeps opened limits (words_of s.words) s.homes s.views g h.parts id v at live c i n may);
    }
