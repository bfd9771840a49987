-- A lock is given back.
use Rattle.std.proofs.Common.{◌≡◌, ◌≢◌, ℕ, ◌<◌, true, false, true≢false, List, [], ◌∷◌, length, map, set, refl, sym, ap, ◌∙◌, subst, ⊎_elim, arith}
use Rattle.std.specs.Prelude.{Some}
use mathlib.Core.Option.{some}
use lib.ListN.{get_elem?}
use Rattle.atomic_table.proofs.Lists.{at_map, set_here, set_else}
use Rattle.at_value.specs.declared.limits.Limits.{Limits}
use Rattle.at_model.specs.World.{World}
use Rattle.at_model.specs.History.{replay}
use Rattle.at_view.specs.declared.view.TypeLists.{TypeLists}
use Rattle.at_view.specs.declared.view.View.{View}
use Rattle.at_view.specs.Words.{Words, updated, place, global_sequence}
use Rattle.at_core.specs.declared.lock.Lock as lock
use Rattle.at_core.specs.declared.lock.Lock.TheVariants as locks
use Rattle.at_core.specs.declared.stored.Stored.{Stored}
use Rattle.at_core.specs.Heads.{Shape, shape_of, IsWhole, IsOpened}
use Rattle.at_core.specs.Locks.{lock_word, slot_of, hold_of, holds, copy_at, IsUnchanged}
use Rattle.at_core.specs.Reads.{past_read, fresh_read, kin_read, number_read, holder_read, kept_read, types_read, row_read, open_read, sequence_read, join_read, limit_read}
use Rattle.at_core.specs.Rule.{Homes, HistoryRule, RoomRule, KinRule, LockRule, NumberRule, SlotRule, KeptBy, KeptRule, TypesCopied, TypesRule, RowRule, JoinRule, LimitRule, Ghost, Parts, IsLock, Agrees, OpenRule, SequenceRule, HeadParts, heads_of, row_locks_of, keys_of, values_of, own_sequences_of, types_words, row_words, shape_under}
use Rattle.at_core.specs.Steps.{IsShut, MayGive, given, lists_given, copied_heads}
use Rattle.at_core.proofs.OpeningCounts.{no_fewer, openings_left}
use Rattle.at_core.proofs.Lists.{each_set, each_one}
use Rattle.at_core.proofs.Prefixes.{prefix_self, prefix_trans}
use Rattle.at_core.proofs.WordLemmas.{updated_here}
use Rattle.at_core.proofs.Written.{get_or-same}
use Rattle.at_core.proofs.LockLemmas.{lock_cases, slot_apart, other_word, same_place, same_heads, same_keys, same_values, same_global, same_sequences, same_types, same_row, hold_given, hold_kept}
use Rattle.at_core.proofs.HeadFrames.{odd_even, heads_locked, open_changed}
use Rattle.at_core.proofs.Parts.{left_alone, changed, lock_freed, seen_begins, spent_set, known_left, looks_left, sequence_left}

-- a value that agrees with a world agrees with each world in which the lock protected what it protects
pub agrees_later : (limits : Limits) (before now : World) (lists : TypeLists) (shape : Shape) (l : lock.Lock) (x : Stored) → IsUnchanged l before now → Agrees limits before lists shape l x → Agrees limits now lists shape l x
agrees_later limits before now lists shape locks.Types x same a = (
  a.0,
  a.1,
  record {
    stands = record { classes = a.2.stands.classes ∙ sym same.0; objects = a.2.stands.objects ∙ ap length (sym same.1) };
    size = a.2.size;
    numbers = a.2.numbers;
    pool = a.2.pool;
    limbo = a.2.limbo;
  },
)
agrees_later limits before now lists shape (locks.Row o) x same a = (
  a.0,
  a.1,
  record {
    full = λ h. a.2.full h ∙ sym (get_or-same now.dicts before.dicts o [] same.1);
    empty = a.2.empty;
  },
)

-- the lists count for the types alone
pub agrees_lists : (limits : Limits) (w : World) (lists back : TypeLists) (shape : Shape) (l : lock.Lock) (x : Stored) → lists_given l back lists ≡ lists → Agrees limits w back shape l x → Agrees limits w lists shape l x
agrees_lists limits w lists back shape locks.Types x same a = subst (λ (ls : TypeLists). Agrees limits w ls shape locks.Types x) same a
agrees_lists limits w lists back shape (locks.Row o) x same a = a

module _ (opened : World) (limits : Limits) (words : Words) (homes : Homes) (views : List View) (g : Ghost) (p : Parts opened limits words homes views g) (id : ℕ) (v : View) (at : get_elem? views id ≡ some v) (live : v.who.live ≡ true) where
  -- a copy of a head is the head
  pub head_copied : (l : lock.Lock) → holds l v ≡ true → shape_under (copied_heads v) l ≡ shape_under (heads_of words) l
  head_copied locks.Types held = refl
  head_copied (locks.Row o) held = ap (λ w. shape_of w.head) (p.rows o id (row_read o v) (at_map (row_read o) views id v at) held)

  -- the lists that go back are those that the rule knows
  pub lists_stay : (l : lock.Lock) (back : TypeLists) (x : Stored) → MayGive opened l v back x → lists_given l back g.lists ≡ g.lists
  lists_stay locks.Types back x may = may.returns ∙ (p.types id (types_read v) (at_map types_read views id v at) may.held).lists_are
  lists_stay (locks.Row o) back x may = refl

  module _ (l : lock.Lock) (back : TypeLists) (x : Stored) (may : MayGive opened l v back x) (room : slot_of l < length homes) where
    abbrev pub w : View
    w = given l v

    abbrev pub after : Words
    after = updated words (lock_word l) 0

    abbrev pub views_after : List View
    views_after = set views id w

    abbrev pub homes_after : Homes
    homes_after = set homes (slot_of l) (some (Some x))

    -- the lock isn't held
    freed : (hold_of l w).held ≡ false
    freed = ap (λ h. h.held) (hold_given l v)

    holder_same : (k : lock.Lock) → k ≢ l → holder_read k w ≡ holder_read k v
    holder_same k ne = λ i. record { number = v.who.number; held = (hold_kept k l v ne i).held }

    kept_same : (k : lock.Lock) → k ≢ l → kept_read k w ≡ kept_read k v
    kept_same k ne = λ i. record { hold = hold_kept k l v ne i; seen = v.history.seen; own = v.history.own }

    row_same : (o : ℕ) → locks.Row o ≢ l → row_read o w ≡ row_read o v
    row_same o ne = λ i. record { held = (hold_kept (locks.Row o) l v ne i).held; words = copy_at o v.rows }

    locks_after : (k : lock.Lock) → LockRule (after (lock_word k)) (map (holder_read k) views_after)
    locks_after k = ⊎_elim
        (λ (e : k ≡ l). subst (λ (j : lock.Lock). LockRule (after (lock_word j)) (map (holder_read j) views_after)) (sym e) here)
        (λ (ne : k ≢ l). subst (λ (n : ℕ). LockRule n (map (holder_read k) views_after)) (sym (other_word words k l 0 ne))
        (left_alone (holder_read k) (LockRule (words (lock_word k))) views id v w at (holder_same k ne) (p.locks k)))
        (lock_cases k l)
      where
        here : LockRule (after (lock_word l)) (map (holder_read l) views_after)
        here = subst (λ (n : ℕ). LockRule n (map (holder_read l) views_after)) (sym (updated_here words (lock_word l) 0))
            (changed (holder_read l) (LockRule 0) views id w
            (lock_freed (map (holder_read l) views) id (holder_read l v) (holder_read l w) (words (lock_word l)) (p.locks l) (at_map (holder_read l) views id v at) may.held freed))

    -- the value agrees with the history as it is
    agrees_now : Agrees limits (replay opened g.history) g.lists (shape_under (heads_of after) l) l x
    agrees_now =
        let kept = p.kept l id (kept_read l v) (at_map (kept_read l) views id v at) may.held in
        let since = (hold_of l v).since in
        let seen = seen_begins p id v at in
        let begun = prefix_trans since v.history.seen g.history kept.begun seen in
        let same : IsUnchanged l (replay opened since) (replay opened g.history) = kept.protects g.history begun (prefix_self g.history) in
        let limit : v.who.limits ≡ limits = p.limited id (limit_read v) (at_map limit_read views id v at) live in
        let shape : shape_under (copied_heads v) l ≡ shape_under (heads_of after) l = head_copied l may.held ∙ ap (λ heads. shape_under heads l) (sym (same_heads words l 0)) in
        let a = agrees_later v.who.limits (replay opened since) (replay opened g.history) back (shape_under (copied_heads v) l) l x same may.agrees in
        let b = agrees_lists v.who.limits (replay opened g.history) g.lists back (shape_under (copied_heads v) l) l x (lists_stay l back x may) a in
        let Q : Limits × Shape → Type 0 = λ y. Agrees y.0 (replay opened g.history) g.lists y.1 l x in
        subst Q (λ i. (limit i, shape i)) b

    slots_after : (k : lock.Lock) → IsLock k → SlotRule limits (replay opened g.history) g.lists (shape_under (heads_of after) k) k (after (lock_word k)) (get_elem? homes_after (slot_of k))
    slots_after k k_is = ⊎_elim
        (λ (e : k ≡ l). subst (λ (j : lock.Lock). SlotRule limits (replay opened g.history) g.lists (shape_under (heads_of after) j) j (after (lock_word j)) (get_elem? homes_after (slot_of j))) (sym e)
        (record {
          at_home = λ _. (x, set_here homes (slot_of l) (some (Some x)) room, agrees_now);
          out = λ busy. let z = updated_here words (lock_word l) 0 in absurd (lt_zero (after (lock_word l)) busy z);
        }))
        (λ (ne : k ≢ l).
        let word = other_word words k l 0 ne in
        let home = set_else homes (slot_of l) (slot_of k) (some (Some x)) (slot_apart k l ne) in
        let heads = same_heads words l 0 in
        let Q : (ℕ → ℕ) × ℕ × _ → Type 0 = λ y. SlotRule limits (replay opened g.history) g.lists (shape_under y.0 k) k y.1 y.2 in
        subst Q (λ i. (sym heads i, sym word i, sym home i)) (p.slots k k_is))
        (lock_cases k l)
      where
        lt_zero : (n : ℕ) → 0 < n → n ≡ 0 → ⊥
        lt_zero n lt e = absurd (omega arith)

    kept_after : (k : lock.Lock) → KeptRule opened k g.history (map (kept_read k) views_after)
    kept_after k = ⊎_elim
        (λ (e : k ≡ l). changed (kept_read k) (KeptRule opened k g.history) views id w
        (each_set (λ i u. u.hold.held ≡ true → KeptBy opened k g.history u) (map (kept_read k) views) id (kept_read k w) (p.kept k)
        (λ held. absurd (true≢false (sym held ∙ ap (λ (j : lock.Lock). (hold_of j w).held) e ∙ freed)))))
        (λ (ne : k ≢ l). left_alone (kept_read k) (KeptRule opened k g.history) views id v w at (kept_same k ne) (p.kept k))
        (lock_cases k l)

    types_after : (k : lock.Lock) → l ≡ k → TypesRule g.lists (types_words words) (map types_read views_after)
    types_after locks.Types e = changed types_read (TypesRule g.lists (types_words words)) views id w
        (each_set (λ i u. u.held ≡ true → TypesCopied g.lists (types_words words) u) (map types_read views) id (types_read w) p.types
        (λ held. absurd (true≢false (sym held ∙ ap (λ (j : lock.Lock). (given j v).types.hold.held) e))))
    types_after (locks.Row o) e = left_alone types_read (TypesRule g.lists (types_words words)) views id v w at (ap (λ (j : lock.Lock). types_read (given j v)) e) p.types

    rows_after : (o : ℕ) → RowRule (row_words words o) (map (row_read o) views_after)
    rows_after o = ⊎_elim
        (λ (e : locks.Row o ≡ l). changed (row_read o) (RowRule (row_words words o)) views id w
        (each_set (λ i u. u.held ≡ true → u.words ≡ row_words words o) (map (row_read o) views) id (row_read o w) (p.rows o)
        (λ held. absurd (true≢false (sym held ∙ ap (λ (j : lock.Lock). (hold_of j w).held) e ∙ freed)))))
        (λ (ne : locks.Row o ≢ l). left_alone (row_read o) (RowRule (row_words words o)) views id v w at (row_same o ne) (p.rows o))
        (lock_cases (locks.Row o) l)

    -- a row that the pass holds has a copy of its head
    copied : (o : ℕ) → holds (locks.Row o) v ≡ true → copied_heads v o ≡ heads_of words o
    copied o held = ap (λ r. r.head) (p.rows o id (row_read o v) (at_map (row_read o) views id v at) held)

    -- the lock of a row whose head is open stands
    still_owned : (o : ℕ) → IsOpened (heads_of words o) → 0 < row_locks_of after o
    still_owned o odd = ⊎_elim
        (λ (e : locks.Row o ≡ l).
        let whole : IsWhole (copied_heads v o) = subst (λ (k : lock.Lock). IsShut k v) (sym e) may.shut in
        let held : holds (locks.Row o) v ≡ true = subst (λ (k : lock.Lock). holds k v ≡ true) (sym e) may.held in
        absurd (odd_even (heads_of words o) odd (subst IsWhole (copied o held) whole)))
        (λ (ne : locks.Row o ≢ l). let same : after (lock_word (locks.Row o)) ≡ words (lock_word (locks.Row o)) = other_word words (locks.Row o) l 0 ne in let was = (p.headed.heads_are o).owned odd in omega arith)
        (lock_cases (locks.Row o) l)

    -- the pass has no open head without the types that it had not before
    open_after : (o : ℕ) → IsOpened (heads_of words o) → holds (locks.Row o) w ≡ true → holds locks.Types w ≡ false → OpenRule (replay opened g.history) o (heads_of words o) (open_read o w ∷ [])
    open_after o odd row types = ⊎_elim
        (λ (e : locks.Row o ≡ l). absurd (true≢false (sym row ∙ subst (λ (k : lock.Lock). holds k w ≡ false) (sym e) freed)))
        (λ (ne : locks.Row o ≢ l).
        let had : holds (locks.Row o) v ≡ true = ap (λ h. h.held) (sym (hold_kept (locks.Row o) l v ne)) ∙ row in
        ⊎_elim
        (λ (e : locks.Types ≡ l).
        let shut : IsShut locks.Types v = subst (λ (k : lock.Lock). IsShut k v) (sym e) may.shut in
        absurd (odd_even (heads_of words o) odd (subst IsWhole (copied o had) (shut o had))))
        (λ (no : locks.Types ≢ l).
        let same : open_read o w ≡ open_read o v = λ i. record { row = (hold_kept (locks.Row o) l v ne i).held; types = (hold_kept locks.Types l v no i).held } in
        subst (λ r. OpenRule (replay opened g.history) o (heads_of words o) (r ∷ [])) (sym same) (λ odd'. each_one _ (open_read o v) (p.headed.open_are o odd' id (open_read o v) (at_map (open_read o) views id v at))))
        (lock_cases locks.Types l))
        (lock_cases (locks.Row o) l)

    headed_after : HeadParts opened (heads_of after) (row_locks_of after) (keys_of after) (values_of after) g.history views_after
    headed_after =
        let Q : (ℕ → ℕ) × (ℕ → ℕ → ℕ) × (ℕ → ℕ → ℕ) → Type 0 = λ x. HeadParts opened x.0 (row_locks_of after) x.1 x.2 g.history views_after in
        subst Q (λ i. (sym (same_heads words l 0) i, sym (same_keys words l 0) i, sym (same_values words l 0) i))
        (record {
          heads_are = heads_locked opened (heads_of words) (row_locks_of words) (row_locks_of after) (keys_of words) (values_of words) g.history views p.headed still_owned;
          open_are = λ o. open_changed opened (heads_of words) g.history views id w o (p.headed.open_are o) (open_after o);
          rows_are = p.headed.rows_are;
          openings = λ o. openings_left o (heads_of words o) views id v w at (no_fewer o v w _ refl refl) (p.headed.openings o);
          keys = p.headed.keys;
          cells = p.headed.cells;
          known = known_left views id v w at (keys_of words) refl p.headed.known;
          looks = looks_left views id v w at opened (heads_of words) (keys_of words) g.history refl p.headed.looks;
        })

    pub give_keeps : Parts opened limits after homes_after views_after g
    give_keeps =
        let count : after place ≡ words place = same_place words l 0 in
        record {
          history = subst (λ (n : ℕ). HistoryRule opened n g.history (map past_read views_after)) (sym count) (left_alone past_read (HistoryRule opened (words place) g.history) views id v w at refl p.history);
          room = subst (λ (n : ℕ). RoomRule limits.place_max n (map fresh_read views_after)) (sym count) (left_alone fresh_read (RoomRule limits.place_max (words place)) views id v w at refl p.room);
          kin = left_alone kin_read (KinRule g.lists.next_birth) views id v w at refl p.kin;
          locks = locks_after;
          numbers = left_alone number_read (NumberRule g.lists.numbers) views id v w at refl p.numbers;
          slots = slots_after;
          headed = headed_after;
          sequence =
              let Q : ℕ × (ℕ → ℕ) → Type 0 = λ x. SequenceRule x.0 x.1 (map sequence_read views_after) in
              subst Q (λ i. (sym (same_global words l 0) i, sym (same_sequences words l 0) i)) (sequence_left views id v w at (words global_sequence) (own_sequences_of words) refl p.sequence);
          kept = kept_after;
          types = subst (λ x. TypesRule g.lists x (map types_read views_after)) (sym (same_types words l 0)) (types_after l refl);
          rows = λ o. subst (λ x. RowRule x (map (row_read o) views_after)) (sym (same_row words l 0 o)) (rows_after o);
          joins = left_alone join_read (JoinRule g.history) views id v w at refl p.joins;
          limited = left_alone limit_read (LimitRule limits) views id v w at refl p.limited;
          spent = spent_set views id w p.spent live;
        }
