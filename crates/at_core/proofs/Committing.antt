-- A write takes the next place.
use Rattle.std.proofs.Common.{◌≡◌, ◌≢◌, ◌⊎◌, inl, inr, ℕ, suc, ◌+◌, ◌<◌, ◌≤◌, ◌==◌, ◌&&◌, Bool, true, false, true≢false, IsTrue, List, [], ◌∷◌, ◌++◌, length, map, set, refl, sym, ap, ◌∙◌, subst, ⊎_elim, arith, length-set, length-append}
use Rattle.std.specs.Prelude.{Contains, sum_by, nat_lt, slice_get, if◌then◌else◌}
use Rattle.std.proofs.lemmas.Bool.{cases_lt}
use Rattle.std.proofs.lemmas.Bool.Decides.{nat_tests}
use Rattle.std.proofs.lemmas.List.Elements.{All-weaker, Contains-append_left, Contains-push}
use mathlib.Core.Option.{some}
use mathlib.Core.List.{IsPrefix}
use mathlib.Core.Logic.{dite}
use native.Mathlib.Decide.{ℕ_discrete}
use lib.ListN.{get_elem?}
use Rattle.atomic_table.specs.Table.{keeps, stepped}
use Rattle.atomic_table.proofs.Lists.{at_map}
use Rattle.at_value.specs.declared.limits.Limits.{Limits}
use Rattle.at_value.specs.declared.operation.Op as op
use Rattle.at_model.specs.declared.rows.Object.{Object}
use Rattle.at_model.specs.World.{World, IsWellFormed}
use Rattle.at_model.specs.History.{replay}
use Rattle.at_model.specs.Step.{step, is_write}
use Rattle.at_line.specs.Kept.{rows_of}
use Rattle.at_types.specs.Tags.{times}
use Rattle.at_view.specs.declared.mark.StepKind as step_kind
use Rattle.at_view.specs.declared.view.Hold.{Hold}
use Rattle.at_view.specs.declared.view.HeadLook.{HeadLook}
use Rattle.at_view.specs.declared.view.RowHold.{RowHold}
use Rattle.at_view.specs.declared.view.View.{View}
use Rattle.at_view.specs.Words.{Words, number_of, updated, place, global_sequence}
use Rattle.at_core.specs.declared.lock.Lock as lock
use Rattle.at_core.specs.declared.lock.Lock.TheVariants as locks
use Rattle.at_core.specs.Heads.{class_of, IsWhole, IsOpened, IsInline}
use Rattle.at_core.specs.Inline.{AreValuesOf}
use Rattle.at_core.specs.Locks.{lock_word, slot_of, hold_at, hold_of, holds, IsUnchanged, Excludes}
use Rattle.at_core.specs.Looks.{born_with, IsBacked}
use Rattle.at_core.specs.PlaceSteps.{Covers, stamped, written}
use Rattle.at_core.specs.Reads.{PastRead, past_read, fresh_read, kin_read, number_read, holder_read, KeptRead, kept_read, types_read, row_read, OpenRead, open_read, looks_read, join_read, limit_read}
use Rattle.at_core.specs.Rule.{Slot, Board, Homes, Each, weight, HistoryRule, RoomRule, KinRule, LockRule, NumberRule, SlotRule, KeptBy, KeptRule, TypesRule, RowRule, JoinRule, LimitRule, OpenRule, HeadRule, LookRule, IsLock, Ghost, Parts, Holds, words_of, heads_of, row_locks_of, keys_of, values_of, own_sequences_of, types_words, row_words, shape_under}
use Rattle.at_core.specs.Steps.{copied_heads}
use Rattle.at_core.specs.Writes.{needs_types, moved_by}
use Rattle.at_core.proofs.OpeningCounts.{no_fewer, openings_left}
use Rattle.at_core.proofs.Lists.{each_set, each_other, sum_set, map_back, map_set}
use Rattle.at_core.proofs.Counts.{times_cons, times_append, weight_same, weight_other}
use Rattle.at_core.proofs.Prefixes.{prefix_self, prefix_trans, prefix_length, prefix_shorter, prefix_whole}
use Rattle.at_core.proofs.Taking.{protects_all}
use Rattle.at_core.proofs.Giving.{agrees_later}
use Rattle.at_core.proofs.WordLemmas.{stored}
use Rattle.at_core.proofs.HeadFrames.{odd_even}
use Rattle.at_core.proofs.Written.{get_or-same, leaves_types, leaves_objects, leaves_rows, replay_paired, replay_snoc, proper_snoc}
use Rattle.at_core.proofs.Parts.{left_alone, changed, holder_is, seen_begins, spent_set, known_left, sequence_left}

-- A prefix of a history with one write more

pub longer_prefix : (history : List op.Op) (operation : op.Op) (point : List op.Op) → IsPrefix point (history ++ operation ∷ []) → IsPrefix point history ⊎ (point ≡ history ++ operation ∷ [])
longer_prefix history operation point from = by_length (cases_lt (length history) (length point))
  where
    whole : List op.Op
    whole = history ++ operation ∷ []

    by_length : (length history < length point) ⊎ (length point ≤ length history) → IsPrefix point history ⊎ (point ≡ history ++ operation ∷ [])
    by_length (inl long) = inr (prefix_whole point (history ++ operation ∷ []) from (let n = length-append history (operation ∷ []) in omega arith))
    by_length (inr short) = inl (prefix_shorter point history (history ++ operation ∷ []) from (operation ∷ [], refl) short)

-- the last of such a history, and those before it
last_one : (point history : List op.Op) (other operation : op.Op) → point ++ other ∷ [] ≡ history ++ operation ∷ [] → (point ≡ history) × (other ≡ operation)
last_one [] [] other operation e = (refl, cc (e))
last_one [] (x ∷ history) other operation e = let n = ap length e in let m = length-append history (operation ∷ []) in absurd (omega arith)
last_one (x ∷ point) [] other operation e = let n = ap length e in let m = length-append point (other ∷ []) in absurd (omega arith)
last_one (x ∷ point) (y ∷ history) other operation e =
    let first : x ≡ y = cc (e) in
    let rest : point ++ other ∷ [] ≡ history ++ operation ∷ [] = cc (e) in
    let r = last_one point history other operation rest in
    ((λ i. first i ∷ r.0 i), r.1)

unchanged_trans : (l : lock.Lock) (a b c : World) → IsUnchanged l a b → IsUnchanged l b c → IsUnchanged l a c
unchanged_trans locks.Types a b c x y = (y.0 ∙ x.0, y.1 ∙ x.1)
unchanged_trans (locks.Row o) a b c x y = (y.0 ∙ x.0, y.1 ∙ x.1)

-- What is known of a lock after a write

abbrev pub restamped : List op.Op → Hold → Hold
restamped history hold = record hold { since = history }

pub held_stamped : (history : List op.Op) (o : ℕ) (rows : List RowHold) → (hold_at o (map (stamped history) rows)).held ≡ (hold_at o rows).held
held_stamped history o [] = refl
held_stamped history o (row ∷ rows) = by_test (o == row.object) refl (held_stamped history o rows)
  where
    by_test : (t : Bool) → (o == row.object) ≡ t → (hold_at o (map (stamped history) rows)).held ≡ (hold_at o rows).held → (hold_at o (map (stamped history) (row ∷ rows))).held ≡ (hold_at o (row ∷ rows)).held
    by_test true e later = ap (λ (t : Bool). (if t then restamped history row.hold else hold_at o (map (stamped history) rows)).held) e ∙ sym (ap (λ (t : Bool). (if t then row.hold else hold_at o rows).held) e)
    by_test false e later = ap (λ (t : Bool). (if t then restamped history row.hold else hold_at o (map (stamped history) rows)).held) e ∙ (later ∙ sym (ap (λ (t : Bool). (if t then row.hold else hold_at o rows).held) e))

pub hold_stamped : (history : List op.Op) (o : ℕ) (rows : List RowHold) → (hold_at o rows).held ≡ true → hold_at o (map (stamped history) rows) ≡ restamped history (hold_at o rows)
hold_stamped history o [] held = absurd (true≢false (sym held))
hold_stamped history o (row ∷ rows) held = by_test (o == row.object) refl (λ h. hold_stamped history o rows h)
  where
    by_test : (t : Bool) → (o == row.object) ≡ t → ((hold_at o rows).held ≡ true → hold_at o (map (stamped history) rows) ≡ restamped history (hold_at o rows))
        → hold_at o (map (stamped history) (row ∷ rows)) ≡ restamped history (hold_at o (row ∷ rows))
    by_test true e later = ap (λ (t : Bool). if t then restamped history row.hold else hold_at o (map (stamped history) rows)) e ∙ sym (ap (λ (t : Bool). restamped history (if t then row.hold else hold_at o rows)) e)
    by_test false e later =
        let h : (hold_at o rows).held ≡ true = sym (ap (λ (t : Bool). (if t then row.hold else hold_at o rows).held) e) ∙ held in
        ap (λ (t : Bool). if t then restamped history row.hold else hold_at o (map (stamped history) rows)) e ∙ (later h ∙ sym (ap (λ (t : Bool). restamped history (if t then row.hold else hold_at o rows)) e))

pub held_written : (l : lock.Lock) (kind : step_kind.StepKind) (v : View) (at : List op.Op) (operation : op.Op) → holds l (written kind v at operation) ≡ holds l v
held_written locks.Types kind v at operation = refl
held_written (locks.Row o) kind v at operation = held_stamped (at ++ operation ∷ []) o v.holds

module _ (opened : World) (limits : Limits) (words : Words) (homes : Homes) (views : List View) (g : Ghost) (p : Parts opened limits words homes views g) (formed : IsWellFormed opened) (id : ℕ) (v : View) (at : get_elem? views id ≡ some v) (live : v.who.live ≡ true)
    (kind : step_kind.StepKind) (operation : op.Op) (fresh : v.intent.fresh ≡ true) (write : IsTrue (is_write (replay opened g.history) operation)) (covers : Covers (replay opened g.history) v operation)
    (types : needs_types operation ≡ true → holds locks.Types v ≡ true) where
  abbrev pub w : View
  w = written kind v g.history operation

  abbrev pub more : List op.Op
  more = g.history ++ operation ∷ []

  abbrev pub after : Words
  after = updated words place (suc (words place))

  abbrev pub ghost_after : Ghost
  ghost_after = record g { history = more }

  counted : words place ≡ length g.history
  counted = p.history.counted

  one_more : length more ≡ suc (length g.history)
  one_more = let n = length-append g.history (operation ∷ []) in omega arith

  longer : IsPrefix g.history more
  longer = (operation ∷ [], refl)

  -- What the write leaves

  world_is : replay opened more ≡ (step (replay opened g.history) operation).world
  world_is = replay_snoc opened g.history operation

  paired : length (replay opened g.history).dicts ≡ length (replay opened g.history).objects
  paired = replay_paired opened g.history formed.paired

  types_stay : needs_types operation ≡ false → IsUnchanged locks.Types (replay opened g.history) (replay opened more)
  types_stay none = subst (IsUnchanged locks.Types (replay opened g.history)) (sym world_is) (leaves_types (replay opened g.history) operation none)

  object_stays : (o : ℕ) → ¬ Contains (moved_by (replay opened g.history) operation) o → slice_get (replay opened more).objects o ≡ slice_get (replay opened g.history).objects o
  object_stays o none = ap (λ (x : World). slice_get x.objects o) world_is ∙ leaves_objects (replay opened g.history) operation o none

  row_stays : (o : ℕ) → ¬ Contains (rows_of (replay opened g.history) operation) o → ¬ Contains (moved_by (replay opened g.history) operation) o
      → IsUnchanged (locks.Row o) (replay opened g.history) (replay opened more)
  row_stays o none still = subst (IsUnchanged (locks.Row o) (replay opened g.history)) (sym world_is) (leaves_rows (replay opened g.history) operation o paired none still)

  -- a lock that the pass doesn't hold protects the same
  lock_stays : (l : lock.Lock) → holds l v ≡ false → IsUnchanged l (replay opened g.history) (replay opened more)
  lock_stays locks.Types off = by_need (needs_types operation) refl
    where
      by_need : (t : Bool) → needs_types operation ≡ t → IsUnchanged locks.Types (replay opened g.history) (replay opened more)
      by_need true e = absurd (true≢false (sym (types e) ∙ off))
      by_need false e = types_stay e
  lock_stays (locks.Row o) off = row_stays o (λ c. true≢false (sym (covers.rows o c).0 ∙ off)) (λ c. true≢false (sym (covers.moved o c).0 ∙ off))

  copied : (o : ℕ) → holds (locks.Row o) v ≡ true → copied_heads v o ≡ heads_of words o
  copied o on = ap (λ r. r.head) (p.rows o id (row_read o v) (at_map (row_read o) views id v at) on)

  -- an object whose head is whole isn't moved, and one whose head is whole and inline is none of the rows
  not_moved : (o : ℕ) → IsWhole (heads_of words o) → ¬ Contains (moved_by (replay opened g.history) operation) o
  not_moved o whole c = let m = covers.moved o c in odd_even (heads_of words o) (subst IsOpened (copied o m.0) m.1) whole

  not_row : (o : ℕ) → IsInline (heads_of words o) → ¬ Contains (rows_of (replay opened g.history) operation) o
  not_row o inlined c = let m = covers.rows o c in m.1 (subst IsInline (sym (copied o m.0)) inlined)

  -- Locks

  held_same : (l : lock.Lock) → holds l w ≡ holds l v
  held_same l = held_written l kind v g.history operation

  holder_same : (l : lock.Lock) → holder_read l w ≡ holder_read l v
  holder_same l = λ i. record { number = v.who.number; held = held_same l i }

  hold_now : (l : lock.Lock) → holds l v ≡ true → hold_of l w ≡ restamped more (hold_of l v)
  hold_now locks.Types held = refl
  hold_now (locks.Row o) held = hold_stamped more o v.holds held

  open_now : (o : ℕ) → open_read o w ≡ open_read o v
  open_now o = λ i. record { row = held_same (locks.Row o) i; types = v.types.hold.held }

  lock_same : (l : lock.Lock) → words (lock_word l) ≡ after (lock_word l)
  lock_same locks.Types = refl
  lock_same (locks.Row o) = refl

  -- whoever holds a lock, another pass doesn't
  others_off : (l : lock.Lock) (j : ℕ) (u : View) → j ≢ id → get_elem? views j ≡ some u → holds l u ≡ true → holds l v ≡ false
  others_off l j u ne e on = by_test (holds l v) refl
    where
      by_test : (t : Bool) → holds l v ≡ t → holds l v ≡ false
      by_test true mine = absurd (ne (holder_is l (words (lock_word l)) views id v (p.locks l) at mine j u e on))
      by_test false off = off

  -- The history

  times_one : (q : ℕ) → times q (suc (length g.history) ∷ []) ≡ weight (suc (length g.history) == q)
  times_one q = let a = times_cons q (suc (length g.history)) [] in omega arith

  history_after : HistoryRule opened (after place) more (map past_read (set views id w))
  history_after = let h = p.history in record {
    counted = let n = one_more in let c = counted in omega arith;
    proper = proper_snoc opened g.history operation h.proper write;
    begun = changed past_read (Each (λ i u. IsPrefix u.seen more)) views id w
        (each_set (λ i u. IsPrefix u.seen more) (map past_read views) id (past_read w) (λ j u e. prefix_trans u.seen g.history more (h.begun j u e) longer) (prefix_self more));
    owned = λ q.
        let e = ap (sum_by (λ (u : PastRead). times q u.own)) (map_set past_read views id w) in
        let s = sum_set (λ (u : PastRead). times q u.own) (map past_read views) id (past_read v) (past_read w) (at_map past_read views id v at) in
        let a = times_append q v.history.own (suc (length g.history) ∷ []) in
        let b = times_one q in
        let o = h.owned q in
        let n = one_more in
        let t = next_place q in
        omega arith;
    reached = changed past_read (Each (λ i u. (q : ℕ) → 0 < times q u.own → q ≤ length u.seen)) views id w
        (each_set (λ i u. (q : ℕ) → 0 < times q u.own → q ≤ length u.seen) (map past_read views) id (past_read w) h.reached
        (λ q has. dite (ℕ_discrete (suc (length g.history)) q)
        (λ (is : suc (length g.history) ≡ q). let n = one_more in omega arith)
        (λ (ne : suc (length g.history) ≢ q).
        let a = times_append q v.history.own (suc (length g.history) ∷ []) in
        let b = times_one q in
        let z = weight_other (suc (length g.history)) q ne in
        let r = h.reached id (past_read v) (at_map past_read views id v at) q (omega arith) in
        let s = prefix_length v.history.seen g.history (seen_begins p id v at) in
        let n = one_more in
        omega arith)));
  }
    where
      next_place : (q : ℕ) → weight (nat_lt 0 q && nat_lt q (suc (length more))) ≡ weight (nat_lt 0 q && nat_lt q (suc (length g.history))) + weight (suc (length g.history) == q)
      next_place q = dite (ℕ_discrete (suc (length g.history)) q)
          (λ (is : suc (length g.history) ≡ q).
          let n = one_more in
          let one = ap (λ (k : ℕ). weight (suc (length g.history) == k)) (sym is) ∙ weight_same (suc (length g.history)) in
          let a : nat_lt 0 q ≡ true = grind (arith, nat_tests, is) in
          let b : nat_lt q (suc (length more)) ≡ true = grind (arith, nat_tests, is, n) in
          let c : nat_lt q (suc (length g.history)) ≡ false = grind (arith, nat_tests, is) in
          let x : weight (nat_lt 0 q && nat_lt q (suc (length more))) ≡ 1 = ap (λ (t : Bool × Bool). weight (t.0 && t.1)) (λ i. (a i, b i)) in
          let y : weight (nat_lt 0 q && nat_lt q (suc (length g.history))) ≡ 0 = ap (λ (t : Bool × Bool). weight (t.0 && t.1)) (λ i. (a i, c i)) in
          omega arith)
          (λ (ne : suc (length g.history) ≢ q).
          let z = weight_other (suc (length g.history)) q ne in
          let same : nat_lt q (suc (length more)) ≡ nat_lt q (suc (length g.history)) = below q ne (cases_lt q (suc (length g.history))) in
          let x = ap (λ (t : Bool). weight (nat_lt 0 q && t)) same in
          omega arith)
        where
          below : (q : ℕ) → suc (length g.history) ≢ q → (q < suc (length g.history)) ⊎ (suc (length g.history) ≤ q) → nat_lt q (suc (length more)) ≡ nat_lt q (suc (length g.history))
          below q ne (inl lt) =
              let n = one_more in
              let a : nat_lt q (suc (length more)) ≡ true = grind (arith, nat_tests, lt, n) in
              let b : nat_lt q (suc (length g.history)) ≡ true = grind (arith, nat_tests, lt) in
              a ∙ sym b
          below q ne (inr le) =
              let n = one_more in
              let far : suc (suc (length g.history)) ≤ q = dite (ℕ_discrete q (suc (length g.history))) (λ (e : q ≡ suc (length g.history)). absurd (ne (sym e))) (λ (other : q ≢ suc (length g.history)). omega arith) in
              let a : nat_lt q (suc (length more)) ≡ false = grind (arith, nat_tests, far, n) in
              let b : nat_lt q (suc (length g.history)) ≡ false = grind (arith, nat_tests, le) in
              a ∙ sym b

  room_after : RoomRule limits.place_max (after place) (map fresh_read (set views id w))
  room_after =
      let e = ap (sum_by (λ (b : Bool). weight b)) (map_set fresh_read views id w) in
      let s = sum_set (λ (b : Bool). weight b) (map fresh_read views) id (fresh_read v) (fresh_read w) (at_map fresh_read views id v at) in
      let one : weight v.intent.fresh ≡ 1 = ap weight fresh in
      let r = p.room in
      omega arith

  -- Slots

  slots_after : (l : lock.Lock) → IsLock l → SlotRule limits (replay opened more) g.lists (shape_under (heads_of words) l) l (words (lock_word l)) (get_elem? homes (slot_of l))
  slots_after l is = record {
    at_home = λ free.
        let x = (p.slots l is).at_home free in
        let off : holds l v ≡ false = by_test (holds l v) refl free in
        (x.0, x.1, agrees_later limits (replay opened g.history) (replay opened more) g.lists (shape_under (heads_of words) l) l x.0 (lock_stays l off) x.2);
    out = (p.slots l is).out;
  }
    where
      by_test : (t : Bool) → holds l v ≡ t → words (lock_word l) ≡ 0 → holds l v ≡ false
      by_test true on free = let n = (p.locks l).named id (holder_read l v) (at_map (holder_read l) views id v at) on in absurd (omega arith)
      by_test false off free = off

  -- Heads and looks

  heads_after : (o : ℕ) → HeadRule (replay opened more) o (row_locks_of words o) (heads_of words o) (keys_of words) (values_of words o)
  heads_after o = record {
    is = (p.headed.heads_are o).is;
    says = λ whole.
        let s = (p.headed.heads_are o).says whole in
        let same = object_stays o (not_moved o whole) in
        record {
          object = record { absent = λ e. ((s.object.absent e).0, same ∙ (s.object.absent e).1); present = λ e. same ∙ s.object.present e };
          blank = s.blank;
          row = s.row;
          values = λ e.
              let stays = row_stays o (not_row o (whole, e)) (not_moved o whole) in
              subst (λ pairs. AreValuesOf pairs (keys_of words (class_of (heads_of words o))) (values_of words o)) (sym (get_or-same (replay opened more).dicts (replay opened g.history).dicts o [] stays.1)) (s.values e);
        };
    owned = (p.headed.heads_are o).owned;
  }

  open_after : (o : ℕ) → OpenRule (replay opened more) o (heads_of words o) (map (open_read o) (set views id w))
  open_after o odd = subst (Each _) (sym (map_set (open_read o) views id w))
      (each_other _ (map (open_read o) views) id (open_read o w)
      (λ j u ne e row types_off found has.
      let x = map_back (open_read o) views j u e in
      let off = others_off (locks.Row o) j x.0 ne x.1 (ap (λ (r : OpenRead). r.row) x.2 ∙ row) in
      let same = object_stays o (λ c. true≢false (sym (covers.moved o c).0 ∙ off)) in
      p.headed.open_are o odd j u e row types_off found (sym same ∙ has))
      (λ row types_off found has.
      let none : needs_types operation ≡ false = by_need (needs_types operation) refl types_off in
      let same : slice_get (replay opened more).objects o ≡ slice_get (replay opened g.history).objects o = ap (λ (os : List Object). slice_get os o) (types_stay none).1 in
      p.headed.open_are o odd id (open_read o v) (at_map (open_read o) views id v at) (ap (λ (r : OpenRead). r.row) (sym (open_now o)) ∙ row) (ap (λ (r : OpenRead). r.types) (sym (open_now o)) ∙ types_off) found (sym same ∙ has)))
    where
      by_need : (t : Bool) → needs_types operation ≡ t → v.types.hold.held ≡ false → needs_types operation ≡ false
      by_need true e off = absurd (true≢false (sym (types e) ∙ off))
      by_need false e off = e

  backed_after : (look : HeadLook) → IsBacked opened (heads_of words look.object) (keys_of words) g.history look → IsBacked opened (heads_of words look.object) (keys_of words) more look
  backed_after look b = record {
    begins = prefix_trans look.at g.history more b.begins longer;
    risen = b.risen;
    used = b.used;
    object = λ same whole point from to. ⊎_elim
        (λ (old : IsPrefix point g.history). b.object same whole point from old)
        (λ (new : point ≡ more).
        ap (λ (xs : List op.Op). slice_get (replay opened xs).objects look.object) new
        ∙ (object_stays look.object (not_moved look.object (subst IsWhole (sym same) whole)) ∙ b.object same whole g.history b.begins (prefix_self g.history)))
        (longer_prefix g.history operation point to);
    born = λ same inlined point from to. ⊎_elim
        (λ (old : IsPrefix point g.history). b.born same inlined point from old)
        (λ (new : point ≡ more).
        let here = subst IsInline (sym same) inlined in
        ap (λ (xs : List op.Op). born_with opened xs look.object) new
        ∙ (get_or-same (replay opened more).dicts (replay opened g.history).dicts look.object [] (row_stays look.object (not_row look.object here) (not_moved look.object here.0)).1
        ∙ b.born same inlined g.history b.begins (prefix_self g.history)))
        (longer_prefix g.history operation point to);
    cells = b.cells;
    unused = b.unused;
  }

  -- What locks keep

  excludes_more : (l : lock.Lock) (entered : ℕ) (own : List ℕ) → holds l v ≡ false → Excludes opened l entered own g.history → Excludes opened l entered own more
  excludes_more locks.Types entered own off old = tt
  excludes_more (locks.Row o) entered own off old = λ point other to late mine c. ⊎_elim
      (λ (was : IsPrefix (point ++ other ∷ []) g.history). old point other was late mine c)
      (λ (new : point ++ other ∷ [] ≡ more).
      let same = last_one point g.history other operation new in
      let in_rows : Contains (rows_of (replay opened g.history) operation) o = subst (λ (x : List op.Op × op.Op). Contains (rows_of (replay opened x.0) x.1) o) (λ i. (same.0 i, same.1 i)) c in
      true≢false (sym (covers.rows o in_rows).0 ∙ off))
      (longer_prefix g.history operation (point ++ other ∷ []) to)

  kept_others : (l : lock.Lock) (j : ℕ) (u : KeptRead) → j ≢ id → get_elem? (map (kept_read l) views) j ≡ some u → u.hold.held ≡ true → KeptBy opened l more u
  kept_others l j u ne e on =
      let x = map_back (kept_read l) views j u e in
      let off = others_off l j x.0 ne x.1 (ap (λ (r : KeptRead). r.hold.held) x.2 ∙ on) in
      let old = p.kept l j u e on in
      record {
        begun = old.begun;
        came = old.came;
        protects = λ point from to. ⊎_elim
            (λ (was : IsPrefix point g.history). old.protects point from was)
            (λ (new : point ≡ more).
            let begun : IsPrefix u.hold.since g.history = prefix_trans u.hold.since u.seen g.history old.begun (subst (λ (r : KeptRead). IsPrefix r.seen g.history) x.2 (p.history.begun j (past_read x.0) (at_map past_read views j x.0 x.1))) in
            subst (λ (xs : List op.Op). IsUnchanged l (replay opened u.hold.since) (replay opened xs)) (sym new)
            (unchanged_trans l (replay opened u.hold.since) (replay opened g.history) (replay opened more) (old.protects g.history begun (prefix_self g.history)) (lock_stays l off)))
            (longer_prefix g.history operation point to);
        excludes = excludes_more l u.hold.entered u.own off old.excludes;
      }

  kept_after : (l : lock.Lock) → KeptRule opened l more (map (kept_read l) (set views id w))
  kept_after l = subst (Each _) (sym (map_set (kept_read l) views id w))
      (each_other _ (map (kept_read l) views) id (kept_read l w) (kept_others l) mine)
    where
      mine : (kept_read l w).hold.held ≡ true → KeptBy opened l more (kept_read l w)
      mine on =
          let had : holds l v ≡ true = sym (held_same l) ∙ on in
          let old = p.kept l id (kept_read l v) (at_map (kept_read l) views id v at) had in
          let begun : IsPrefix (hold_of l v).since g.history = prefix_trans (hold_of l v).since v.history.seen g.history old.begun (seen_begins p id v at) in
          let Q : Hold → Type 0 = λ h. KeptBy opened l more (record { hold = h; seen = more; own = v.history.own ++ suc (length g.history) ∷ [] }) in
          subst Q (sym (hold_now l had)) (record {
            begun = prefix_self more;
            came = let c = old.came in let n = prefix_length (hold_of l v).since g.history begun in let o = one_more in omega arith;
            protects = protects_all opened l more;
            excludes = excludes_own l old.excludes;
          })
        where
          excludes_own : (k : lock.Lock) → Excludes opened k (hold_of l v).entered v.history.own g.history → Excludes opened k (hold_of l v).entered (v.history.own ++ suc (length g.history) ∷ []) more
          excludes_own locks.Types old = tt
          excludes_own (locks.Row o) old = λ point other to late mine c. ⊎_elim
              (λ (was : IsPrefix (point ++ other ∷ []) g.history). old point other was late (λ has. mine (Contains-append_left v.history.own (suc (length g.history) ∷ []) (suc (length point)) has)) c)
              (λ (new : point ++ other ∷ [] ≡ more).
              let same = last_one point g.history other operation new in
              mine (subst (λ (xs : List op.Op). Contains (v.history.own ++ suc (length g.history) ∷ []) (suc (length xs))) (sym same.0) (Contains-push v.history.own (suc (length g.history)))))
              (longer_prefix g.history operation (point ++ other ∷ []) to)

  pub commit_keeps : Parts opened limits after homes (set views id w) ghost_after
  commit_keeps = record {
    history = history_after;
    room = room_after;
    kin = left_alone kin_read (KinRule g.lists.next_birth) views id v w at refl p.kin;
    locks = λ l. subst (λ (x : ℕ). LockRule x (map (holder_read l) (set views id w))) (lock_same l) (left_alone (holder_read l) (LockRule (words (lock_word l))) views id v w at (holder_same l) (p.locks l));
    numbers = left_alone number_read (NumberRule g.lists.numbers) views id v w at refl p.numbers;
    slots = λ l is. subst (λ (x : ℕ). SlotRule limits (replay opened more) g.lists (shape_under (heads_of words) l) l x (get_elem? homes (slot_of l))) (lock_same l) (slots_after l is);
    headed = record {
      heads_are = heads_after;
      open_are = open_after;
      rows_are = p.headed.rows_are;
      openings = λ k. openings_left k (heads_of words k) views id v w at (no_fewer k v w _ refl refl) (p.headed.openings k);
      keys = p.headed.keys;
      cells = p.headed.cells;
      known = known_left views id v w at (keys_of words) refl p.headed.known;
      looks = left_alone looks_read (LookRule opened (heads_of words) (keys_of words) more) views id v w at refl
          (λ j looks e. All-weaker (λ look. IsBacked opened (heads_of words look.object) (keys_of words) g.history look) (λ look. IsBacked opened (heads_of words look.object) (keys_of words) more look) backed_after looks (p.headed.looks j looks e));
    };
    kept = kept_after;
    types = left_alone types_read (TypesRule g.lists (types_words words)) views id v w at refl p.types;
    rows = λ o. left_alone (row_read o) (RowRule (row_words words o)) views id v w at (λ i. record { held = held_same (locks.Row o) i; words = (row_read o v).words }) (p.rows o);
    joins = left_alone join_read (JoinRule more) views id v w at refl (λ j u e. let old = p.joins j u e in (prefix_trans u.first g.history more old.0 longer, prefix_trans u.second g.history more old.1 longer));
    sequence = sequence_left views id v w at (words global_sequence) (own_sequences_of words) refl p.sequence;
    limited = left_alone limit_read (LimitRule limits) views id v w at refl p.limited;
    spent = spent_set views id w p.spent live;
  }

-- The rule over the table, after the write
pub commit_moves : (opened : World) (limits : Limits) (s : Board) (g : Ghost) (h : Holds opened limits s g) (id : ℕ) (v : View) (at : get_elem? s.views id ≡ some v) (live : v.who.live ≡ true) (hand : List (ℕ × Slot))
    (kind : step_kind.StepKind) (operation : op.Op) → v.intent.fresh ≡ true → IsTrue (is_write (replay opened g.history) operation) → Covers (replay opened g.history) v operation → (needs_types operation ≡ true → holds locks.Types v ≡ true)
    → Holds opened limits (stepped s (number_of place) (suc (words_of s.words place)) id hand (written kind v g.history operation) keeps) (record g { history = g.history ++ operation ∷ [] })
commit_moves opened limits s g h id v at live hand kind operation fresh write covers types = record {
  words_are = length-set s.words (number_of place) (suc (words_of s.words place)) ∙ h.words_are;
  slots_are = h.slots_are;
  small = h.small;
  formed = h.formed;
  parts = subst (λ (ws : Words). Parts opened limits ws s.homes (set s.views id (written kind v g.history operation)) (record g { history = g.history ++ operation ∷ [] }))
      (sym (stored s.words h.words_are place (suc (words_of s.words place)) refl))
      (commit_keeps opened limits (words_of s.words) s.homes s.views g h.parts h.formed id v at live kind operation fresh write covers types);
}
