-- Both commits, and the two stores of a head, from what they ask.
use Rattle.std.proofs.Common.{◌≡◌, ◌≢◌, inr, ℕ, suc, ◌+◌, ◌*◌, map, set, ◌<◌, ◌≤◌, ◌&&◌, Bool, true, false, true≢false, IsTrue, List, [], ◌∷◌, ◌++◌, length, refl, sym, ap, ◌∙◌, subst, arith}
use Rattle.std.specs.Prelude.{Some, None, Contains, nat_lt, sum_by, slice_index, slice_index_or, slice_get, if◌then◌else◌}
use Rattle.std.proofs.lemmas.Bool.Decides.{nat_tests}
use Rattle.std.proofs.lemmas.Option.{none-some, same_Some}
use mathlib.Core.Option.{some}
use mathlib.Core.List.{IsPrefix}
use mathlib.Core.Logic.{dite}
use native.Mathlib.Decide.{ℕ_discrete}
use lib.ListN.{get_elem?}
use Rattle.atomic_table.specs.Table.{keeps, stepped}
use Rattle.atomic_table.proofs.Lists.{at_map}
use Rattle.at_value.specs.Widths.{classes, objects}
use Rattle.at_value.specs.declared.limits.Limits.{Limits}
use Rattle.at_value.specs.declared.operation.Op as op
use Rattle.at_model.specs.declared.rows.Object.{Object}
use Rattle.at_model.specs.World.{World, Map}
use Rattle.at_model.specs.History.{replay}
use Rattle.at_model.specs.Step.{is_write}
use Rattle.at_view.specs.declared.mark.StepKind.TheVariants as kinds
use Rattle.at_view.specs.declared.view.RowWords.{RowWords}
use Rattle.at_view.specs.declared.view.View.{View}
use Rattle.at_view.specs.Counts.{keys, inline_values}
use Rattle.at_view.specs.Words.{number_of, is_there, place, head, key, inline_value}
use Rattle.at_core.specs.declared.lock.Lock as lock
use Rattle.at_core.specs.declared.lock.Lock.TheVariants as locks
use Rattle.at_core.specs.Heads.{class_of, sequence_of, shape_of, unmade, IsHead, IsWhole, IsOpened}
use Rattle.at_core.specs.HeadSteps.{MayOpen, head_opened, MayClose, head_closed, known_keys, copied_values}
use Rattle.at_core.specs.Inline.{AreValuesOf, IsHeadOf}
use Rattle.at_core.specs.Locks.{hold_of, holds, copy_at, IsUnchanged}
use Rattle.at_core.specs.PlaceSteps.{Covers, MayCommit, MayCommitIf, written}
use Rattle.at_core.specs.Reads.{kept_read, row_read, known_read}
use Rattle.at_core.specs.Rule.{Slot, Board, Ghost, Holds, words_of, heads_of, keys_of, values_of, row_words}
use Rattle.at_core.specs.Openings.{openings_of}
use Rattle.at_core.specs.Steps.{mark, copied_heads}
use Rattle.at_core.specs.Writes.{IsSameAt}
use Rattle.at_core.proofs.OpeningCounts.{marked_openings, no_fewer, openings_left, openings_raised, counts_one}
use Rattle.at_core.proofs.Prefixes.{prefix_self, prefix_trans, prefix_whole}
use Rattle.at_core.proofs.Written.{get_or-same}
use Rattle.at_core.proofs.HeldStays.{held_writes_stay}
use Rattle.at_core.proofs.HeadFrames.{odd_even, listed_all, values_grow}
use Rattle.at_core.proofs.InlineStoring.{and_false}
use Rattle.at_core.proofs.HeadStoring.{head_moves}
use Rattle.at_core.proofs.RowSteps.{head_of_row}
use Rattle.at_core.proofs.Committing.{commit_moves}
use Rattle.at_core.proofs.Parts.{seen_begins}

-- A head that is whole and the one that opens it differ in the sequence alone

next_class : (h : ℕ) → IsWhole h → class_of (suc h) ≡ class_of h
next_class h even = omega (arith, even)

next_layout : (h : ℕ) → IsWhole h → (shape_of (suc h)).layout ≡ (shape_of h).layout
next_layout h even = omega (arith, even)

next_row : (h : ℕ) → IsWhole h → (shape_of (suc h)).row ≡ (shape_of h).row
next_row h even = omega (arith, even)

next_sequence : (h : ℕ) → IsWhole h → sequence_of (suc h) ≡ suc (sequence_of h)
next_sequence h even = omega (arith, even)

-- an even number that is at most one more than twice a number is at most twice it
even_bound : (word n : ℕ) → IsWhole word → sequence_of word ≤ suc (2 * n) → sequence_of word ≤ 2 * n
even_bound word n even le = omega (arith, even, le)

-- words that the table doesn't have say 0
pub no_value : (ws : List ℕ) (o j : ℕ) → inline_values ≤ j → values_of (words_of ws) o j ≡ 0
no_value ws o j le = by_test (is_there (inline_value o j)) refl
  where
    no_index : nat_lt j inline_values ≡ false
    no_index = grind (arith, nat_tests, le)

    by_test : (t : Bool) → is_there (inline_value o j) ≡ t → values_of (words_of ws) o j ≡ 0
    by_test true e = absurd (true≢false (sym e ∙ (ap (λ (b : Bool). nat_lt o objects && b) no_index ∙ and_false (nat_lt o objects))))
    by_test false e = ap (λ (t : Bool). if t then slice_index ws (number_of (inline_value o j)) else 0) e

pub no_key : (ws : List ℕ) (c j : ℕ) → keys ≤ j → keys_of (words_of ws) c j ≡ 0
no_key ws c j le = by_test (is_there (key c j)) refl
  where
    no_index : nat_lt j keys ≡ false
    no_index = grind (arith, nat_tests, le)

    by_test : (t : Bool) → is_there (key c j) ≡ t → keys_of (words_of ws) c j ≡ 0
    by_test true e = absurd (true≢false (sym e ∙ (ap (λ (b : Bool). nat_lt c classes && b) no_index ∙ and_false (nat_lt c classes))))
    by_test false e = ap (λ (t : Bool). if t then slice_index ws (number_of (key c j)) else 0) e

module _ (opened : World) (limits : Limits) (s : Board) (g : Ghost) (h : Holds opened limits s g) (id : ℕ) (v : View) (at : get_elem? s.views id ≡ some v) (live : v.who.live ≡ true) (hand : List (ℕ × Slot)) where
  seen : IsPrefix v.history.seen g.history
  seen = seen_begins h.parts id v at

  -- what a lock protects is as the pass has seen it
  stays_seen : (l : lock.Lock) → holds l v ≡ true → IsUnchanged l (replay opened v.history.seen) (replay opened g.history)
  stays_seen l held =
      let k = h.parts.kept l id (kept_read l v) (at_map (kept_read l) s.views id v at) held in
      let old = k.protects v.history.seen k.begun seen in
      let now = k.protects g.history (prefix_trans (hold_of l v).since v.history.seen g.history k.begun seen) (prefix_self g.history) in
      back l old now
    where
      back : (k : lock.Lock) → IsUnchanged k (replay opened (hold_of l v).since) (replay opened v.history.seen) → IsUnchanged k (replay opened (hold_of l v).since) (replay opened g.history) → IsUnchanged k (replay opened v.history.seen) (replay opened g.history)
      back locks.Types a b = (b.0 ∙ sym a.0, b.1 ∙ sym a.1)
      back (locks.Row o) a b = (b.0 ∙ sym a.0, b.1 ∙ sym a.1)

  module _ (operation : op.Op) where
    -- so the intended operation does now what it did then
    pub same_now : MayCommit opened v operation → IsSameAt (replay opened v.history.seen) (replay opened g.history) operation
    same_now may = held_writes_stay (replay opened v.history.seen) (replay opened g.history) operation may.write.write (stays_seen locks.Types may.types)
        (λ o c. stays_seen (locks.Row o) (may.write.covers.rows o c).0)

    covers_now : MayCommit opened v operation → Covers (replay opened g.history) v operation
    covers_now may = let same = same_now may in record {
      rows = λ o c. may.write.covers.rows o (subst (λ (xs : List ℕ). Contains xs o) same.rows c);
      moved = λ o c. may.write.covers.moved o (subst (λ (xs : List ℕ). Contains xs o) same.moved c);
    }

    pub add_moves : MayCommit opened v operation
        → Holds opened limits (stepped s (number_of place) (suc (words_of s.words place)) id hand (written kinds.Commit v g.history operation) keeps) (record g { history = g.history ++ operation ∷ [] })
    add_moves may = commit_moves opened limits s g h id v at live hand kinds.Commit operation may.write.fresh
        (subst IsTrue (sym (same_now may).write) may.write.write) (covers_now may) (λ _. may.types)

    -- at the place that the pass has seen, it has seen all
    pub all_seen : words_of s.words place ≡ length v.history.seen → v.history.seen ≡ g.history
    all_seen found = prefix_whole v.history.seen g.history seen (let c = h.parts.history.counted in omega (arith, c, found))

    pub exchange_moves : MayCommitIf opened v operation → words_of s.words place ≡ length v.history.seen
        → Holds opened limits (stepped s (number_of place) (suc (words_of s.words place)) id hand (written kinds.CommitIf v g.history operation) keeps) (record g { history = g.history ++ operation ∷ [] })
    exchange_moves may found =
        let same = all_seen found in
        commit_moves opened limits s g h id v at live hand kinds.CommitIf operation may.write.fresh
        (subst (λ (xs : List op.Op). IsTrue (is_write (replay opened xs) operation)) same may.write.write)
        (subst (λ (xs : List op.Op). Covers (replay opened xs) v operation) same may.write.covers)
        (λ needs. absurd (true≢false (sym needs ∙ may.alone)))

  module _ (o : ℕ) where
    pub open_moves : o < objects → MayOpen v o → Holds opened limits (stepped s (number_of (head o)) (suc (copied_heads v o)) id hand (head_opened v o) keeps) g
    open_moves small may =
        let copy : ℕ = copied_heads v o in
        let is : copied_heads v o ≡ heads_of (words_of s.words) o = head_of_row opened limits (words_of s.words) s.homes s.views g h.parts id v at live o may.held o may.held in
        let odd : IsOpened (suc copy) = (let even = may.whole in omega (arith, even)) in
        let was = subst IsHead (sym is) (h.parts.headed.heads_are o).is in
        head_moves opened limits s g h id v at live hand kinds.HeadOpen o (suc copy) small may.held (record {
          is = (let c = next_class copy may.whole in let l = was.0 in omega (arith, c, l), let c = next_layout copy may.whole in let l = was.1 in omega (arith, c, l));
          risen = let n = next_sequence copy may.whole in let e : sequence_of (heads_of (words_of s.words) o) ≡ sequence_of copy = ap sequence_of (sym is) in omega (arith, n, e);
          above = λ whole. absurd (odd_even (suc copy) odd whole);
          says = λ whole. absurd (odd_even (suc copy) odd whole);
          class = λ _ off found has. class_then copy is may.whole found has;
          stays = λ had. next_layout copy may.whole ∙ had;
          named = λ has. inr (o, may.held, sym (next_layout copy may.whole) ∙ has, sym (next_row copy may.whole));
        })
        (let m = mark kinds.HeadOpen (head o) None (Some (suc copy)) in
        let w = head_opened v o in
        openings_raised o (heads_of (words_of s.words) o) (suc copy) s.views id v w at
        (marked_openings o v w m refl refl ∙ ap (λ (n : ℕ). openings_of o v + n) (counts_one o m refl refl))
        (next_sequence copy may.whole ∙ ap (λ (n : ℕ). suc (sequence_of n)) is)
        (h.parts.headed.openings o))
      where
        class_then : (copy : ℕ) → copy ≡ heads_of (words_of s.words) o → IsWhole copy → (found : Object) → slice_get (replay opened g.history).objects o ≡ Some found → found.class ≡ class_of (suc copy)
        class_then copy is whole found has =
            let says = (h.parts.headed.heads_are o).says (subst IsWhole is whole) in
            dite (ℕ_discrete (shape_of (heads_of (words_of s.words) o)).layout unmade)
            (λ (none : (shape_of (heads_of (words_of s.words) o)).layout ≡ unmade). absurd (none-some found (sym (says.object.absent none).1 ∙ has)))
            (λ (made : (shape_of (heads_of (words_of s.words) o)).layout ≢ unmade).
            let same : found ≡ record { class = class_of (heads_of (words_of s.words) o); dict = (shape_of (heads_of (words_of s.words) o)).row } = same_Some found _ (sym has ∙ says.object.present made) in
            ap (λ (x : Object). x.class) same ∙ (ap class_of (sym is) ∙ sym (next_class copy whole)))

    pub close_moves : (word : ℕ) → o < objects → MayClose opened v o word → Holds opened limits (stepped s (number_of (head o)) word id hand (head_closed v o word) keeps) g
    close_moves word small may =
        let is : copied_heads v o ≡ heads_of (words_of s.words) o = head_of_row opened limits (words_of s.words) s.homes s.views g h.parts id v at live o may.held o may.held in
        let e : sequence_of (heads_of (words_of s.words) o) ≡ sequence_of (copied_heads v o) = ap sequence_of (sym is) in
        let n = may.next in
        head_moves opened limits s g h id v at live hand kinds.HeadClose o word small may.held (record {
          is = may.is;
          risen = omega (arith, n, e);
          above = λ _. omega (arith, n, e);
          says = λ _. says_now;
          class = λ odd. absurd (odd_even word odd may.whole);
          stays = may.stays;
          named = may.named;
        })
        (let left = openings_left o (heads_of (words_of s.words) o) s.views id v (head_closed v o word) at (no_fewer o v (head_closed v o word) _ refl refl) (h.parts.headed.openings o) in
        let whole = may.whole in
        even_bound word (sum_by (λ (k : ℕ). k) (map (openings_of o) (set s.views id (head_closed v o word)))) whole (let b = left in omega (arith, b, n, e)))
      where
        kept : IsUnchanged (locks.Row o) (replay opened (hold_of (locks.Row o) v).since) (replay opened g.history)
        kept =
            let k = h.parts.kept (locks.Row o) id (kept_read (locks.Row o) v) (at_map (kept_read (locks.Row o)) s.views id v at) may.held in
            k.protects g.history (prefix_trans (hold_of (locks.Row o) v).since v.history.seen g.history k.begun seen) (prefix_self g.history)

        values_are : copied_values v o ≡ values_of (words_of s.words) o
        values_are =
            let copy : copy_at o v.rows ≡ row_words (words_of s.words) o = h.parts.rows o id (row_read o v) (at_map (row_read o) s.views id v at) may.held in
            ap (λ (r : RowWords). slice_index r.values) copy ∙ listed_all inline_values (values_of (words_of s.words) o) (no_value s.words o)

        says_now : IsHeadOf (replay opened g.history) o word (keys_of (words_of s.words)) (values_of (words_of s.words) o)
        says_now =
            let says = may.says in
            record {
              object = record { absent = λ e. ((says.object.absent e).0, kept.0 ∙ (says.object.absent e).1); present = λ e. kept.0 ∙ says.object.present e };
              blank = λ e. absurd (may.made e);
              row = says.row;
              values = λ e.
                  let old = subst (λ pairs. AreValuesOf pairs (known_keys v (class_of word)) (copied_values v o)) (sym (get_or-same (replay opened g.history).dicts (replay opened (hold_of (locks.Row o) v).since).dicts o [] kept.1)) (says.values e) in
                  let pairs : Map = slice_index_or (replay opened g.history).dicts o [] in
                  let here = subst (λ (f : ℕ → ℕ). AreValuesOf pairs (known_keys v (class_of word)) f) values_are old in
                  values_grow pairs (known_keys v (class_of word)) (keys_of (words_of s.words) (class_of word)) (values_of (words_of s.words) o) (h.parts.headed.keys (class_of word)) (h.parts.headed.known id v.known (at_map known_read s.views id v at) (class_of word)) here;
            }
