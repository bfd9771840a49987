-- What each call on the count of writes owes, as in Allowed.
use Rattle.std.proofs.Common.{◌≡◌, ℕ, suc, ◌+◌, ◌%◌, ◌^◌, ◌<◌, true, eqb, List, [], ◌∷◌, ◌++◌, length, map, get_or, refl, sym, ap, ◌∙◌, subst, arith}
use Rattle.std.specs.Prelude.{IsTrue}
use Rattle.std.proofs.lemmas.List.Elements.{All-weaker}
use mathlib.Core.Option.{some, none}
use mathlib.Core.List.{IsPrefix}
use lib.ListN.{get_elem?}
use prog.Atomic.{either}
use Rattle.atomic_table.specs.Table.{Me, Act, keeps, step, stepped, carried_after, Valid, Allows}
use Rattle.atomic_table.proofs.Lists.{exchanged, at_map}
use Rattle.at_value.specs.declared.limits.Limits.{Limits}
use Rattle.at_value.specs.declared.operation.Op as op
use Rattle.at_value.proofs.OperationWords.{one_operation}
use Rattle.at_model.specs.World.{World}
use Rattle.at_model.specs.History.{replay, IsProper}
use Rattle.at_model.specs.Step.{is_write}
use Rattle.at_view.specs.declared.mark.StepKind.TheVariants as kinds
use Rattle.at_view.specs.declared.view.View.{View}
use Rattle.at_view.specs.Counts.{passes, intent_words}
use Rattle.at_view.specs.Words.{number_of, place, intent}
use Rattle.at_core.specs.Locks.{hold_of}
use Rattle.at_core.specs.Looks.{IsBacked}
use Rattle.at_core.specs.PlaceSteps.{place_loaded, intent_stored, Intends, MayCommit, MayCommitIf, written, unwritten}
use Rattle.at_core.specs.PlacePlays.{Saw, AreEarlier, LoadsPlace, StoresIntent, Commits, CommitsIf}
use Rattle.at_core.specs.Reads.{fresh_read, kept_read, looks_read, limit_read}
use Rattle.at_core.specs.Rule.{Slot, Board, Ghost, Holds, Base, weight, words_of, heads_of, keys_of}
use Rattle.at_core.specs.Writes.{IsSameAt}
use Rattle.at_core.proofs.Lists.{sum_has}
use Rattle.at_core.proofs.Prefixes.{prefix_self, prefix_trans, prefix_length}
use Rattle.at_core.proofs.WordLemmas.{said}
use Rattle.at_core.proofs.Written.{proper_snoc}
use Rattle.at_core.proofs.Parts.{seen_begins}
use Rattle.at_core.proofs.LivePasses.{alone_saw}
use Rattle.at_core.proofs.QuietSteps.{intent_moves, unwritten_moves}
use Rattle.at_core.proofs.Placing.{place_moves}
use Rattle.at_core.proofs.Writing.{same_now, add_moves, all_seen, exchange_moves}

module _ (opened : World) (limits : Limits) where
  module _ (s : Board) (g : Ghost) (h : Holds opened limits s g) (id : ℕ) (v : View) (at : get_elem? s.views id ≡ some v) (live : v.who.live ≡ true) where
    -- what the pass learns of the history as it is
    pub saw : Saw opened v g.history
    saw = record {
      later = seen_begins h.parts id v at;
      alone = λ alone. alone_saw h.parts id v at live alone;
      proper = h.parts.history.proper;
      kept = λ l held.
          let k = h.parts.kept l id (kept_read l v) (at_map (kept_read l) s.views id v at) held in
          let begun = prefix_trans (hold_of l v).since v.history.seen g.history k.begun (seen_begins h.parts id v at) in
          record { begun = begun; came = k.came; unchanged = k.protects g.history begun (prefix_self g.history); excludes = k.excludes };
    }

    earlier : AreEarlier v.looks g.history
    earlier = All-weaker (λ look. IsBacked opened (heads_of (words_of s.words) look.object) (keys_of (words_of s.words)) g.history look) (λ look. IsPrefix look.at g.history) (λ look b. b.begins) v.looks
        (h.parts.headed.looks id v.looks (at_map looks_read s.views id v at))

    counted : (n : ℕ) → n ≡ get_or s.words (number_of place) 0 → length g.history ≡ n
    counted n is = sym (is ∙ (sym (said s.words place refl) ∙ h.parts.history.counted))

  -- the place is loaded
  pub loads_place : (slots id : ℕ) (me : Me Slot View) → me.0.who.live ≡ true
      → Allows (Base opened limits) slots id me (number_of place) (λ n. n) (LoadsPlace opened (step slots (number_of place) 0 0 none) me)
  loads_place slots id me live s b deep at small =
      let v = me.0 in
      let g = b.ghost in
      let word : words_of s.words place ≡ get_or s.words (number_of place) 0 = said s.words place refl in (
        place_loaded v g.history,
        keeps,
        tt,
        record { ghost = g; holds = subst (λ (k : ℕ). Holds opened limits (stepped s (number_of place) k id me.1 (place_loaded v g.history) keeps) g) word (place_moves opened limits s g b.holds id v at live me.1) },
        λ _. (g.history, counted s g b.holds id v at live (get_or s.words (number_of place) 0) refl, refl, saw s g b.holds id v at live, earlier s g b.holds id v at live),
      )

  -- a word of the intended operation is stored
  pub stores_intent : (slots id j n : ℕ) (me : Me Slot View) → me.0.who.live ≡ true → j < intent_words → me.0.who.number < passes
      → Allows (Base opened limits) slots id me (number_of (intent me.0.who.number j)) (λ _. n) (λ _. StoresIntent (step slots (number_of (intent me.0.who.number j)) n 0 none) me n)
  stores_intent slots id j n me live less few s b deep at small = (
    intent_stored me.0 j n,
    keeps,
    tt,
    record { ghost = b.ghost; holds = intent_moves opened limits s b.ghost b.holds id me.0 at live me.1 j n less few },
    λ i lt is. let same : j ≡ i = omega (arith, is) in ap (λ (k : ℕ). (intent_stored me.0 k n, me.1)) same,
  )

  -- the operation that is intended is one
  intended : (v : View) (o p : op.Op) → Intends v o → Intends v p → o ≡ p
  intended v o p a b = one_operation o p a.0 b.0 (a.1 ∙ sym b.1)

  -- a write takes the next place
  pub commits : (slots id : ℕ) (me : Me Slot View) (operation : op.Op) → me.0.who.live ≡ true → MayCommit opened me.0 operation
      → Allows (Base opened limits) slots id me (number_of place) (λ n. (n + 1) % 2 ^ 64) (Commits opened (step slots (number_of place) 1 0 none) me)
  commits slots id me operation live may s b deep at small =
      let v = me.0 in
      let g = b.ghost in
      let n : ℕ = get_or s.words (number_of place) 0 in
      let word : words_of s.words place ≡ n = said s.words place refl in
      let has = sum_has weight (map fresh_read s.views) id (fresh_read v) (at_map fresh_read s.views id v at) in
      let one : weight (fresh_read v) ≡ 1 = ap weight may.write.fresh in
      let room = b.holds.parts.room in
      let wide = b.holds.small in
      let next : suc (words_of s.words place) ≡ (n + 1) % 2 ^ 64 = omega (arith, has, one, room, wide, word) in
      let same = same_now opened limits s g b.holds id v at live me.1 operation may in (
        written kinds.Commit v g.history operation,
        keeps,
        tt,
        record {
          ghost = record g { history = g.history ++ operation ∷ [] };
          holds = subst (λ (k : ℕ). Holds opened limits (stepped s (number_of place) k id me.1 (written kinds.Commit v g.history operation) keeps) (record g { history = g.history ++ operation ∷ [] })) next
              (add_moves opened limits s g b.holds id v at live me.1 operation may);
        },
        λ _ other intends.
            let is : operation ≡ other = intended v operation other may.write.intends intends in (
              g.history,
              counted s g b.holds id v at live n refl,
              ap (λ (o : op.Op). (written kinds.Commit v g.history o, me.1)) is,
              saw s g b.holds id v at live,
              (let limit = ap (λ (l : Limits). l.place_max) (b.holds.parts.limited id (limit_read v) (at_map limit_read s.views id v at) live) in omega (arith, has, one, room, word, limit)),
              subst (λ (o : op.Op). IsProper opened (g.history ++ o ∷ [])) is (proper_snoc opened g.history operation b.holds.parts.history.proper (subst IsTrue (sym same.write) may.write.write)),
              subst (λ (o : op.Op). IsSameAt (replay opened v.history.seen) (replay opened g.history) o) is same,
            ),
      )

  -- or the place that the pass has seen, and no other
  pub commits_if : (slots id : ℕ) (me : Me Slot View) (operation : op.Op) (new : ℕ) → me.0.who.live ≡ true → MayCommitIf opened me.0 operation → new ≡ (length me.0.history.seen + 1) % 2 ^ 64
      → let g = length me.0.history.seen in
      Allows (Base opened limits) slots id me (number_of place) (λ n. either (eqb n g) new n) (CommitsIf opened (step slots (number_of place) g new none) me)
  commits_if slots id me operation new live may new_is s b deep at small =
      let v = me.0 in
      let g = b.ghost in
      let n : ℕ = get_or s.words (number_of place) 0 in
      let l : ℕ = length v.history.seen in
      let word : words_of s.words place ≡ n = said s.words place refl in
      let F : ℕ → Type 0 = λ k. (w : View) × (a : Act Slot) × Valid s.homes me.1 a × Base opened limits (stepped s (number_of place) k id me.1 w a)
      × CommitsIf opened (step slots (number_of place) l new none) me n (w, carried_after me.1 a) in
      exchanged n l new F
      (λ found.
      let here : words_of s.words place ≡ l = word ∙ found in
      let has = sum_has weight (map fresh_read s.views) id (fresh_read v) (at_map fresh_read s.views id v at) in
      let one : weight (fresh_read v) ≡ 1 = ap weight may.write.fresh in
      let room = b.holds.parts.room in
      let wide = b.holds.small in
      let next : suc (words_of s.words place) ≡ new = omega (arith, has, one, room, wide, here, new_is) in
      let same : v.history.seen ≡ g.history = all_seen opened limits s g b.holds id v at live me.1 operation here in (
        written kinds.CommitIf v v.history.seen operation,
        keeps,
        tt,
        record {
          ghost = record g { history = g.history ++ operation ∷ [] };
          holds = subst (λ (x : ℕ × List op.Op). Holds opened limits (stepped s (number_of place) x.0 id me.1 (written kinds.CommitIf v x.1 operation) keeps) (record g { history = g.history ++ operation ∷ [] })) (λ i. (next i, sym same i))
              (exchange_moves opened limits s g b.holds id v at live me.1 operation may here);
        },
        λ _ other intends.
            let is : operation ≡ other = intended v operation other may.write.intends intends in (
              λ _. (
                ap (λ (o : op.Op). (written kinds.CommitIf v v.history.seen o, me.1)) is,
                subst (Saw opened v) (sym same) (saw s g b.holds id v at live),
                subst (λ (o : op.Op). IsProper opened (v.history.seen ++ o ∷ [])) is
                    (subst (λ (xs : List op.Op). IsProper opened (xs ++ operation ∷ [])) (sym same) (proper_snoc opened g.history operation b.holds.parts.history.proper (subst (λ (xs : List op.Op). IsTrue (is_write (replay opened xs) operation)) same may.write.write))),
              ),
              λ busy. absurd (busy found),
            ),
      ))
      (λ busy. (
        unwritten v n,
        keeps,
        tt,
        record { ghost = g; holds = subst (λ (k : ℕ). Holds opened limits (stepped s (number_of place) k id me.1 (unwritten v k) keeps) g) word (unwritten_moves opened limits s g b.holds id v at live me.1) },
        λ _ other intends. (
          λ found. absurd (busy found),
          λ _. (
            refl,
            (let le = prefix_length v.history.seen g.history (seen_begins b.holds.parts id v at) in let c = counted s g b.holds id v at live n refl in omega (arith, le, c, busy)),
            λ alone. let e = ap length ((saw s g b.holds id v at live).alone alone) in let c = counted s g b.holds id v at live n refl in busy (sym c ∙ e),
          ),
        ),
      ))
