-- The tree of subclasses, and what else is kept, once a class has other bases.
use Rattle.std.proofs.Common.{◌≡◌, ◌≢◌, ◌∙◌, ap, sym, refl, ℕ, ◌<◌, ◌==◌, ◌||◌, ◌++◌, cond, not, length, get_or, List, [], ◌∷◌, Option, Some, None, Result, Ok, Bool, true, false, is_some, IsTrue, Contains, arith}
use Rattle.std.specs.Option.{unwrap_or}
use Rattle.std.specs.List.{list_all, list_any}
use Rattle.std.proofs.lemmas.Bool.{and_parts, not-false, or_left, or_right, eqb-true, false≢true, false_from_ne_true}
use Rattle.std.proofs.lemmas.List.{length-set}
use Rattle.at_c3.proofs.NumberLemmas.{has, Contains-from_has, has-from_Contains}
use Rattle.at_tree.specs.Tree.{children, without_number, Reaches}
use Rattle.at_value.specs.Numbers.{object}
use Rattle.at_value.specs.Widths as widths
use Rattle.at_value.specs.declared.operation.Op.TheVariants as ops
use Rattle.at_value.specs.declared.reply.Reply as reply
use Rattle.at_value.specs.declared.reply.Reply.TheVariants as replies
use Rattle.at_model.specs.declared.rows.ClassRow.{ClassRow}
use Rattle.at_model.specs.World.{World, row_of, own_of, bases_of, order_in}
use Rattle.at_model.specs.Attributes.{Outcome, unchanged}
use Rattle.at_model.specs.Step as steps
use Rattle.at_model.proofs.OnlyWrites.{step-left}
use Rattle.at_model.proofs.Orders.{made_below}
use Rattle.at_model.proofs.StoredOrders.{ordered-from_none}
use Rattle.at_types.specs.ClassSteps.{world_of, reply_to, classes_after, plan_reply}
use Rattle.at_types.specs.Kept.{AreKept}
use Rattle.at_types.specs.Links.{linked, unlinked, missing_from}
use Rattle.at_types.specs.Renewing.{NewOrders, AreRenewed, AreReplaced, replaced_order}
use Rattle.at_types.proofs.Defining.{other_than}
use Rattle.at_types.proofs.KeptLemmas.{subclasses-changed, distinct-changed, made_within}
use Rattle.at_types.proofs.LinkLemmas.{length-with_each, linked-here, linked-elsewhere, linked-others, unlinked-here, unlinked-elsewhere, unlinked-others}
use Rattle.at_types.proofs.MissingBases.{has-missing, has-missing_none, missing-once}
use Rattle.at_model.proofs.NewBases.{made-rebased}
use Rattle.at_types.proofs.SubclassLemmas.{base_is_made, above_from_reaches, in_order_from_above}

-- What a reply tells

-- what is true where the class is given the bases
pub record CanBeRebased (classes : List (Option ClassRow)) (c : ℕ) (bases : List ℕ) : Type 0 where
  pub all_made : IsTrue (steps.are_made (world_of classes) (c ∷ bases))
  pub once : steps.has_repeat bases ≡ false
  pub acyclic : steps.is_cycle (world_of classes) c bases ≡ false
  pub ordered : steps.first_unordered (steps.with_bases (world_of classes) c bases) ≡ None
  pub after : classes_after classes (ops.SetBases c bases) ≡ steps.rebased classes c bases

none-done : (w changed : World) (r : Option ℕ) → (steps.unless_unordered w changed r).reply ≡ replies.Done → r ≡ None
none-done w changed None done = refl
none-done w changed (Some k) done = cc

after-tests : (w : World) (b1 b2 b3 b4 b5 : Bool) (last : Outcome) → b1 ≡ false → b2 ≡ false → b3 ≡ false → b4 ≡ false → b5 ≡ false
    → (cond b1 (unchanged w replies.NoClass) (cond b2 (unchanged w replies.Immutable) (cond b3 (unchanged w replies.EmptyBases) (cond b4 (unchanged w replies.Duplicate) (cond b5 (unchanged w replies.Cycle) last))))) ≡ last
after-tests w b1 b2 b3 b4 b5 last e1 e2 e3 e4 e5 = rw (e1, e2, e3, e4, e5) refl

pub can_be_rebased : (classes : List (Option ClassRow)) (c : ℕ) (bases : List ℕ) → reply_to classes (ops.SetBases c bases) ≡ replies.Done → CanBeRebased classes c bases
can_be_rebased classes c bases done =
    let w = world_of classes in
    let changed = steps.with_bases w c bases in
    let last = steps.if_ordered w changed in
    let P = CanBeRebased classes c bases in
    other_than P (not (steps.are_made w (c ∷ bases))) _ _ (λ e. cc) done (λ made done1.
    other_than P (c == object) _ _ (λ e. cc) done1 (λ subject done2.
    other_than P (steps.is_empty bases) _ _ (λ e. cc) done2 (λ some done3.
    other_than P (steps.has_repeat bases) _ _ (λ e. cc) done3 (λ once done4.
    other_than P (steps.is_cycle w c bases) _ _ (λ e. cc) done4 (λ acyclic done5.
    let none = none-done w changed (steps.first_unordered changed) done5 in
    record {
      all_made = not-false (steps.are_made w (c ∷ bases)) made;
      once = once;
      acyclic = acyclic;
      ordered = none;
      after =
          ap (λ (o : Outcome). o.world.classes) (after-tests w (not (steps.are_made w (c ∷ bases))) (c == object) (steps.is_empty bases) (steps.has_repeat bases) (steps.is_cycle w c bases) last made subject some once acyclic)
          ∙ ap (λ r. (steps.unless_unordered w changed r).world.classes) none;
    })))))

pub planned-bases : {T : Type 0} (classes : List (Option ClassRow)) (c : ℕ) (bases : List ℕ) (plan : Result T reply.Reply) (x : T) → plan ≡ Ok x
    → plan_reply plan ≡ reply_to classes (ops.SetBases c bases) → CanBeRebased classes c bases
planned-bases classes c bases plan x is told = can_be_rebased classes c bases (sym told ∙ ap plan_reply is)

-- what is refused changes no class
pub refused_bases : (classes : List (Option ClassRow)) (c : ℕ) (bases : List ℕ) (r : reply.Reply) → r ≡ reply_to classes (ops.SetBases c bases) → steps.is_done r ≡ false
    → classes ≡ classes_after classes (ops.SetBases c bases)
refused_bases classes c bases r told refused =
    sym (ap (λ (w : World). w.classes) (step-left (world_of classes) (ops.SetBases c bases) (sym (ap steps.is_done told) ∙ refused)))

-- Links

-- a base in whose order the class stood
in_cycle : (classes : List (Option ClassRow)) (c b : ℕ) (order bases : List ℕ) → order_in classes b ≡ Some order → has c order ≡ true → has b bases ≡ true
    → list_any (λ x. steps.is_in_order c (order_in classes x)) bases ≡ true
in_cycle classes c b order [] is at there = absurd (false≢true there)
in_cycle classes c b order (x ∷ xs) is at there =
    elim (x == b) as (λ t. (x == b) ≡ t → (t || has b xs) ≡ true → list_any (λ y. steps.is_in_order c (order_in classes y)) (x ∷ xs) ≡ true) [
      | true ↦ λ here _.
          or_left (steps.is_in_order c (order_in classes x)) (list_any (λ y. steps.is_in_order c (order_in classes y)) xs)
          (ap (λ y. steps.is_in_order c (order_in classes y)) (eqb-true x b here) ∙ ap (steps.is_in_order c) is ∙ at)
      | false ↦ λ _ later.
          or_right (steps.is_in_order c (order_in classes x)) (list_any (λ y. steps.is_in_order c (order_in classes y)) xs) (in_cycle classes c b order xs is at later)
    ] refl there

-- the stored order is then the one that was computed anew, or the one that stays
newest_order : (r : Option (Option (List ℕ))) (old : Option (List ℕ)) (order was now : List ℕ) → unwrap_or r old ≡ Some order → old ≡ Some was → now ≡ replaced_order r was → order ≡ now
newest_order (Some (Some p)) old order was now is before after = cc
newest_order (Some None) old order was now is before after = cc
newest_order None old order was now is before after = cc

module _ (classes : List (Option ClassRow)) (orders tree : List (List ℕ)) (kept : AreKept classes orders tree) (c : ℕ) (bases : List ℕ) (can : CanBeRebased classes c bases) where
  both_made : IsTrue (is_some (row_of classes c)) × IsTrue (list_all (λ b. is_some (row_of classes b)) bases)
  both_made = and_parts (is_some (row_of classes c)) (list_all (λ b. is_some (row_of classes b)) bases) can.all_made

  abbrev was : List ℕ
  was = bases_of (row_of classes c)

  abbrev fresh : List ℕ
  fresh = missing_from was bases

  abbrev dropped : List ℕ
  dropped = missing_from bases was

  pub fresh-once : steps.has_repeat fresh ≡ false
  fresh-once = missing-once was bases can.once

  pub dropped-once : steps.has_repeat dropped ≡ false
  dropped-once = missing-once bases was (kept.distinct c)

  within : (b : ℕ) → IsTrue (is_some (row_of classes b)) → b < length tree
  within b made = let below = made_below classes b made in omega (arith, below, kept.numbered, kept.subclasses.numbered)

  -- a fresh base is one of the new and none of the old
  fresh-parts : (b : ℕ) → has b fresh ≡ true → (has b was ≡ false) × (has b bases ≡ true)
  fresh-parts b at =
      let none : has b was ≡ false = false_from_ne_true (has b was) (λ there. false≢true (sym (has-missing_none was bases b there) ∙ at)) in
      (none, sym (has-missing was bases b none) ∙ at)

  dropped-parts : (b : ℕ) → has b dropped ≡ true → (has b bases ≡ false) × (has b was ≡ true)
  dropped-parts b at =
      let none : has b bases ≡ false = false_from_ne_true (has b bases) (λ there. false≢true (sym (has-missing_none bases was b there) ∙ at)) in
      (none, sym (has-missing bases was b none) ∙ at)

  fresh-made : (b : ℕ) → has b fresh ≡ true → IsTrue (is_some (row_of classes b))
  fresh-made b at = made_within classes bases both_made.1 b (fresh-parts b at).1

  dropped-made : (b : ℕ) → has b dropped ≡ true → IsTrue (is_some (row_of classes b))
  dropped-made b at = base_is_made classes orders kept.orders_are b c (Contains-from_has b was (dropped-parts b at).1)

  pub fresh-absent : (b : ℕ) → Contains fresh b → ¬ Contains (children tree b) c
  fresh-absent b at there = false≢true (sym (fresh-parts b (has-from_Contains b fresh at)).0 ∙ has-from_Contains b was ((kept.subclasses.below b c).0 there))

  pub fresh-not_below : (b : ℕ) → Contains fresh b → ¬ Reaches tree [] c b
  fresh-not_below b at reached =
      let there = has-from_Contains b fresh at in
      let made = fresh-made b there in
      let stands = in_order_from_above classes orders kept.orders_are c b made (above_from_reaches classes tree kept.subclasses c b reached) in
      false≢true (sym can.acyclic ∙ in_cycle classes c b (get_or orders b []) bases (kept.orders_are b made) stands (fresh-parts b there).1)

  abbrev first : List (List ℕ)
  first = linked tree c fresh

  first-long : length first ≡ length tree
  first-long = length-with_each (λ list. list ++ c ∷ []) tree fresh

  pub first-numbered : length first ≡ widths.classes
  first-numbered = first-long ∙ kept.subclasses.numbered

  fresh-within : (b : ℕ) → has b fresh ≡ true → b < length tree
  fresh-within b at = within b (fresh-made b at)

  dropped-within : (b : ℕ) → has b dropped ≡ true → b < length first
  dropped-within b at = let below = within b (dropped-made b at) in omega (arith, below, first-long)

  -- the class is below each base that it had
  held : (b : ℕ) → has c (children tree b) ≡ has b was
  held b =
      elim (has b was) as (λ t. has b was ≡ t → has c (children tree b) ≡ t) [
        | true ↦ λ there. has-from_Contains c (children tree b) ((kept.subclasses.below b c).1 (Contains-from_has b was there))
        | false ↦ λ none.
            false_from_ne_true (has c (children tree b)) (λ there.
            false≢true (sym none ∙ has-from_Contains b was ((kept.subclasses.below b c).0 (Contains-from_has c (children tree b) there))))
      ] refl

  pub dropped-present : (b : ℕ) → Contains dropped b → Contains (children first b) c
  dropped-present b at =
      let parts = dropped-parts b (has-from_Contains b dropped at) in
      Contains-from_has c (children first b) (linked-elsewhere tree c fresh fresh-once fresh-within b (has-missing_none was bases b parts.1) ∙ held b ∙ parts.1)

  abbrev last : List (List ℕ)
  last = unlinked first c dropped

  -- and now below each of the new bases alone
  here : (b : ℕ) → has c (children last b) ≡ has b bases
  here b =
      elim (has b bases) as (λ t. has b bases ≡ t → has c (children last b) ≡ t) [
        | true ↦ λ new.
            unlinked-elsewhere first c dropped dropped-once dropped-within b (has-missing_none bases was b new)
            ∙ elim (has b was) as (λ t. has b was ≡ t → has c (children first b) ≡ true) [
              | true ↦ λ old. linked-elsewhere tree c fresh fresh-once fresh-within b (has-missing_none was bases b old) ∙ held b ∙ old
              | false ↦ λ none. linked-here tree c fresh fresh-once fresh-within b (has-missing was bases b none ∙ new)
            ] refl
        | false ↦ λ gone.
            elim (has b was) as (λ t. has b was ≡ t → has c (children last b) ≡ false) [
              | true ↦ λ old. unlinked-here first c dropped dropped-once dropped-within b (has-missing bases was b gone ∙ old)
              | false ↦ λ none.
                  unlinked-elsewhere first c dropped dropped-once dropped-within b (has-missing bases was b gone ∙ none)
                  ∙ linked-elsewhere tree c fresh fresh-once fresh-within b (has-missing was bases b none ∙ gone) ∙ held b ∙ none
            ] refl
      ] refl

  others : (b d : ℕ) → c ≢ d → has d (children last b) ≡ has d (children tree b)
  others b d other = unlinked-others first c dropped dropped-once dropped-within b d other ∙ linked-others tree c fresh fresh-once fresh-within b d other

  -- what is kept then
  pub kept-rebased : (now : List (Option ClassRow)) (renewed : NewOrders) (listed newest : List (List ℕ)) → now ≡ steps.rebased classes c bases → AreRenewed classes (steps.rebased classes c bases) renewed
      → AreReplaced orders renewed listed → length listed ≡ length orders → newest ≡ last → AreKept now listed newest
  kept-rebased now renewed listed newest changed are replaced long links =
      let row : ClassRow = record { bases = bases; own = own_of (row_of classes c) } in
      let below : c < length classes = made_below classes c both_made.0 in
      rw (changed, links) (record {
        numbered = length-set classes c (Some row) ∙ kept.numbered;
        ordered = long ∙ kept.ordered;
        orders_are = λ d made_now.
            let found = ordered-from_none (steps.with_bases (world_of classes) c bases) can.ordered d made_now in
            let there : IsTrue (is_some (row_of classes d)) = sym (made-rebased classes c bases both_made.0 d) ∙ made_now in
            found.1 ∙ ap (λ o. Some o) (newest_order (get_or renewed d None) (order_in classes d) found.0 (get_or orders d []) (get_or listed d []) (sym (are.right d made_now) ∙ found.1) (kept.orders_are d there) (replaced d));
        distinct = distinct-changed classes c row below can.once kept.distinct;
        subclasses = subclasses-changed classes tree last c row kept.subclasses below (length-with_each (λ list. without_number list c) first dropped ∙ first-long) here others;
      })
