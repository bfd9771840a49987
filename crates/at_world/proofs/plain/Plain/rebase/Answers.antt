use Rattle.std.proofs.Common.{◌≡◌, ◌∙◌, ◌∷◌, ◌++◌, ap, sym, subst, ℕ, length, take, drop, List, Option, Some, None, IsTrue, is_some}
use Rattle.std.proofs.lemmas.List.{length-map}
use Rattle.smallvec.specs.SmallVec.{SmallVec}
use Rattle.at_value.specs.declared.reply.Reply.TheVariants as replies
use Rattle.at_model.specs.declared.rows.ClassRow.{ClassRow}
use Rattle.at_model.specs.World.{row_of}
use Rattle.at_model.specs.Step.{are_made, if_ordered, with_bases}
use Rattle.at_world.specs.Plain.{PlainState, lists_of}
use Rattle.at_world.specs.Rebasing.{rebased, AreNewOrders, first_empty}
use Rattle.at_world.proofs.Definitions.{refilled}
use Rattle.at_world.proofs.Rebased.{subject_made, IsCoherent-rebased, rebase_refused, rebase_done}
use Rattle.at_world.proofs.plain.Plain.rebase.Goals as goal

pub returns-in-Some-clause-ok : goal.returns-in-Some-clause-ok
returns-in-Some-clause-ok c =
    let classes = c.self.inside.classes.items in
    let lists = lists_of c.in_ok-orders.orders.items in
    let was : PlainState = record { world = record { classes = classes; objects = c.self.inside.objects.items; dicts = c.self.inside.dicts.items }; place = c.self.inside.place } in
    let AreMade : PlainState → Type 0 = λ s. IsTrue (are_made s.world (c.args.c ∷ c.args.bases.now)) in
    let made : IsTrue (is_some (row_of classes c.args.c)) = subject_made was.world c.args.c c.args.bases.now (subst AreMade (sym c.self.view_is) c.requires.made) in
    let are : AreNewOrders (rebased classes c.args.c c.args.bases.now) lists =
    subst (λ rows. AreNewOrders (rebased rows c.args.c c.args.bases.now) lists) c.deref.ensures.value c.in_ok-orders.ensures.orders in
    let first : first_empty 0 classes lists ≡ Some c.in-Some.k =
    sym (c.first_without.ensures ∙ ap (λ rows. first_empty 0 rows (lists_of c.deref-4.result.now)) c.deref-3.ensures.value ∙ ap (λ orders. first_empty 0 classes (lists_of orders)) c.deref-4.ensures.value)
    ∙ c.in-Some.is in
    let Claim : PlainState → Type 0 = λ s.
    (replies.NoOrder c.in-Some.k ≡ (if_ordered s.world (with_bases s.world c.args.c c.args.bases.now)).reply)
    × (s ≡ record { world = (if_ordered s.world (with_bases s.world c.args.c c.args.bases.now)).world; place = s.place }) in
    subst Claim c.self.view_is (rebase_refused was c.args.c c.in-Some.k c.args.bases.now lists made are first)

pub invariant_of-self : goal.invariant_of-self
invariant_of-self c =
    let classes = c.self.inside.classes.items in
    let lists = lists_of c.in_ok-orders.orders.items in
    let was : PlainState = record { world = record { classes = classes; objects = c.self.inside.objects.items; dicts = c.self.inside.dicts.items }; place = c.self.inside.place } in
    let AreMade : PlainState → Type 0 = λ s. IsTrue (are_made s.world (c.args.c ∷ c.args.bases.now)) in
    let made : IsTrue (is_some (row_of classes c.args.c)) = subject_made was.world c.args.c c.args.bases.now (subst AreMade (sym c.self.view_is) c.requires.made) in
    let are : AreNewOrders (rebased classes c.args.c c.args.bases.now) lists =
    subst (λ rows. AreNewOrders (rebased rows c.args.c c.args.bases.now) lists) c.deref.ensures.value c.in_ok-orders.ensures.orders in
    let first : first_empty 0 classes lists ≡ None =
    sym (c.first_without.ensures ∙ ap (λ rows. first_empty 0 rows (lists_of c.deref-4.result.now)) c.deref-3.ensures.value ∙ ap (λ orders. first_empty 0 classes (lists_of orders)) c.deref-4.ensures.value)
    ∙ c.in-None.is in
    let value = c.deref_mut.ensures.value in
    let same = refilled c.self.inside.classes.len classes c.replace_bases.new.classes (sym c.deref_mut.ensures.len ∙ ap length value) (c.replace_bases.auto.classes ∙ ap length value) in
    let now : c.replace_bases.new.classes ≡ rebased classes c.args.c c.args.bases.now = c.replace_bases.ensures ∙ ap (λ rows. rebased rows c.args.c c.args.bases.now) value in
    rw (same, now)
    (IsCoherent-rebased classes (lists_of c.self.inside.orders.items) lists c.self.inside.objects.items c.self.inside.dicts.items c.args.c c.args.bases.now c.self.invariant made are (length-map c.in_ok-orders.orders.items (λ (l : SmallVec ℕ). l.items) ∙ c.in_ok-orders.ensures.long) first)

pub returns-in-None-clause-ok : goal.returns-in-None-clause-ok
returns-in-None-clause-ok c =
    let classes = c.self.inside.classes.items in
    let lists = lists_of c.in_ok-orders.orders.items in
    let state : List (Option ClassRow) → PlainState = λ rows. record { world = record { classes = rows; objects = c.self.inside.objects.items; dicts = c.self.inside.dicts.items }; place = c.self.inside.place } in
    let AreMade : PlainState → Type 0 = λ s. IsTrue (are_made s.world (c.args.c ∷ c.args.bases.now)) in
    let made : IsTrue (is_some (row_of classes c.args.c)) = subject_made (state classes).world c.args.c c.args.bases.now (subst AreMade (sym c.self.view_is) c.requires.made) in
    let are : AreNewOrders (rebased classes c.args.c c.args.bases.now) lists =
    subst (λ rows. AreNewOrders (rebased rows c.args.c c.args.bases.now) lists) c.deref.ensures.value c.in_ok-orders.ensures.orders in
    let first : first_empty 0 classes lists ≡ None =
    sym (c.first_without.ensures ∙ ap (λ rows. first_empty 0 rows (lists_of c.deref-4.result.now)) c.deref-3.ensures.value ∙ ap (λ orders. first_empty 0 classes (lists_of orders)) c.deref-4.ensures.value)
    ∙ c.in-None.is in
    let value = c.deref_mut.ensures.value in
    let same = refilled c.self.inside.classes.len classes c.replace_bases.new.classes (sym c.deref_mut.ensures.len ∙ ap length value) (c.replace_bases.auto.classes ∙ ap length value) in
    let now : c.replace_bases.new.classes ≡ rebased classes c.args.c c.args.bases.now = c.replace_bases.ensures ∙ ap (λ rows. rebased rows c.args.c c.args.bases.now) value in
    let items = take c.self.inside.classes.len (c.replace_bases.new.classes ++ drop (length c.replace_bases.new.classes) classes) in
    let Claim : PlainState → Type 0 = λ s.
    (replies.Done ≡ (if_ordered s.world (with_bases s.world c.args.c c.args.bases.now)).reply)
    × (state items ≡ record { world = (if_ordered s.world (with_bases s.world c.args.c c.args.bases.now)).world; place = s.place }) in
    let done = rebase_done (state classes) c.args.c c.args.bases.now lists made are first in
    subst Claim c.self.view_is (done.0, ap state (same ∙ now) ∙ done.1)
