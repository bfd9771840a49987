use Rattle.std.proofs.Common.{◌≡◌, ◌∙◌, ap, sym, subst, ℕ, List, [], Option, false, length, Contains}
use Rattle.at_tree.specs.Tree.{children, Reaches}
use Rattle.at_value.specs.declared.operation.Op.TheVariants as ops
use Rattle.at_model.specs.declared.rows.ClassRow.{ClassRow}
use Rattle.at_model.specs.World.{row_of, bases_of}
use Rattle.at_model.specs.Step.{has_repeat, rebased}
use Rattle.at_types.specs.ClassSteps.{reply_to, plan_reply}
use Rattle.at_types.specs.Kept.{AreKept}
use Rattle.at_types.specs.Links.{linked, unlinked, missing_from}
use Rattle.at_types.specs.Renewing.{NewOrders, AreRenewed, AreReplaced}
use Rattle.at_types.proofs.KeptLemmas.{refilled}
use Rattle.at_types.proofs.Relinked.{CanBeRebased, planned-bases, refused_bases, fresh-once, fresh-absent, fresh-not_below, first-numbered, dropped-once, dropped-present, kept-rebased}
use Rattle.at_types.proofs.classes.Classes.rebase.Goals as goal

pub link-requires-clause-once : goal.link-requires-clause-once
link-requires-clause-once c =
    let tree = c.self.inside.subclasses in
    let bases = c.args.bases.now in
    let kept : AreKept c.args.self.now c.self.inside.orders.items tree = subst (λ classes. AreKept classes c.self.inside.orders.items tree) c.self.view_is c.self.invariant in
    let can : CanBeRebased c.args.self.now c.args.c bases = planned-bases c.args.self.now c.args.c bases c.in_ok-renewed.field-0 c.in-Ok.renewed c.in-Ok.is c.in_ok-renewed.ensures.reply in
    let fresh : c.as_slice.result.now ≡ missing_from (bases_of (row_of c.args.self.now c.args.c)) bases =
    c.as_slice.ensures ∙ c.without.ensures ∙ ap (λ was. missing_from was bases) c.bases_of-was.ensures in
    subst (λ (list : List ℕ). has_repeat list ≡ false) (sym fresh) (fresh-once c.args.self.now c.self.inside.orders.items tree kept c.args.c bases can)

pub link-requires-clause-absent : goal.link-requires-clause-absent
link-requires-clause-absent c =
    let tree = c.self.inside.subclasses in
    let bases = c.args.bases.now in
    let kept : AreKept c.args.self.now c.self.inside.orders.items tree = subst (λ classes. AreKept classes c.self.inside.orders.items tree) c.self.view_is c.self.invariant in
    let can : CanBeRebased c.args.self.now c.args.c bases = planned-bases c.args.self.now c.args.c bases c.in_ok-renewed.field-0 c.in-Ok.renewed c.in-Ok.is c.in_ok-renewed.ensures.reply in
    let fresh : c.as_slice.result.now ≡ missing_from (bases_of (row_of c.args.self.now c.args.c)) bases =
    c.as_slice.ensures ∙ c.without.ensures ∙ ap (λ was. missing_from was bases) c.bases_of-was.ensures in
    subst (λ (list : List ℕ). (b : ℕ) → Contains list b → Contains (children tree b) c.args.c → ⊥) (sym fresh) (fresh-absent c.args.self.now c.self.inside.orders.items tree kept c.args.c bases can)

pub link-requires-clause-not_below : goal.link-requires-clause-not_below
link-requires-clause-not_below c =
    let tree = c.self.inside.subclasses in
    let bases = c.args.bases.now in
    let kept : AreKept c.args.self.now c.self.inside.orders.items tree = subst (λ classes. AreKept classes c.self.inside.orders.items tree) c.self.view_is c.self.invariant in
    let can : CanBeRebased c.args.self.now c.args.c bases = planned-bases c.args.self.now c.args.c bases c.in_ok-renewed.field-0 c.in-Ok.renewed c.in-Ok.is c.in_ok-renewed.ensures.reply in
    let fresh : c.as_slice.result.now ≡ missing_from (bases_of (row_of c.args.self.now c.args.c)) bases =
    c.as_slice.ensures ∙ c.without.ensures ∙ ap (λ was. missing_from was bases) c.bases_of-was.ensures in
    subst (λ (list : List ℕ). (b : ℕ) → Contains list b → Reaches tree [] c.args.c b → ⊥) (sym fresh) (fresh-not_below c.args.self.now c.self.inside.orders.items tree kept c.args.c bases can)

pub unlink-requires-clause-numbered : goal.unlink-requires-clause-numbered
unlink-requires-clause-numbered c =
    let tree = c.self.inside.subclasses in
    let bases = c.args.bases.now in
    let kept : AreKept c.args.self.now c.self.inside.orders.items tree = subst (λ classes. AreKept classes c.self.inside.orders.items tree) c.self.view_is c.self.invariant in
    let can : CanBeRebased c.args.self.now c.args.c bases = planned-bases c.args.self.now c.args.c bases c.in_ok-renewed.field-0 c.in-Ok.renewed c.in-Ok.is c.in_ok-renewed.ensures.reply in
    let fresh : c.as_slice.result.now ≡ missing_from (bases_of (row_of c.args.self.now c.args.c)) bases =
    c.as_slice.ensures ∙ c.without.ensures ∙ ap (λ was. missing_from was bases) c.bases_of-was.ensures in
    let dropped : c.as_slice-in-Ok.result.now ≡ missing_from bases (bases_of (row_of c.args.self.now c.args.c)) =
    c.as_slice-in-Ok.ensures ∙ c.without-in-Ok.ensures ∙ ap (λ was. missing_from bases was) c.bases_of-was.ensures in
    let first : c.link.new.tree ≡ linked tree c.args.c (missing_from (bases_of (row_of c.args.self.now c.args.c)) bases) =
    c.in_ok-link-in-Ok.ensures.ok ∙ ap (linked tree c.args.c) fresh in
    ap length first ∙ first-numbered c.args.self.now c.self.inside.orders.items tree kept c.args.c bases can

pub unlink-requires-clause-once : goal.unlink-requires-clause-once
unlink-requires-clause-once c =
    let tree = c.self.inside.subclasses in
    let bases = c.args.bases.now in
    let kept : AreKept c.args.self.now c.self.inside.orders.items tree = subst (λ classes. AreKept classes c.self.inside.orders.items tree) c.self.view_is c.self.invariant in
    let can : CanBeRebased c.args.self.now c.args.c bases = planned-bases c.args.self.now c.args.c bases c.in_ok-renewed.field-0 c.in-Ok.renewed c.in-Ok.is c.in_ok-renewed.ensures.reply in
    let fresh : c.as_slice.result.now ≡ missing_from (bases_of (row_of c.args.self.now c.args.c)) bases =
    c.as_slice.ensures ∙ c.without.ensures ∙ ap (λ was. missing_from was bases) c.bases_of-was.ensures in
    let dropped : c.as_slice-in-Ok.result.now ≡ missing_from bases (bases_of (row_of c.args.self.now c.args.c)) =
    c.as_slice-in-Ok.ensures ∙ c.without-in-Ok.ensures ∙ ap (λ was. missing_from bases was) c.bases_of-was.ensures in
    let first : c.link.new.tree ≡ linked tree c.args.c (missing_from (bases_of (row_of c.args.self.now c.args.c)) bases) =
    c.in_ok-link-in-Ok.ensures.ok ∙ ap (linked tree c.args.c) fresh in
    subst (λ (list : List ℕ). has_repeat list ≡ false) (sym dropped) (dropped-once c.args.self.now c.self.inside.orders.items tree kept c.args.c bases can)

pub unlink-requires-clause-present : goal.unlink-requires-clause-present
unlink-requires-clause-present c =
    let tree = c.self.inside.subclasses in
    let bases = c.args.bases.now in
    let kept : AreKept c.args.self.now c.self.inside.orders.items tree = subst (λ classes. AreKept classes c.self.inside.orders.items tree) c.self.view_is c.self.invariant in
    let can : CanBeRebased c.args.self.now c.args.c bases = planned-bases c.args.self.now c.args.c bases c.in_ok-renewed.field-0 c.in-Ok.renewed c.in-Ok.is c.in_ok-renewed.ensures.reply in
    let fresh : c.as_slice.result.now ≡ missing_from (bases_of (row_of c.args.self.now c.args.c)) bases =
    c.as_slice.ensures ∙ c.without.ensures ∙ ap (λ was. missing_from was bases) c.bases_of-was.ensures in
    let dropped : c.as_slice-in-Ok.result.now ≡ missing_from bases (bases_of (row_of c.args.self.now c.args.c)) =
    c.as_slice-in-Ok.ensures ∙ c.without-in-Ok.ensures ∙ ap (λ was. missing_from bases was) c.bases_of-was.ensures in
    let first : c.link.new.tree ≡ linked tree c.args.c (missing_from (bases_of (row_of c.args.self.now c.args.c)) bases) =
    c.in_ok-link-in-Ok.ensures.ok ∙ ap (linked tree c.args.c) fresh in
    subst (λ (list : List ℕ). (b : ℕ) → Contains list b → Contains (children c.link.new.tree b) c.args.c) (sym dropped)
    (subst (λ (t : List (List ℕ)). (b : ℕ) → Contains (missing_from bases (bases_of (row_of c.args.self.now c.args.c))) b → Contains (children t b) c.args.c) (sym first) (dropped-present c.args.self.now c.self.inside.orders.items tree kept c.args.c bases can))

pub invariant_of-self-in-Ok : goal.invariant_of-self-in-Ok
invariant_of-self-in-Ok c =
    let tree = c.self.inside.subclasses in
    let bases = c.args.bases.now in
    let kept : AreKept c.args.self.now c.self.inside.orders.items tree = subst (λ classes. AreKept classes c.self.inside.orders.items tree) c.self.view_is c.self.invariant in
    let can : CanBeRebased c.args.self.now c.args.c bases = planned-bases c.args.self.now c.args.c bases c.in_ok-renewed.field-0 c.in-Ok.renewed c.in-Ok.is c.in_ok-renewed.ensures.reply in
    let fresh : c.as_slice.result.now ≡ missing_from (bases_of (row_of c.args.self.now c.args.c)) bases =
    c.as_slice.ensures ∙ c.without.ensures ∙ ap (λ was. missing_from was bases) c.bases_of-was.ensures in
    let dropped : c.as_slice-in-Ok.result.now ≡ missing_from bases (bases_of (row_of c.args.self.now c.args.c)) =
    c.as_slice-in-Ok.ensures ∙ c.without-in-Ok.ensures ∙ ap (λ was. missing_from bases was) c.bases_of-was.ensures in
    let first : c.link.new.tree ≡ linked tree c.args.c (missing_from (bases_of (row_of c.args.self.now c.args.c)) bases) =
    c.in_ok-link-in-Ok.ensures.ok ∙ ap (linked tree c.args.c) fresh in
    let were_rows = c.deref_mut.ensures.value in
    let were_orders = c.deref_mut-in-Ok.ensures.value in
    let rows = refilled c.self.inside.rows.len c.self.inside.rows.items c.replace_bases.new.rows (sym c.deref_mut.ensures.len ∙ ap length were_rows) (c.replace_bases.auto.rows ∙ ap length were_rows) in
    let orders = refilled c.self.inside.orders.len c.self.inside.orders.items c.replace_orders.new.orders (sym c.deref_mut-in-Ok.ensures.len ∙ ap length were_orders) (c.replace_orders.auto.orders ∙ ap length were_orders) in
    let renewed : AreRenewed c.args.self.now (rebased c.args.self.now c.args.c bases) c.in-Ok.renewed.items = rw c.in-Ok.is at c.in_ok-renewed.ensures.orders in
    let replaced : AreReplaced c.self.inside.orders.items c.in-Ok.renewed.items c.replace_orders.new.orders =
    subst (λ (was : List (List ℕ)). AreReplaced was c.in-Ok.renewed.items c.replace_orders.new.orders) were_orders
    (subst (λ (new : NewOrders). AreReplaced c.deref_mut-in-Ok.result.now new c.replace_orders.new.orders) c.deref_mut-in-Ok-2.ensures.value c.replace_orders.ensures) in
    let last = c.unlink.ensures ∙ ap (λ (t : List (List ℕ)). unlinked t c.args.c c.as_slice-in-Ok.result.now) first
    ∙ ap (unlinked (linked tree c.args.c (missing_from (bases_of (row_of c.args.self.now c.args.c)) bases)) c.args.c) dropped in
    rw (rows, orders)
    (kept-rebased c.args.self.now c.self.inside.orders.items tree kept c.args.c bases can c.replace_bases.new.rows c.in-Ok.renewed.items c.replace_orders.new.orders c.unlink.new.tree
    (c.replace_bases.ensures ∙ ap (λ (r : List (Option ClassRow)). rebased r c.args.c bases) (were_rows ∙ c.self.view_is)) renewed replaced (c.replace_orders.auto.orders ∙ ap length were_orders) last)

pub returns-in-Err-clause-ok : goal.returns-in-Err-clause-ok
returns-in-Err-clause-ok c =
    let told : c.in-Err.refusal ≡ reply_to c.args.self.now (ops.SetBases c.args.c c.args.bases.now) = sym (ap plan_reply c.in-Err.is) ∙ c.in_ok-renewed.ensures.reply in
    (told, refused_bases c.args.self.now c.args.c c.args.bases.now c.in-Err.refusal told (rw c.in-Err.is at c.in_ok-renewed.ensures.refusal))
