use Rattle.std.proofs.Common.{◌≡◌, map, ap, ◌∙◌, subst}
use Rattle.std.proofs.lemmas.Result.{IfOk-weaker}
use Rattle.at_tree.specs.Walk.{IsWalk}
use Rattle.at_tree.proofs.Walks.{walk_unmarked, walk_closed, order_of, reached_first, unmarked_first}
use Rattle.at_tree.proofs.Tree.below.Goals as goal

-- the lists that the walk went through are those that the tree is seen as
shown : (c : goal.After-post_order) → map (λ v. v.items) c.deref.result.now ≡ c.args.self.now
shown c = ap (map (λ v. v.items)) c.deref.ensures.value ∙ c.self.view_is

pub returns-clause-unmarked : goal.returns-clause-unmarked
returns-clause-unmarked c =
    IfOk-weaker c.post_order.result _ _
    (λ list w. walk_unmarked c.args.self.now c.args.stop.now c.args.c list.items (subst (λ tree. IsWalk tree c.args.stop.now c.args.c list.items) (shown c) w))
    c.post_order.ensures.walk

pub returns-clause-reached_first : goal.returns-clause-reached_first
returns-clause-reached_first c =
    IfOk-weaker c.post_order.result _ _
    (λ list w. reached_first c.args.self.now c.args.stop.now list.items (order_of c.args.self.now c.args.stop.now c.args.c list.items (subst (λ tree. IsWalk tree c.args.stop.now c.args.c list.items) (shown c) w)))
    c.post_order.ensures.walk

pub returns-clause-unmarked_first : goal.returns-clause-unmarked_first
returns-clause-unmarked_first c =
    IfOk-weaker c.post_order.result _ _
    (λ list w. unmarked_first c.args.self.now c.args.stop.now list.items (order_of c.args.self.now c.args.stop.now c.args.c list.items (subst (λ tree. IsWalk tree c.args.stop.now c.args.c list.items) (shown c) w)))
    c.post_order.ensures.walk

pub returns-clause-unmarked_in : goal.returns-clause-unmarked_in
returns-clause-unmarked_in c =
    IfOk-weaker c.post_order.result _ _
    (λ list w. walk_closed c.args.self.now c.args.stop.now c.args.c list.items (subst (λ tree. IsWalk tree c.args.stop.now c.args.c list.items) (shown c) w))
    c.post_order.ensures.walk
