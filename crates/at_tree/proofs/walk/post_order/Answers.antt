use Rattle.std.proofs.Common.{◌≡◌, ◌<◌, map, length, ℕ, Bool, true, false, List, [], ◌∷◌, ◌++◌, set, reverse, replicate, sym, ap, ◌∙◌, subst, arith}
use Rattle.std.proofs.lemmas.List.{length-map, get_or_read, nil_from_length}
use Rattle.at_tree.specs.Tree.{IsTree}
use Rattle.at_tree.specs.declared.walk.Stage.{Stage}
use Rattle.at_tree.proofs.Walks.{Walks, walk_from}
use Rattle.at_tree.proofs.Depth.{walk_is}
use Rattle.at_tree.proofs.Stages.{Going, fresh, start, finish, left, inside, skipped, skipped_less, gone_into, gone_into_less}
use Rattle.at_tree.proofs.walk.post_order.Goals as goal

pub walk-init : goal.walk-init
walk-init c =
    let tree : List (List ℕ) = map (λ v. v.items) c.args.lists.now in
    let size : length tree ≡ length c.args.lists.now = length-map c.args.lists.now (λ v. v.items) in
    let unseen = c.in_ok-seen.ensures.items_if_clones_equal (λ y h. h) in
    let stages : c.push.new.self.items ≡ fresh c.args.c ∷ [] = c.in_ok-push.ensures.items ∙ ap (λ ss. ss ++ fresh c.args.c ∷ []) c.in_ok-stages.ensures.items in
    let seen : set (replicate (length tree) false) c.args.c true ≡ set c.in_ok-seen.seen.items c.from.result true =
    ap (λ n. set (replicate n false) c.args.c true) size ∙ sym (ap (λ xs. set xs c.args.c true) unseen) ∙ sym (ap (λ k. set c.in_ok-seen.seen.items k true) c.from.ensures) in
    subst (λ xs. Going tree c.args.stop.now c.args.c xs (reverse c.push.new.self.items) c.in_ok-list.list.items) seen
    (subst (λ ss. Going tree c.args.stop.now c.args.c (set (replicate (length tree) false) c.args.c true) (reverse ss) c.in_ok-list.list.items) (sym stages)
    (subst (Going tree c.args.stop.now c.args.c (set (replicate (length tree) false) c.args.c true) (fresh c.args.c ∷ [])) (sym c.in_ok-list.ensures.items)
    (start tree c.args.stop.now c.requires.tree c.args.c (omega (arith, size, c.requires.class_in)))))

pub walk-preserved-in_default-next_below : goal.walk-preserved-in_default-next_below
walk-preserved-in_default-next_below c =
    left _ _ c.requires.tree _ _ _ _ c.in-Some.stage _ c.in-Some.ensures.items c.walk.invariant _ (sym c.next_below.ensures.value ∙ c.in_default-next_below.is) c.in_ok-push-2.ensures.items

pub index-requires : goal.index-requires
index-requires c =
    let at : c.from-below.result < length c.walk.seen.items = inside _ _ c.requires.tree _ _ _ _ c.in-Some.stage _ c.in-Some.ensures.items c.walk.invariant c.in-Some-next_below.d _ (sym c.in-Some-next_below.ensures.value) c.from-below.ensures _ c.in_ok-push-3.ensures.items in
    omega (arith, at, c.walk.seen.ok.0)

pub index_mut-requires-in-Some : goal.index_mut-requires-in-Some
index_mut-requires-in-Some c =
    let at : c.from-below.result < length c.walk.seen.items = inside _ _ c.requires.tree _ _ _ _ c.in-Some.stage _ c.in-Some.ensures.items c.walk.invariant c.in-Some-next_below.d _ (sym c.in-Some-next_below.ensures.value) c.from-below.ensures _ c.in_ok-push-3.ensures.items in
    omega (arith, at, c.walk.seen.ok.0)

pub walk-smaller-then-index : goal.walk-smaller-then-index
walk-smaller-then-index c = skipped_less _ _ c.requires.tree _ _ _ _ c.in-Some.stage _ c.in-Some.ensures.items c.walk.invariant c.in-Some-next_below.d _ (sym c.in-Some-next_below.ensures.value) c.from-below.ensures _ c.in_ok-push-3.ensures.items

pub walk-preserved-then-index : goal.walk-preserved-then-index
walk-preserved-then-index c =
    let at : c.from-below.result < length c.walk.seen.items = inside _ _ c.requires.tree _ _ _ _ c.in-Some.stage _ c.in-Some.ensures.items c.walk.invariant c.in-Some-next_below.d _ (sym c.in-Some-next_below.ensures.value) c.from-below.ensures _ c.in_ok-push-3.ensures.items in
    skipped _ _ c.requires.tree _ _ _ _ c.in-Some.stage _ c.in-Some.ensures.items c.walk.invariant c.in-Some-next_below.d _ (sym c.in-Some-next_below.ensures.value) c.from-below.ensures _ c.in_ok-push-3.ensures.items
    (sym (get_or_read c.walk.seen.items _ _ at c.index.ensures false) ∙ c.if-index.true)

pub walk-smaller : goal.walk-smaller
walk-smaller c =
    let at : c.from-below.result < length c.walk.seen.items = inside _ _ c.requires.tree _ _ _ _ c.in-Some.stage _ c.in-Some.ensures.items c.walk.invariant c.in-Some-next_below.d _ (sym c.in-Some-next_below.ensures.value) c.from-below.ensures _ c.in_ok-push-3.ensures.items in
    gone_into_less _ _ c.requires.tree _ _ _ _ c.in-Some.stage _ c.in-Some.ensures.items c.walk.invariant c.in-Some-next_below.d _ (sym c.in-Some-next_below.ensures.value) c.from-below.ensures _ c.in_ok-push-3.ensures.items
    (sym (get_or_read c.walk.seen.items _ _ at c.index.ensures false) ∙ c.if-index.false) _ c.in_ok-push-4.ensures.items

pub walk-preserved : goal.walk-preserved
walk-preserved c =
    let at : c.from-below.result < length c.walk.seen.items = inside _ _ c.requires.tree _ _ _ _ c.in-Some.stage _ c.in-Some.ensures.items c.walk.invariant c.in-Some-next_below.d _ (sym c.in-Some-next_below.ensures.value) c.from-below.ensures _ c.in_ok-push-3.ensures.items in
    gone_into _ _ c.requires.tree _ _ _ _ c.in-Some.stage _ c.in-Some.ensures.items c.walk.invariant c.in-Some-next_below.d _ (sym c.in-Some-next_below.ensures.value) c.from-below.ensures _ c.in_ok-push-3.ensures.items
    (sym (get_or_read c.walk.seen.items _ _ at c.index.ensures false) ∙ c.if-index.false) _ c.in_ok-push-4.ensures.items

-- at the end no stage is left, and the list is that of the walk
ended : (tree : List (List ℕ)) (stop : List Bool) (t : IsTree tree) (c : ℕ) (seen : List Bool) (stages : List Stage) (list : List ℕ) → length stages ≡ 0 → Going tree stop c seen (reverse stages) list → Walks tree stop [] (c ∷ []) list
ended tree stop t c seen stages list none g = finish tree stop t c seen list (subst (λ ss. Going tree stop c seen (reverse ss) list) (nil_from_length stages none) g)

pub returns-clause-walk : goal.returns-clause-walk
returns-clause-walk c =
    walk_from _ _ c.requires.tree _ _ (omega (arith, length-map c.args.lists.now (λ v. v.items), c.requires.class_in))
    (ended _ _ c.requires.tree _ _ c.walk.stages.items _ (omega (arith, c.walk.stages.ok.0, c.in_default.ensures.cases)) c.walk.invariant)

pub returns-clause-exact : goal.returns-clause-exact
returns-clause-exact c =
    walk_is _ _ c.requires.tree _ _ (omega (arith, length-map c.args.lists.now (λ v. v.items), c.requires.class_in))
    (ended _ _ c.requires.tree _ _ c.walk.stages.items _ (omega (arith, c.walk.stages.ok.0, c.in_default.ensures.cases)) c.walk.invariant)
