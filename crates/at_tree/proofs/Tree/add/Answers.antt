use Rattle.std.proofs.Common.{◌↔◌, ℕ, [], ◌∷◌, ◌++◌, Result, Ok, Err, OnErr, sym, subst}
use Rattle.at_tree.specs.Tree.{Reaches, IsTree}
use Rattle.at_tree.proofs.Changes.{written, rewritten, added, added_below}
use Rattle.at_tree.proofs.Tree.add.Goals as goal

-- what is true holds where there is an error
on_err_true : {T E P : Type 0} (r : Result T E) → P → OnErr r P
on_err_true (Ok x) p = tt
on_err_true (Err e) p = p

pub invariant_of-self : goal.invariant_of-self
invariant_of-self c =
    subst IsTree (sym (rewritten (λ v. v.items) c.self.inside.lists.items _ _ _ _ c.push.new.self c.self.view_is c.from.ensures c.requires.base_in c.index_mut.ensures.value c.in_err-push.ensures.items))
    (subst IsTree c.self.view_is c.self.invariant)

pub returns-in_err-push-clause-err : goal.returns-in_err-push-clause-err
returns-in_err-push-clause-err c =
    on_err_true _ (rewritten (λ v. v.items) c.self.inside.lists.items _ _ _ _ c.push.new.self c.self.view_is c.from.ensures c.requires.base_in c.index_mut.ensures.value c.in_err-push.ensures.items)

pub invariant_of-self-2 : goal.invariant_of-self-2
invariant_of-self-2 c =
    subst IsTree (sym (written (λ v. v.items) (λ list. list ++ c.args.c ∷ []) c.self.inside.lists.items _ _ _ _ c.push.new.self c.self.view_is c.from.ensures c.requires.base_in c.index_mut.ensures.value c.in_ok-push.ensures.items))
    (added c.args.self.now (subst IsTree c.self.view_is c.self.invariant) c.args.base c.args.c c.requires.base_in c.requires.c_in c.requires.absent c.requires.not_below)

pub returns-clause-ok : goal.returns-clause-ok
returns-clause-ok c = written (λ v. v.items) (λ list. list ++ c.args.c ∷ []) c.self.inside.lists.items _ _ _ _ c.push.new.self c.self.view_is c.from.ensures c.requires.base_in c.index_mut.ensures.value c.in_ok-push.ensures.items

pub returns-in_err-push-clause-below_c : goal.returns-in_err-push-clause-below_c
returns-in_err-push-clause-below_c c =
    subst (λ tree. (d : ℕ) → Reaches tree [] c.args.c d ↔ Reaches c.args.self.now [] c.args.c d)
    (sym (rewritten (λ v. v.items) c.self.inside.lists.items _ _ _ _ c.push.new.self c.self.view_is c.from.ensures c.requires.base_in c.index_mut.ensures.value c.in_err-push.ensures.items))
    (λ d. ((λ r. r), (λ r. r)))

pub returns-clause-below_c : goal.returns-clause-below_c
returns-clause-below_c c =
    subst (λ tree. (d : ℕ) → Reaches tree [] c.args.c d ↔ Reaches c.args.self.now [] c.args.c d) (sym (returns-clause-ok c))
    (added_below c.args.self.now (subst IsTree c.self.view_is c.self.invariant) c.args.base c.args.c c.requires.base_in c.requires.not_below)
