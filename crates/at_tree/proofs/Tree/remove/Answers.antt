use Rattle.std.proofs.Common.{◌↔◌, ℕ, [], sym, subst}
use Rattle.at_tree.specs.Tree.{without_number, Reaches, IsTree}
use Rattle.at_tree.proofs.Changes.{written, removed, removed_below}
use Rattle.at_tree.proofs.Tree.remove.Goals as goal

pub invariant_of-self : goal.invariant_of-self
invariant_of-self c =
    subst IsTree (sym (written (λ v. v.items) (λ list. without_number list c.args.c) c.self.inside.lists.items _ _ _ _ c.take_out.new.list c.self.view_is c.from.ensures c.requires.base_in c.index_mut.ensures.value c.take_out.ensures))
    (removed c.args.self.now (subst IsTree c.self.view_is c.self.invariant) c.args.base c.args.c c.requires.base_in)

pub returns-clause-removed : goal.returns-clause-removed
returns-clause-removed c = written (λ v. v.items) (λ list. without_number list c.args.c) c.self.inside.lists.items _ _ _ _ c.take_out.new.list c.self.view_is c.from.ensures c.requires.base_in c.index_mut.ensures.value c.take_out.ensures

pub returns-clause-below_c : goal.returns-clause-below_c
returns-clause-below_c c =
    subst (λ tree. (d : ℕ) → Reaches tree [] c.args.c d ↔ Reaches c.args.self.now [] c.args.c d) (sym (returns-clause-removed c))
    (removed_below c.args.self.now (subst IsTree c.self.view_is c.self.invariant) c.args.base c.args.c c.requires.base_in c.requires.present)
