use Rattle.std.proofs.Common.{◌∙◌, ap, sym, length}
use Rattle.at_value.specs.Pairs.{with_value}
use Rattle.at_model.specs.World.{row_of, own_of}
use Rattle.at_model.specs.Step.{with_names}
use Rattle.at_types.proofs.KeptLemmas.{kept-names, refilled}
use Rattle.at_types.proofs.classes.Classes.put.Goals as goal

pub invariant_of-self-2 : goal.invariant_of-self-2
invariant_of-self-2 c =
    let names = with_value c.args.n c.args.v (own_of (row_of c.deref_mut.result.now c.args.c)) in
    let same = refilled c.self.inside.rows.len c.self.inside.rows.items c.put_own.new.rows (sym c.deref_mut.ensures.len ∙ ap length c.deref_mut.ensures.value) (c.put_own.auto.rows ∙ ap length c.deref_mut.ensures.value) in
    rw same (kept-names c.self.inside.rows.items c.put_own.new.rows _ _ c.args.c names c.self.invariant
    (c.in_ok-put_own.ensures.ok ∙ ap (λ classes. with_names classes c.args.c (row_of classes c.args.c) names) c.deref_mut.ensures.value))
