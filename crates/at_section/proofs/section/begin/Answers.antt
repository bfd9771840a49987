use Rattle.std.proofs.Common.{List, subst}
use Rattle.std.specs.Prelude.{Some}
use Rattle.at_core.specs.declared.lock.Lock as lock
use Rattle.at_core.specs.Passes.{notes}
use Rattle.at_section.specs.Calls.{Begins}
use Rattle.at_section.proofs.Begun.{plain_begun}
use Rattle.at_section.proofs.section.begin.Goals as goal

pub returns-clause-begun : goal.returns-clause-begun
returns-clause-begun g c =
    subst (λ (ls : List lock.Lock). Begins ls c.args.pass.now c.begin_noted.new.pass c.begin_noted.result) c.note_of-note.ensures.names c.begin_noted.ensures.begun

pub returns-clause-surface : goal.returns-clause-surface
returns-clause-surface g c =
    let b = returns-clause-begun g c in
    record {
      held = c.begin_noted.ensures.held.0;
      ready = c.begin_noted.ensures.held.1;
      plain = plain_begun (notes c.args.pass.now) b.around (notes c.begin_noted.new.pass) b.note (Some c.args.a) c.args.b c.requires.surface.plain b.named b.pushed b.names;
    }
