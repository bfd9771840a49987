use Rattle.at_core.specs.Passes.{notes}
use Rattle.at_section.proofs.Begun.{plain_around}
use Rattle.at_section.proofs.Ending.{same_types}
use Rattle.at_section.proofs.section.end.Goals as goal

pub returns-clause-surface : goal.returns-clause-surface
returns-clause-surface g c =
    let f = c.end_noted.ensures.ended in
    record {
      held = c.end_noted.ensures.held.0;
      ready = c.end_noted.ensures.held.1;
      plain = same_types (notes c.end_noted.new.pass) f.around f.named (plain_around (notes c.args.pass.now) f.around f.note f.popped c.requires.surface.plain);
    }
