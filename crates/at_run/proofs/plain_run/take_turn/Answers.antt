use Rattle.std.proofs.Common.{◌∙◌, refl, ap, sym, subst, [], ◌∷◌}
use Rattle.at_line.specs.declared.line.What.TheVariants as whats
use Rattle.at_thread.specs.Execution.{Transition}
use Rattle.at_thread.specs.Executions.{Makes}
use Rattle.at_thread.specs.Threads.{state_of, transition_of}
use Rattle.at_thread.proofs.Saying.{next_says}
use Rattle.at_run.proofs.Turning.{own_plain}
use Rattle.at_run.proofs.plain_run.take_turn.Goals as goal

pub returns-in-Says-clause-turned : goal.returns-in-Says-clause-turned
returns-in-Says-clause-turned c =
    let s = state_of c.args.executing.now in
    let t = state_of c.next.new.self in
    let l = c.in-Says.local in
    let next = c.next.ensures.next ∙ ap (λ d. transition_of d t) c.in-Says.is in
    record {
      says = whats.Local l ∷ [];
      moves = subst (λ (n : Transition). Makes n (whats.Local l ∷ []) t) (sym next) (refl, (refl, refl));
      tells = (refl, own_plain l (next_says c.args.script.now s t l next));
      lines = c.put_line.ensures.put.1;
      count = c.put_line.ensures.put.0;
    }

pub returns-in_ok-do_operation-in-Asks-clause-turned : goal.returns-in_ok-do_operation-in-Asks-clause-turned
returns-in_ok-do_operation-in-Asks-clause-turned c =
    let t = state_of c.next.new.self in
    let did = c.in_ok-do_operation-in-Asks.ensures.did in
    let next = c.next.ensures.next ∙ ap (λ d. transition_of d t) c.in-Asks.is in
    record {
      says = did.line ∷ [];
      moves = subst (λ (n : Transition). Makes n (did.line ∷ []) (state_of c.do_operation.new.executing)) (sym next) did.moves;
      tells = (did.tells, did.plain);
      lines = did.put.1;
      count = did.put.0;
    }
