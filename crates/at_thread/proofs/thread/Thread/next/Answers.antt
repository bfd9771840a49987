use Rattle.std.proofs.Common.{◌∙◌, ap, sym, map}
use Rattle.std.proofs.lemmas.Bool.{false≢true}
use Rattle.at_thread.specs.Threads.{frame_of, state_of, transition_of}
use Rattle.at_thread.proofs.Going.{goes_on, frame_goes}
use Rattle.at_thread.proofs.thread.Thread.next.Goals as goal

pub returns-then-self-clause-ended : goal.returns-then-self-clause-ended
returns-then-self-clause-ended c is =
    let t = c.args.self.now in
    let goes = frame_goes c.args.script.now (state_of t) (frame_of t.frame) (map frame_of t.below) t.frame.rest.now in
    let now = c.next_of_frame.ensures ∙ ap (λ d. transition_of d (state_of c.next_of_frame.new.self)) is in
    absurd (false≢true (sym (ap goes_on now) ∙ goes))
