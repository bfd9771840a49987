use Rattle.std.proofs.Common.{rules, ◌≡◌, IfOk, Some}
use Rattle.std.proofs.lemmas.Result.{IfOk-weaker}
use Rattle.at_value.specs.Widths as widths
use Rattle.at_name.specs.Texts.{interned}
use Rattle.at_name.proofs.Tables.{AreNames-option, place_of-interned}
use Rattle.at_name.proofs.names.Names.intern.Goals as goal

pub invariant_of-self-2 : goal.invariant_of-self-2
invariant_of-self-2 c =
    AreNames-option c.args.text.now c.args.self.now c.intern.new.self c.in_ok-place.field-0 (rw (← c.self.view_is) c.self.invariant) (rw (← c.self.view_is) c.in_ok-place.ensures.same) (rw (← c.self.view_is) c.in_ok-place.ensures.unchanged)

pub returns-clause-number : goal.returns-clause-number
returns-clause-number c =
    let ok : IfOk c.match-branch-2.result (λ n. interned widths.names c.args.text.now c.args.self.now ≡ Some (n, c.intern.new.self)) = search rules in
    IfOk-weaker c.match-branch-2.result _ _ (λ n e. place_of-interned widths.names c.args.text.now c.args.self.now c.intern.new.self n e) ok
