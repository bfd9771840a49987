use Rattle.std.proofs.Common.{◌∙◌, ap, sym, subst, ℕ, suc, ◌+◌, ◌≤◌, List, length, Result}
use Rattle.std.specs.Prelude.{IfOk}
use Rattle.std.specs.List.{list_all}
use Rattle.at_value.specs.Widths as widths
use Rattle.at_script.specs.declared.fault.LineFault.{LineFault}
use Rattle.at_script.specs.Views.{words_left}
use Rattle.at_script.specs.Words.{is_identifier}
use Rattle.at_script.specs.Reading.{texts_in}
use Rattle.at_script.specs.Taking.{bases_taken, class_taken}
use Rattle.at_script.proofs.Ascii.{and-true}
use Rattle.at_script.proofs.Bases.{room_left}
use Rattle.at_script.proofs.tables.Tables.bases.Goals as goal

pub loop-word-preserved : goal.loop-word-preserved
loop-word-preserved c =
    let t = c.args.self.now in
    let word = c.in-Some.word.now in
    let rest = words_left c.next.new.self in
    let split = c.in-Some.ensures.steps in
    let there = c.loop-word.invariant in
    let forms = and-true (is_identifier word) (list_all is_identifier rest) (sym (ap (list_all is_identifier) split) ∙ there.forms) in
    let room : IfOk c.loop-word.bases (λ cs. length cs + suc (length rest) ≤ widths.most_bases) =
    subst (λ (ws : List (List ℕ)). IfOk c.loop-word.bases (λ cs. length cs + length ws ≤ widths.most_bases)) split there.room in
    record {
      can_next = tt;
      is_finite = tt;
      answer =
          ap (λ b. bases_taken t.earlier (texts_in t) b rest) c.with_base-bases.ensures
          ∙ sym (ap (bases_taken t.earlier (texts_in t) c.loop-word.bases) split)
          ∙ there.answer;
      forms = forms.1;
      room = subst (λ (b : Result (List ℕ) LineFault). IfOk b (λ cs. length cs + length rest ≤ widths.most_bases)) (sym c.with_base-bases.ensures)
          (room_left widths.most_bases (length rest) c.loop-word.bases (class_taken t.earlier (texts_in t) word) room);
    }
