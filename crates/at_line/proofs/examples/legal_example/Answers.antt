use Rattle.std.proofs.Common.{refl, lit≤, arith, rules}
use Rattle.std.proofs.lemmas.Bool.{true≢false, false≢true}
use Rattle.std.proofs.lemmas.List.Elements.{All-from_recursion}
use Rattle.at_line.specs.declared.line.Line.{Line}
use Rattle.at_line.specs.Lines.{write_count, IsHistory}
use Rattle.at_line.specs.Legal.{IsWriteTrue, IsReadTrue, IsKeptAlone, IsLimitMet, AreWritesTrue, AreReadsTrue, AreLimitsMet}
use Rattle.at_line.specs.Paths.{IsLocked, AreLocked}
use Rattle.at_model.specs.World.{opening}
use Rattle.at_line.specs.LineExamples.{example_limits, legal_lines, legal_history}
use Rattle.at_line.proofs.LineChecks.{are_rising, are_in_turn}
use Rattle.at_line.proofs.examples.legal_example.Goals as goal

places : IsHistory legal_lines legal_history
places = search rules

writes_true : AreWritesTrue opening legal_history legal_lines
writes_true =
    All-from_recursion (λ (line : Line). IsWriteTrue opening legal_history line.what) legal_lines
    (λ _. (refl, refl), (λ _. (refl, refl), (tt, (tt, (λ _. (refl, refl), (λ wrote. absurd (false≢true wrote), (λ wrote. absurd (false≢true wrote), (λ _. (refl, refl), (tt, (tt, (tt, (tt, (tt, (λ wrote. absurd (false≢true wrote), (tt, (tt, tt))))))))))))))))

reads_true : AreReadsTrue opening legal_history legal_lines
reads_true =
    All-from_recursion (λ (line : Line). IsReadTrue opening legal_history (write_count legal_lines) line.what × IsKeptAlone line.thread line.what) legal_lines (
      (λ reads. absurd (true≢false reads), tt),
      (
        (λ reads. absurd (true≢false reads), tt),
        (
          (lit≤ tt, tt),
          (
            (lit≤ tt, λ _. refl),
            (
              (λ reads. absurd (true≢false reads), tt),
              ((λ _. (lit≤ tt, refl, refl), tt), ((λ _. (lit≤ tt, refl, refl), tt), ((λ reads. absurd (true≢false reads), tt), ((tt, tt), ((tt, tt), ((lit≤ tt, tt), ((lit≤ tt, λ ends. absurd (omega (arith, ends))), ((tt, tt), ((λ _. (lit≤ tt, refl, refl), tt), ((lit≤ tt, tt), ((lit≤ tt, λ _. refl), tt))))))))))),
            ),
          ),
        ),
      ),
    )

limits_met : AreLimitsMet example_limits legal_lines
limits_met = All-from_recursion (λ (line : Line). IsLimitMet example_limits 4 16 line.what) legal_lines (tt, (tt, (tt, (tt, (tt, (tt, (tt, (tt, ((lit≤ tt, lit≤ tt), ((lit≤ tt, lit≤ tt), (tt, (tt, ((lit≤ tt, lit≤ tt), (tt, (tt, (tt, tt))))))))))))))))

locked : AreLocked legal_lines
locked = All-from_recursion (λ (line : Line). IsLocked line.what) legal_lines (refl, (refl, (refl, (refl, (refl, (refl, (refl, (refl, (tt, (tt, (refl, (refl, (tt, (refl, (refl, (refl, tt))))))))))))))))

pub returns-clause-linearized : goal.returns-clause-linearized
returns-clause-linearized c = record {
  places = places;
  writes = writes_true;
  reads = reads_true;
  rising = are_rising legal_lines refl;
  turns = are_in_turn legal_lines refl;
  limits_met = limits_met;
}

pub returns-clause-locked : goal.returns-clause-locked
returns-clause-locked c = locked
