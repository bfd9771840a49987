use Rattle.std.proofs.Common.{◌≡◌, refl, subst, ℕ, ◌==◌, ◌≤◌, arith, rules, length, map, inl, inr}
use Rattle.std.specs.List.{range_with_len}
use Rattle.std.proofs.lemmas.Bool.{cases_Bool, eqb-true}
use Rattle.std.proofs.lemmas.List.Elements.{All-from_recursion, All-nil}
use Rattle.at_line.specs.Lines.{main_thread, finally_thread, lines_of_thread}
use Rattle.at_line.specs.Types.{Line}
use Rattle.at_text.specs.Printable.{IsShort, HasName, HasValue, HasClass, HasWhat, HasClassEnd, HasObjEnd}
use Rattle.at_text.specs.PrintableExample.{odd_parts, odd_lines, odd_last}
use Rattle.at_text.proofs.examples.a_run_that_no_script_makes.Goals as goal

abbrev AreNumbered : ℕ → Type 0
AreNumbered thread = map (λ (line : Line). line.number) (lines_of_thread thread odd_lines) ≡ range_with_len 1 (length (lines_of_thread thread odd_lines))

are_numbered : (thread : ℕ) → AreNumbered thread
are_numbered thread =
    elim (cases_Bool (main_thread == thread)) [
      | inl e ↦ subst AreNumbered (eqb-true main_thread thread e) refl
      | inr e ↦
          elim (cases_Bool (finally_thread == thread)) [
            | inl g ↦ subst AreNumbered (eqb-true finally_thread thread g) refl
            | inr g ↦ rw (e, g) refl
          ]
    ]

pub returns : goal.returns
returns c = record {
  read = refl;
  threads = search rules;
  most = All-from_recursion (λ (line : Line). line.thread ≤ finally_thread) odd_lines (omega arith, (omega arith, (omega arith, (omega arith, tt))));
  numbers = are_numbered;
  short = All-from_recursion (λ (line : Line). IsShort line.number) odd_lines (omega arith, (omega arith, (omega arith, (omega arith, tt))));
  few = omega arith;
  known = All-from_recursion (λ (line : Line). HasWhat odd_parts line.what) odd_lines (
    (omega arith, omega arith, All-nil (HasClass odd_parts)),
    ((omega arith, (omega arith, omega arith), tt), ((omega arith, tt, omega arith), (tt, tt))),
  );
  classes = All-from_recursion (HasClassEnd odd_parts) odd_last.classes ((omega arith, All-nil (HasClass odd_parts), (tt, All-nil (λ pair. HasName odd_parts pair.0 × HasValue odd_parts pair.1))), tt);
  objects = All-from_recursion (HasObjEnd odd_parts) odd_last.objects ((omega arith, (tt, All-nil (λ pair. HasName odd_parts pair.0 × HasValue odd_parts pair.1))), tt);
}
