-- A line is read exactly where its text stands at the front.
use Rattle.std.proofs.Common.{◌≡◌, ◌∙◌, ap, sym, ℕ, List, Option, Some, None}
use Rattle.at_line.specs.Types.{Line, What}
use Rattle.at_script.specs.Laws.{AreToldApart}
use Rattle.at_script.specs.Parts.{ScriptParts}
use Rattle.at_text.specs.ReadLines.{line_at}
use Rattle.at_text.proofs.LineReads.{line_reads}
use Rattle.at_text.proofs.OneToOne.{told}
use Rattle.at_back.specs.Told.{IsAtFront, HasNoneAtFront}
use Rattle.at_back.proofs.LinesGive.{line_gives}

module _ (s : ScriptParts) where
  pub line_told : (whole : List ℕ) (line : Line) (rest : List ℕ) → line_at s whole ≡ Some (line, rest) → IsAtFront s whole line rest
  line_told whole line rest h =
      let k = (line_gives s).there whole (line, rest) h in
      (record { thread = k.1.0.0; number = k.1.0.1; has = k.1.1.0; bare = ap (λ (w : What). record line { what = w }) k.1.1.1 }, k.0)

  pub no_line : AreToldApart s → (whole : List ℕ) → line_at s whole ≡ None → HasNoneAtFront s whole
  no_line apart whole h line rest front =
      let t = front.0 in
      let read = (line_reads s (told s apart) line t.thread t.number t.has).here rest tt in
      let none : None ≡ Some line = sym (ap (λ (o : Option (Line × List ℕ)). line_in o) h) ∙ ap (λ (o : Option (Line × List ℕ)). line_in o) (ap (line_at s) front.1 ∙ read) ∙ ap Some t.bare in
      cc
    where
      line_in : Option (Line × List ℕ) → Option Line
      line_in None = None
      line_in (Some p) = Some p.0
