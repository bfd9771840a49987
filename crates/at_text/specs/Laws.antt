-- What is true of every text.
use Rattle.std.specs.Prelude.{ℕ, ◌≡◌, List, map}
use Rattle.at_model.specs.declared.last.Final.{Final}
use Rattle.at_line.specs.Types.{Line}
use Rattle.at_script.specs.Parts.{ScriptParts}
use Rattle.at_text.specs.Bare.{bare_line}
use Rattle.at_text.specs.Printable.{IsPrintable}
use Rattle.at_text.specs.Transcript.{text}

-- Runs of one text have the same script, the same final namespaces, and the same lines, but for the numbers that a miss
-- carries.
abbrev pub TextIsOneToOne : Type 0
TextIsOneToOne =
    (script other : List ℕ) (s t : ScriptParts) (lines more : List Line) (last end : Final)
    → IsPrintable script s lines last → IsPrintable other t more end
    → text script s lines last ≡ text other t more end
    → (script ≡ other) × (map bare_line lines ≡ map bare_line more) × (last ≡ end)
