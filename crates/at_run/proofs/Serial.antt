-- Serial lists of lines in parts: what was said first leads to a history, and the rest goes on from there.
use Rattle.std.proofs.Common.{ℕ, Bool, true, false, List, [], ◌∷◌, ◌++◌, refl, sym, subst}
use Rattle.at_value.specs.declared.operation.Op as op
use Rattle.at_line.specs.declared.line.LineOp.TheVariants as line_ops
use Rattle.at_line.specs.declared.line.What as what
use Rattle.at_line.specs.declared.line.What.TheVariants as whats
use Rattle.at_model.specs.World.{World}
use Rattle.at_model.specs.Step.{is_write}
use Rattle.at_model.specs.History.{replay}
use Rattle.at_line.specs.Serial.{GoesOn, Adds, IsSerial}
use Rattle.at_line.proofs.Serials.{adds_weaker}

module _ (P : List op.Op → List op.Op → Type 0) (Q : List op.Op → Type 0) where
  -- there is a history that goes on so
  abbrev GoesThrough : List op.Op → Type 0
  GoesThrough longer = (middle : List op.Op) × P longer middle × Q middle

  goes_out : (written : Bool) (history : List op.Op) (place : ℕ) (o : op.Op) → GoesOn GoesThrough written history place o → (middle : List op.Op) × GoesOn (λ longer. P longer middle) written history place o × Q middle
  goes_out true history place o (at, (middle, p, q)) = (middle, (at, p), q)
  goes_out false history place o (at, (middle, p, q)) = (middle, (at, p), q)

  adds_out : (opened : World) (history : List op.Op) (w : what.What) → Adds opened GoesThrough history w → (middle : List op.Op) × Adds opened (λ longer. P longer middle) history w × Q middle
  adds_out opened history (whats.Did place way (line_ops.Of o) reply) (told, on) = let g = goes_out (is_write (replay opened history) o) history place.0 o on in (g.0, (told, g.1), g.2)
  adds_out opened history (whats.Did place way (line_ops.Begin a b) reply) (at, (middle, p, q)) = (middle, (at, p), q)
  adds_out opened history (whats.Did place way line_ops.Finish reply) (at, (middle, p, q)) = (middle, (at, p), q)
  adds_out opened history (whats.Local local) (middle, p, q) = (middle, p, q)

pub serial_split : (opened : World) (says more : List what.What) (history last : List op.Op) → IsSerial opened history (says ++ more) last
    → (middle : List op.Op) × IsSerial opened history says middle × IsSerial opened middle more last
serial_split opened [] more history last s = (history, refl, s)
serial_split opened (w ∷ says) more history last s =
    adds_out (λ longer middle. IsSerial opened longer says middle) (λ middle. IsSerial opened middle more last) opened history w
    (adds_weaker opened (λ longer. IsSerial opened longer (says ++ more) last) (λ longer. (middle : List op.Op) × IsSerial opened longer says middle × IsSerial opened middle more last) history w
    (λ longer rest. serial_split opened says more longer last rest) s)

pub serial_append : (opened : World) (says more : List what.What) (first middle last : List op.Op) → IsSerial opened first says middle → IsSerial opened middle more last → IsSerial opened first (says ++ more) last
serial_append opened [] more first middle last s on = subst (λ (h : List op.Op). IsSerial opened h more last) (sym s) on
serial_append opened (w ∷ says) more first middle last s on =
    adds_weaker opened (λ longer. IsSerial opened longer says middle) (λ longer. IsSerial opened longer (says ++ more) last) first w
    (λ longer k. serial_append opened says more longer middle last k on) s
