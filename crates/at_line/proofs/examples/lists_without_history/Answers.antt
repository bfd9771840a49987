use Rattle.std.proofs.Common.{◌≡◌, List, [], ◌∷◌, Option, Some, None, option_to_list, slice_get}
use Rattle.at_value.specs.declared.operation.Op as op
use Rattle.at_line.specs.LineExamples.{sets_five, sets_six}
use Rattle.at_line.proofs.examples.lists_without_history.Goals as goal

never_two : (found : Option op.Op) (first second : op.Op) → first ∷ second ∷ [] ≡ option_to_list found → ⊥
never_two None first second same = cc same
never_two (Some o) first second same = cc same

never_past : (history : List op.Op) (o : op.Op) → [] ≡ option_to_list (slice_get history 3) → o ∷ [] ≡ option_to_list (slice_get history 4) → ⊥
never_past [] o none some = cc some
never_past (a ∷ []) o none some = cc some
never_past (a ∷ b ∷ []) o none some = cc some
never_past (a ∷ b ∷ c ∷ []) o none some = cc some
never_past (a ∷ b ∷ c ∷ d ∷ rest) o none some = cc none

pub returns-clause-twice : goal.returns-clause-twice
returns-clause-twice c = λ history is. never_two (slice_get history 2) sets_five sets_six (is 3)

pub returns-clause-left_out : goal.returns-clause-left_out
returns-clause-left_out c = λ history is. never_past history sets_six (is 4) (is 5)
