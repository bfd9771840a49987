use Rattle.std.proofs.Common.{ℕ, List, ◌≤◌, length, take, drop, subst, arith, length-drop}
use Rattle.std.proofs.lemmas.List.{take_all}
use Rattle.at_value.specs.Classes.{AreClasses}
use Rattle.at_value.specs.Widths.{bases_a_word}
use Rattle.at_value.proofs.OperationWords.{are_classes_both}
use Rattle.at_value.proofs.packing.words_of_bases.Goals as goal

pub returns-clause-range : goal.returns-clause-range
returns-clause-range c =
    let each = bases_a_word in
    let bases = c.args.bases.now in
    let first : AreClasses (take each bases) = rw c.row_of.ensures.row at c.word_of_row.ensures.range in
    let second : AreClasses (take each (drop each bases)) = rw (c.row_of-2.ensures.row, c.row_of.ensures.left) at c.word_of_row-2.ensures.range in
    let third : AreClasses (take each (drop each (drop each bases))) = rw (c.row_of-3.ensures.row, c.row_of-2.ensures.left, c.row_of.ensures.left) at c.word_of_row-3.ensures.range in
    let few : length (drop each (drop each bases)) ≤ each = omega (arith, length-drop each (drop each bases), length-drop each bases, c.requires) in
    let P : List ℕ → Type 0 = λ l. AreClasses l in
    let last : AreClasses (drop each (drop each bases)) = subst P (take_all each (drop each (drop each bases)) few) third in
    are_classes_both each bases first (are_classes_both each (drop each bases) second last)
