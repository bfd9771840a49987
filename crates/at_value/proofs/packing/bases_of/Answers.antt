use Rattle.std.proofs.Common.{◌≡◌, ◌<◌, ◌+◌, ◌++◌, length, drop, get_or, suc, [], ◌∷◌, Some, ◌∙◌, ap, sym, arith, drop-cons, append-nil}
use Rattle.std.proofs.lemmas.List.{drop_all}
use Rattle.at_value.specs.Widths.{base_bits, bases_a_word}
use Rattle.at_value.specs.ReadingOps.{classes_of_words}
use Rattle.at_value.proofs.OperationWords.{row_read, bases_at_most}
use Rattle.at_value.proofs.packing.bases_of.Goals as goal

pub loop-word-preserved : goal.loop-word-preserved
loop-word-preserved c =
    let i = c.loop-word.word-index in
    let in_list : i < length c.args.words.now = omega (arith, c.fits-words, c.loop-word-test.true) in
    let next : i + 1 ≡ suc i = omega arith in
    let prefix : drop i c.args.words.now ≡ get_or c.args.words.now i 0 ∷ drop (i + 1) c.args.words.now = rw next (drop-cons c.args.words.now i 0 in_list) in
    let read = row_read base_bits bases_a_word c.loop-word.left c.min-here.result _ _ _ c.loop-word.bases c.read_row.new.bases _ c.min-here.ensures prefix
    c.in_ok-read_row.ensures.some c.loop-word.invariant.all
    in
    record { few = omega (arith, read.0, c.loop-word.invariant.few); all = read.1 }

pub returns : goal.returns
returns c =
    let words = c.args.words.now in
    let over : drop c.loop-word.word-index words ≡ [] = drop_all c.loop-word.word-index words (omega (arith, c.fits-words, c.loop-word-test.false)) in
    let all : Some (c.loop-word.bases ++ []) ≡ classes_of_words base_bits bases_a_word c.args.count words = rw over at c.loop-word.invariant.all in
    ap Some (sym (append-nil c.loop-word.bases)) ∙ all ∙ sym (bases_at_most c.args.count words c.if-left-gt-MOST.false)
