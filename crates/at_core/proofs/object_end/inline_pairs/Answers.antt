use Rattle.std.proofs.Common.{◌≡◌, ◌∙◌, ap, slice_index}
use Rattle.at_core.specs.Closing.{now_of, dictionary_of}
use Rattle.at_core.specs.HeadSteps.{known_keys, copied_values}
use Rattle.at_core.specs.Passes.{view}
use Rattle.at_core.proofs.Closing.{copy_loaded}
use Rattle.at_core.proofs.ClosingValues.{words_are, inline_words, loaded_map}
use Rattle.at_core.proofs.object_end.inline_pairs.Goals as goal

pub pairs_of-requires : goal.pairs_of-requires
pairs_of-requires c =
    let v = view c.args.pass.now in
    let k = c.load_keys-keys.ensures in
    let w = c.load_values-words.ensures in
    let copy = copy_loaded c.args.pass.now c.load_keys-keys.new.pass c.args.o k.loaded in
    inline_words (dictionary_of (now_of c.args.world.now.limits v) c.args.o) (known_keys v c.args.c) (slice_index c.load_keys-keys.result) (copied_values v c.args.o) c.load_values-words.result
    k.keys k.grown c.requires.values w.long w.cells (λ i lt. w.copied i lt ∙ ap (λ ws. slice_index ws.values i) copy)

pub returns-clause-pairs : goal.returns-clause-pairs
returns-clause-pairs c =
    let v = view c.args.pass.now in
    let k = c.load_keys-keys.ensures in
    let w = c.load_values-words.ensures in
    let copy = copy_loaded c.args.pass.now c.load_keys-keys.new.pass c.args.o k.loaded in
    let copied : slice_index c.load_values-words.result ≡ copied_values v c.args.o =
    words_are (dictionary_of (now_of c.args.world.now.limits v) c.args.o) (known_keys v c.args.c) (slice_index c.load_keys-keys.result) (copied_values v c.args.o) c.load_values-words.result
    k.keys k.grown c.requires.values w.long (λ i lt. w.copied i lt ∙ ap (λ ws. slice_index ws.values i) copy) in
    loaded_map c.word_laws.ensures.positive c.word_laws.ensures.one_each c.args.world.now.limits v c.args.o c.args.c c.load_keys-keys.result c.load_values-words.result c.pairs_of.result
    k.keys k.grown c.requires.values copied c.pairs_of.ensures.rising c.pairs_of.ensures.pairs
