use Rattle.std.proofs.Common.{◌≡◌, ◌∙◌, ap, sym, ℕ, map}
use Rattle.std.specs.List.{flat_map}
use Rattle.std.proofs.lemmas.List.Folds.{flat_map-map}
use Rattle.at_value.specs.declared.value.Value.{Value}
use Rattle.at_text.specs.Last.{pair_text, by_bytes}
use Rattle.at_text.specs.Order.{pair_of}
use Rattle.at_text.proofs.ByBytes.{by_bytes_from_keys}
use Rattle.at_text.proofs.Printing.{prints_same, then_item, all_items}
use Rattle.at_text.proofs.last.put_own.Goals as goal

pub loop-entry-preserved : goal.loop-entry-preserved
loop-entry-preserved g c =
    then_item (λ entry. pair_text c.args.names.now (pair_of entry)) c.entries-entry-items.result.now c.loop-entry.entry-index c.entry-item.result c.loop-entry-test.true c.entry-item.is c.loop-entry.invariant c.put_pair.ensures

pub returns-clause-text : goal.returns-clause-text
returns-clause-text g c =
    let s = c.args.names.now in
    let entries = c.sort.new.self.entries in
    let f : ℕ × ℕ × Value → _ = λ entry. pair_text s (pair_of entry) in
    let all = all_items f c.entries-entry-items.result.now c.loop-entry.entry-index c.loop-entry-test.false c.loop-entry.invariant in
    let sorted : map pair_of entries ≡ by_bytes s c.args.own.now =
    by_bytes_from_keys s c.args.order.now.keys c.args.own.now (map pair_of entries) c.requires c.sort.ensures.rising c.sort.ensures.range c.sort.ensures.same c.sort.ensures.sorted in
    prints_same (ap (flat_map f) c.entries-entry-items.ensures ∙ sym (flat_map-map (pair_text s) pair_of entries) ∙ ap (flat_map (pair_text s)) sorted) all
