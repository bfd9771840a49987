use Rattle.std.proofs.Common.{◌∙◌, sym, ◌+◌, arith, length-take, length-drop, append-nil, take-append-drop}
use Rattle.std.proofs.lemmas.List.{take_rest}
use Rattle.at_script.proofs.LineLemmas.{first_line_at, first_line_whole, found_within}
use Rattle.at_script.proofs.lines.first_line.Goals as goal

pub returns-in-Some : goal.returns-in-Some
returns-in-Some c =
    let there = sym c.place_of.ensures ∙ c.in-Some.is in
    let within = found_within _ c.args.text.now c.in-Some.i there in
    record {
      whole = rw take_rest (sym (take-append-drop (c.in-Some.i + 1) c.args.text.now));
      lines = rw take_rest (first_line_at c.args.text.now c.in-Some.i there);
      more = rw length-take (omega arith);
      same = rw (take_rest, length-take, length-drop) (omega arith);
    }

pub returns-in-None : goal.returns-in-None
returns-in-None c = record {
  whole = sym (append-nil c.args.text.now);
  lines = first_line_whole c.args.text.now c.requires (sym c.place_of.ensures ∙ c.in-None.is);
  more = c.requires;
  same = omega arith;
}
