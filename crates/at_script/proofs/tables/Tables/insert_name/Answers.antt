use Rattle.std.proofs.Common.{◌≡◌, ◌∙◌, ap, sym, map, length, Some, ℕ, List, ◌∷◌, ◌++◌, []}
use Rattle.std.proofs.lemmas.List.{length-map}
use Rattle.at_script.proofs.Numbered.{with_name, now_added}
use Rattle.at_script.specs.declared.meaning.Meaning.{Meaning}
use Rattle.at_script.specs.Meanings.{now_of, meaning_among}
use Rattle.at_script.proofs.tables.Tables.insert_name.Goals as goal

pub invariant_of-self-2-clause-agrees : goal.invariant_of-self-2-clause-agrees
invariant_of-self-2-clause-agrees c = λ word.
    let t = c.args.self.now in
    let classes = map now_of t.classes.items in
    let funcs = map now_of t.funcs.items in
    let vars = map now_of t.vars.items in
    let names = map now_of t.names.items in
    let text = c.args.text.now in
    let meant : c.args.meaning ≡ meaning_among classes funcs vars names text = c.requires.is in
    let count : c.args.number ≡ length names = c.requires.next ∙ sym (length-map t.names.items now_of) in
    let absent = sym (ap (λ (m : Meaning). m.name) meant) ∙ c.requires.absent in
    let is = ap (λ (m : Meaning). record m { name = Some c.args.number }) meant ∙ ap (λ (n : ℕ). record (meaning_among classes funcs vars names text) { name = Some n }) count in
    let added = now_added t.names.items c.push_reserved.new.self.items c.args.text (c.push_reserved.ensures.items ∙ ap (λ l. l ++ c.args.text ∷ []) c.reserve.ensures.items) in
    with_name t.meanings c.insert.new.self text _ c.in_ok-insert.ensures.updates classes funcs vars names t.agrees is absent word
    ∙ ap (λ (ns : List (List ℕ)). meaning_among classes funcs vars ns word) (sym added)
