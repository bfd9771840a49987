use Rattle.std.proofs.Common.{◌≡◌, ◌∙◌, ap, sym, map, length, Some, is_some, ℕ, List, ◌∷◌, ◌++◌, [], rules}
use Rattle.std.proofs.lemmas.List.{length-map}
use Rattle.at_script.proofs.Numbered.{with_class, unmapped, now_added}
use Rattle.at_name.specs.Texts.{place_of}
use Rattle.at_script.specs.declared.meaning.Meaning.{Meaning}
use Rattle.at_script.specs.Meanings.{now_of, class_number, meaning_among}
use Rattle.at_script.proofs.tables.Tables.declare_class.Goals as goal

pub invariant_of-self-2-clause-agrees : goal.invariant_of-self-2-clause-agrees
invariant_of-self-2-clause-agrees c = λ word.
    let t = c.args.self.now in
    let classes = map now_of t.classes.items in
    let funcs = map now_of t.funcs.items in
    let vars = map now_of t.vars.items in
    let names = map now_of t.names.items in
    let text = c.args.name.now in
    let meant : c.meaning-meaning.result ≡ meaning_among classes funcs vars names text = c.meaning-meaning.ensures in
    let long : c.len.result ≡ length t.classes.items = search rules in
    let count = long ∙ sym (length-map t.classes.items now_of) in
    let absent = unmapped class_number (place_of text classes) (sym (ap (λ (m : Meaning). is_some m.class) meant) ∙ (sym c.is_some.ensures ∙ c.if-is_some.false)) in
    let capped = c.class_number.ensures ∙ ap class_number count in
    let is = ap (λ (m : Meaning). record m { class = Some c.class_number.result }) meant ∙ ap (λ (n : ℕ). record (meaning_among classes funcs vars names text) { class = Some n }) capped in
    let added = now_added t.classes.items c.push_reserved.new.self.items c.args.name (c.push_reserved.ensures.items ∙ ap (λ l. l ++ c.args.name ∷ []) c.reserve.ensures.items) in
    with_class t.meanings c.insert.new.self text _ c.in_ok-insert.ensures.updates classes funcs vars names t.agrees is absent word
    ∙ ap (λ (cs : List (List ℕ)). meaning_among cs funcs vars names word) (sym added)
