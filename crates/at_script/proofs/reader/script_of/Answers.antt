use Rattle.std.proofs.Common.{◌≡◌, ◌∙◌, ap, length, arith}
use Rattle.at_script.proofs.reader.script_of.Goals as goal

pub invariant_of-result : goal.invariant_of-result
invariant_of-result c =
    let r = c.args.reader in
    let t = r.tables in
    let names : length c.in_ok-owned.field-0.items ≡ length t.names.items = c.in_ok-owned.ensures.count ∙ ap length c.deref.ensures.value in
    let classes : length c.in_ok-owned-2.field-0.items ≡ length t.classes.items = c.in_ok-owned-2.ensures.count ∙ ap length c.deref-2.ensures.value in
    let vars : length c.in_ok-owned-3.field-0.items ≡ length t.vars.items = c.in_ok-owned-3.ensures.count ∙ ap length c.deref-3.ensures.value in
    let funcs : length c.in_ok-owned-4.field-0.items ≡ length t.funcs.items = c.in_ok-owned-4.ensures.count ∙ ap length c.deref-4.ensures.value in
    let most_names = t.most_names in
    let most_vars = t.few in
    let most_classes = c.requires.classes in
    let most_funcs = c.requires.functions in
    (r.least, r.most, r.few, omega arith, omega arith, omega arith, omega arith)
