use Rattle.std.proofs.Common.{◌≡◌, ◌∙◌, ap, subst, refl, drop, IfOk}
use Rattle.std.specs.Vec.Iter.{into_iter_items}
use Rattle.std.proofs.lemmas.Result.{IfOk-weaker}
use Rattle.std.proofs.lemmas.Iterator.Adapters.{YieldsList-from_vec}
use Rattle.std.proofs.lemmas.Iterator.{items_from_collect}
use Rattle.attrs.proofs.words.given_words.Goals as goal

-- what was collected is what the environment gave
pub returns-in_ok-all-in-Ok-clause-after_name : goal.returns-in_ok-all-in-Ok-clause-after_name
returns-in_ok-all-in-Ok-clause-after_name c =
    let given = into_iter_items c.in-Ok.all in
    let collected = items_from_collect c.collect.result c.collect.ensures.ran
    (YieldsList-from_vec {s = c.in-Ok.all} given refl c.in-Ok.all.rest.ok.0) in
    let same : c.in_ok-all-in-Ok.all.items ≡ given =
    subst (λ r. IfOk r (λ w. w.items ≡ given)) c.in_ok-all-in-Ok.was collected in
    rw c.in-Ok.is (IfOk-weaker c.words_from.result (λ words. words.items ≡ drop 1 c.in_ok-all-in-Ok.all.items)
    (λ words. words.items ≡ drop 1 given) (λ words is. is ∙ ap (drop 1) same) c.words_from.ensures.after_name)
