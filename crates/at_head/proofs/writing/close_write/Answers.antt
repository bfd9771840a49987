use Rattle.std.proofs.Common.{◌≡◌, ◌+◌, ℕ, suc, sym, ap, ◌∙◌, subst, arith}
use Rattle.at_view.specs.declared.view.View.{View}
use Rattle.at_core.specs.Heads.{sequence_of}
use Rattle.at_core.specs.HeadSteps.{head_loaded, MayClose}
use Rattle.at_core.specs.Opened.{opening_of}
use Rattle.at_core.specs.Passes.{view}
use Rattle.at_core.specs.Steps.{copied_heads}
use Rattle.at_head.specs.HeadWords.{closed_with, word_of}
use Rattle.at_head.proofs.writing.close_write.Goals as goal

pub close_head-requires-clause-may : goal.close_head-requires-clause-may
close_head-requires-clause-may c =
    let opened = opening_of c.args.world.now.limits in
    let v = view c.args.pass.now in
    let o = c.args.o in
    let may = c.requires.may in
    let t = c.load_head.ensures.loaded in
    let found : sequence_of (copied_heads v o) ≡ c.of_word-open.result.sequence = ap sequence_of (sym (t.3.copy may.held)) ∙ c.of_word-open.ensures.sequence in
    let next : c.of_word-open.result.sequence + 1 ≡ suc (sequence_of (copied_heads v o)) = omega (arith, found) in
    let word = word_of (closed_with v o c.args.class c.args.layout c.args.row) in
    let is : c.word.result ≡ word = c.word.ensures.word ∙ ap (λ (n : ℕ). word_of (record { sequence = n; class = c.args.class; layout = c.args.layout; row = c.args.row })) next in
    let loaded : MayClose opened (head_loaded v o t.0 c.load_head.result) o word = record { held = may.held; is = may.is; whole = may.whole; next = may.next; made = may.made; says = may.says; stays = may.stays; named = may.named } in
    subst (λ (n : ℕ). MayClose opened (view c.load_head.new.pass) o n) (sym is) (subst (λ (w : View). MayClose opened w o word) (sym t.2) loaded)
