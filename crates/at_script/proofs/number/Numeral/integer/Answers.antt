use Rattle.std.proofs.Common.{◌∙◌, sym, subst, ℕ, List}
use Rattle.std.specs.Str.Parse.{ParsesSigned}
use mir.Syntax.{w32}
use Rattle.at_script.proofs.Numbers.{parsed, read_as, is_read}
use Rattle.at_script.proofs.number.Numeral.integer.Goals as goal

pub returns-in_err-text : goal.returns-in_err-text
returns-in_err-text c =
    absurd (is_read c.args.self.now.word.now c.from_utf8.result _ c.args.self.now.form c.from_utf8.ensures.cases (sym c.ok.ensures.value ∙ c.in_err-text.was))

pub returns : goal.returns
returns c =
    let word = c.args.self.now.word.now in
    let text = read_as word c.from_utf8.result _ c.in_ok-text.text c.from_utf8.ensures.cases (sym c.ok.ensures.value ∙ c.in_ok-text.was) in
    let P : List ℕ → Type 0 = λ bytes. ParsesSigned w32 10 bytes c.parse.result in
    c.ok-2.ensures.value ∙ parsed word c.parse.result c.args.self.now.form (subst P text c.parse.ensures.value.0)
