use Rattle.std.proofs.Common.{◌≡◌, ◌∙◌, ap, sym, subst, [], length, Ok, Some, arith}
use Rattle.std.proofs.lemmas.List.{length-map}
use Rattle.at_script.specs.Faults.{IsFaultAt}
use Rattle.at_script.specs.Lines.{lines_of}
use Rattle.at_script.specs.Script.{first_offence}
use Rattle.at_script.specs.Meanings.{now_of}
use Rattle.at_script.specs.Texts.{Texts}
use Rattle.at_script.specs.State.{State, before_all}
use Rattle.at_script.specs.LineReading.{state_of, lines_read, left_read, IfToldRead}
use Rattle.at_script.proofs.LineIs.{accepted, is_script, few_declared, fault_told, fault_of_result}
use Rattle.at_script.proofs.reader.read.Goals as goal

pub script_of-requires-clause-classes : goal.script_of-requires-clause-classes
script_of-requires-clause-classes c =
    let text = c.args.bytes.now in
    let opening : state_of c.new-reader.result ≡ before_all (lines_of text) = c.new-reader.ensures ∙ ap (λ (t : Texts). record (before_all []) { texts = t }) c.in_ok-tables.ensures in
    let told : Ok (state_of c.read_lines.new.self) ≡ lines_read 1 (before_all (lines_of text)) (lines_of text) = c.in_ok-read_lines.ensures ∙ ap (λ (s : State). lines_read 1 s (lines_of text)) opening in
    let a = accepted text (state_of c.read_lines.new.self) told in
    let few = (few_declared text a.0).0 in
    let same = ap (λ (s : State). length s.texts.classes) a.1 in
    let long = length-map c.read_lines.new.self.tables.classes.items now_of in
    omega arith

pub script_of-requires-clause-functions : goal.script_of-requires-clause-functions
script_of-requires-clause-functions c =
    let text = c.args.bytes.now in
    let opening : state_of c.new-reader.result ≡ before_all (lines_of text) = c.new-reader.ensures ∙ ap (λ (t : Texts). record (before_all []) { texts = t }) c.in_ok-tables.ensures in
    let told : Ok (state_of c.read_lines.new.self) ≡ lines_read 1 (before_all (lines_of text)) (lines_of text) = c.in_ok-read_lines.ensures ∙ ap (λ (s : State). lines_read 1 s (lines_of text)) opening in
    let a = accepted text (state_of c.read_lines.new.self) told in
    let few = (few_declared text a.0).1 in
    let same = ap (λ (s : State). length s.texts.funcs) a.1 in
    let long = length-map c.read_lines.new.self.tables.funcs.items now_of in
    omega arith

pub returns-clause-accepted : goal.returns-clause-accepted
returns-clause-accepted c =
    let text = c.args.bytes.now in
    let opening : state_of c.new-reader.result ≡ before_all (lines_of text) = c.new-reader.ensures ∙ ap (λ (t : Texts). record (before_all []) { texts = t }) c.in_ok-tables.ensures in
    let told : Ok (state_of c.read_lines.new.self) ≡ lines_read 1 (before_all (lines_of text)) (lines_of text) = c.in_ok-read_lines.ensures ∙ ap (λ (s : State). lines_read 1 s (lines_of text)) opening in
    let a = accepted text (state_of c.read_lines.new.self) told in
    is_script text (state_of c.read_lines.new.self) a ∙ ap (λ p. Some p) (sym c.in_ok-script_of.ensures)

pub returns-in_err-read_lines-clause-refused : goal.returns-in_err-read_lines-clause-refused
returns-in_err-read_lines-clause-refused c =
    let text = c.args.bytes.now in
    let opening : state_of c.new-reader.result ≡ before_all (lines_of text) = c.new-reader.ensures ∙ ap (λ (t : Texts). record (before_all []) { texts = t }) c.in_ok-tables.ensures in
    let told = subst (λ (s : State). IfToldRead c.read_lines.result (left_read c.read_lines.result (state_of c.read_lines.new.self) ≡ lines_read 1 s (lines_of text))) opening c.read_lines.ensures in
    fault_of_result c.from_residual-in_err-read_lines.result c.in_err-read_lines.field-0.0 (IsFaultAt (first_offence text)) c.from_residual-in_err-read_lines.ensures.1
    (fault_told text c.read_lines.result (state_of c.read_lines.new.self) c.in_err-read_lines.field-0.0 c.in_err-read_lines.was told)
