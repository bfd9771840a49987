use Rattle.std.proofs.Common.{rules}
use Rattle.at_text.proofs.Printing.{then_prints, printed_on_empty}
use Rattle.at_text.proofs.transcript.print.Goals as goal

pub returns-in_err-finish-clause-prefix : goal.returns-in_err-finish-clause-prefix
returns-in_err-finish-clause-prefix g c = λ fault.
    let all = then_prints (then_prints c.put_script.ensures c.put_lines.ensures) c.put_final.ensures in
    let start = c.new-pen.ensures in
    let end = c.into_page-out.ensures in
    let prefix = c.in_err-finish.ensures.prefix _ _ (printed_on_empty _ _ _ _ start.written start.page c.in_ok-page.ensures end.written end.page all) in
    search rules

pub returns-clause-text : goal.returns-clause-text
returns-clause-text g c =
    let all = then_prints (then_prints c.put_script.ensures c.put_lines.ensures) c.put_final.ensures in
    let start = c.new-pen.ensures in
    let end = c.into_page-out.ensures in
    let whole = c.in_ok-finish.ensures.text _ _ (printed_on_empty _ _ _ _ start.written start.page c.in_ok-page.ensures end.written end.page all) in
    search rules
