use Rattle.std.proofs.Common.{◌∙◌, ap, sym}
use Rattle.at_source.specs.Page.{Held}
use Rattle.at_source.proofs.Printing.{then_writes, sent_past}
use Rattle.at_source.proofs.page.Page.write_on.Goals as goal

pub returns-else-bytes-le-PAGE_LEN-clause-text : goal.returns-else-bytes-le-PAGE_LEN-clause-text
returns-else-bytes-le-PAGE_LEN-clause-text g c =
    let held = c.self.view_is in
    let failed = ap (λ (p : Held). p.failed) (sym held) ∙ c.if-self.false in
    let none = ap (λ (p : Held). p.bytes) held ∙ c.send_held.ensures.empty in
    let sent = sent_past _ _ _ _ _ c.send.result failed c.send_held.ensures.empty none c.is_err-self-inside.ensures.value c.send.ensures.whole c.send.ensures.part in
    then_writes c.send_held.ensures.text sent
