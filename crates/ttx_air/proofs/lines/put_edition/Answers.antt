use Rattle.std.proofs.Common.{sym, ap, ◌∙◌, length}
use Rattle.std.proofs.lemmas.List.{length-map}
use Rattle.std.specs.Fmt.{decimal}
use Rattle.ttx_air.specs.LogLines.{pages_text, deadline_text}
use Rattle.ttx_air.proofs.AddedLines.{adds_both, adds_same}
use Rattle.ttx_air.proofs.lines.put_edition.Goals as goal

pub returns : goal.returns
returns g c =
    let pages = adds_same (ap pages_text (c.pages.ensures.count ∙ sym (length-map c.args.first.now.service.pages (λ p. p.page)))) c.put_pages.ensures in
    let deadline = adds_same (ap deadline_text c.deadline.ensures) c.put_deadline.ensures in
    let slots = adds_same (ap (λ s. decimal (length s)) c.slots.ensures.slots) c.put_number.ensures in
    adds_both (adds_both (adds_both (adds_both pages deadline) c.put.ensures) slots) c.put-2.ensures
