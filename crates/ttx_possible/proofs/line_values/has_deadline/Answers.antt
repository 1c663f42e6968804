use Rattle.std.proofs.Common.{map, IsTrue, ◌↔◌, sym, subst}
use Rattle.ttx_cycle.specs.Cycles.{slots_of}
use Rattle.ttx_page.specs.Views.{page_of}
use Rattle.ttx_certificate.specs.Certificates.{certificate_of}
use Rattle.ttx_possible.specs.Values.{HasDeadline}
use Rattle.ttx_possible.proofs.FoundDeadlines.{told}
use Rattle.ttx_possible.proofs.line_values.has_deadline.Goals as goal

pub returns : goal.returns
returns c =
    let found = c.in_ok-found.found in
    let slots = slots_of c.args.cycle.now in
    let pages = map page_of c.args.pages.now in
    subst (λ b. IsTrue b ↔ HasDeadline slots pages c.args.lines) (sym c.is_some.ensures)
    (told slots pages c.args.lines (certificate_of found.certificate)
    (c.certificates_keep_their_rules.ensures found.certificate).1 found.deadline c.in_ok-found.ensures)
