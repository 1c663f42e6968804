use Rattle.std.proofs.Common.{◌≡◌, sym, ap, ◌∙◌, subst}
use Rattle.ttx_certificate.specs.Certificates.{certificate_of}
use Rattle.ttx_witness.specs.sent.ItemTransmissions.{sent_in}
use Rattle.ttx_counter.specs.Claims.{claimed_slots, claimed_pages, claimed_numbers, own_page}
use Rattle.ttx_counter.proofs.SearchAnswers.{named_for, needed_told}
use Rattle.ttx_counter.proofs.refutation.start_for.Goals as goal

pub starving_start-requires-clause-named : goal.starving_start-requires-clause-named
starving_start-requires-clause-named c =
    let p = c.args.page.now in
    let claim = p.claim.now in
    let found = certificate_of claim.found.now in
    named_for (claimed_slots claim) (claimed_pages claim) (claimed_numbers claim) found c.requires.prepared.named
    p.index (own_page p) p.at c.args.item.now c.requires.item
    (sym c.needed.ensures ∙ c.if-not-needed.false) c.starts-starts.result.now
    (c.starts-starts.ensures ∙ ap (λ x. found.starts x c.args.item.now) c.id.ensures)

pub starving_start-requires-clause-sent : goal.starving_start-requires-clause-sent
starving_start-requires-clause-sent c =
    let p = c.args.page.now in
    let claim = p.claim.now in
    subst (λ l. c.sent-sent.result.now ≡ sent_in (claimed_slots claim) (own_page p).id l c.args.item.now) c.requires.prepared.lines
    (c.sent-sent.ensures.listed (claimed_slots claim) (claimed_pages claim) claim.survey.now.lines (own_page p) claim.survey.now.sent p.at)

pub returns : goal.returns
returns c =
    let p = c.args.page.now in
    needed_told (claimed_slots p.claim.now) (claimed_pages p.claim.now) (claimed_numbers p.claim.now) (own_page p) c.args.item.now
    (sym c.needed.ensures ∙ c.if-not-needed.false) c.starving_start.result c.starving_start.ensures
