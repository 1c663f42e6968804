use Rattle.std.proofs.Common.{◌<◌, length, arith}
use Rattle.std.proofs.lemmas.List.{length-map}
use Rattle.std.proofs.lemmas.Option.{slice_get-get_or, slice_get_within}
use Rattle.ttx_page.specs.Views.{page_of}
use Rattle.ttx_counter.specs.Claims.{claimed_pages, own_page}
use Rattle.ttx_counter.specs.declared.claim.ClaimedPage.{ClaimedPage}
use Rattle.ttx_counter.proofs.claim.ClaimedPage.fault.Goals as goal

within : (p : ClaimedPage) → p.index < length p.claim.now.faults.now
within p =
    let lt = slice_get_within (claimed_pages p.claim.now) p.index (own_page p) p.at in
    let map = length-map p.claim.now.survey.now.pages.now page_of in
    let all = p.claim.now.judged in
    omega arith

pub bounds-self-self : goal.bounds-self-self
bounds-self-self c = within c.args.self.now

pub returns : goal.returns
returns c =
    let p = c.args.self.now in
    c.requires.faults p.index (own_page p) _ p.at (slice_get-get_or p.claim.now.faults.now p.index _ (within p))
