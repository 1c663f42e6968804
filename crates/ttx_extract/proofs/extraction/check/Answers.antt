use Rattle.ttx_cycle.specs.Cycles.{slots_of}
use Rattle.ttx_source.specs.Services.{pages_of}
use Rattle.ttx_extract.proofs.SentDrafts.{draft_ids}
use Rattle.ttx_extract.proofs.Blaming.{blamed}
use Rattle.ttx_extract.proofs.extraction.check.Goals as goal

pub returns-in-Some : goal.returns-in-Some
returns-in-Some c = λ lines same sent.
    let slots = slots_of c.args.cycle.now in
    let service = c.args.service.now in
    blamed slots lines c.in-Some.fault (c.in-Some.ensures lines (sent (pages_of service) (draft_ids slots lines service same)) c.in-Ok.ensures
    (c.is_sent.ensures lines same))

pub returns : goal.returns
returns c = λ lines same sent.
    let slots = slots_of c.args.cycle.now in
    let service = c.args.service.now in
    let is = c.is_sent.ensures lines same in
    record { sent = is; steady = c.in-None.ensures lines (sent (pages_of service) (draft_ids slots lines service same)) c.in-Ok.ensures is }
