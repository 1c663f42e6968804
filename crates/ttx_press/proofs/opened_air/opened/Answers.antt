use Rattle.std.proofs.Common.{map, refl}
use Rattle.ttx_air.specs.Newsrooms.{candidate_of}
use Rattle.ttx_air.specs.declared.candidate.Candidate.{Candidate}
use Rattle.ttx_playout.specs.declared.edition.Edition.{Edition}
use Rattle.ttx_certificate.specs.Certificates.{fields_of}
use Rattle.ttx_cycle.specs.Cycles.{slots_of}
use Rattle.ttx_source.specs.PromiseViews.{promise_view}
use Rattle.ttx_press.specs.Shares.{gap_share}
use Rattle.ttx_press.proofs.SharedHouses.{planned_as, opening_as}
use Rattle.ttx_press.proofs.opened_air.opened.Goals as goal

pub returns-in-Ok-clause-opening : goal.returns-in-Ok-clause-opening
returns-in-Ok-clause-opening c =
    let demand = c.args.demand in
    let fitted = c.in_ok-house.field-0 in
    let house = fitted.house in
    let service = c.in_ok-script.script.service in
    let promises = map promise_view c.in_ok-script.script.promises.items in
    let planned = c.in_ok-planned.planned in
    let fit = c.in_ok-house.ensures.fit in
    let shared = fit.shared in
    let plan = planned_as demand c.draft.result house planned.service.lines (gap_share demand.within shared.least shared.gap) service promises
    planned.service (slots_of planned.cycle) c.draft.ensures.spread c.draft.ensures.viewers shared.house c.in_ok-planned.ensures.plan in
    let edition : Edition = record { cycle = planned.cycle; service = planned.service; certificate = fitted.certificate } in
    let first : Candidate = record { edition = edition; mark = c.in-Ok.mark } in
    opening_as demand c.args.text.now house (candidate_of first) service promises planned.service
    (fields_of fitted.certificate) c.in_ok-script.ensures.script plan refl refl c.in-Ok.ensures fit
