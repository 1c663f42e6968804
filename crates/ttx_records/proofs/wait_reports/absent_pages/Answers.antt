use Rattle.std.proofs.Common.{rules, ◌≡◌, ◌∙◌, IfOk, List, slice_get, Some, sym, ap, subst}
use Rattle.ttx_cycle.specs.Cycles.{slots_of}
use Rattle.ttx_header.specs.Ids.{Id}
use Rattle.ttx_promise.specs.OtherPages.{other_pages}
use Rattle.ttx_source.specs.Services.{authored_ids}
use Rattle.ttx_records.proofs.AbsentPages.{some_absent, same_ids}
use Rattle.ttx_records.proofs.wait_reports.absent_pages.Goals as goal

pub returns-in-Some : goal.returns-in-Some
returns-in-Some c =
    let service = c.args.service.now in
    let ids = same_ids c.pages.result.now service.pages c.pages.ensures.value in
    let others = ap (other_pages c.slots.result.now) ids ∙ ap (λ slots. other_pages slots (authored_ids service.pages)) c.slots.ensures.slots in
    let first : slice_get c.args.promises.now 0 ≡ Some c.in-Some.field-0.now = search rules in
    subst (λ (xs : List Id). IfOk c.other_pages.result (λ pages. pages.items ≡ xs))
    (others ∙ sym (some_absent (slots_of c.args.cycle.now) service c.args.promises.now c.in-Some.field-0.now first)) c.other_pages.ensures
