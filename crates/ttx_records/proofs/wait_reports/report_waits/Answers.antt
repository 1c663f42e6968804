use Rattle.std.proofs.Common.{ℕ, List, map, ap, subst, ◌∙◌}
use Rattle.std.specs.List.{list_any}
use Rattle.ttx_cycle.specs.Cycles.{slots_of}
use Rattle.ttx_page.specs.Pages.{Page}
use Rattle.ttx_source.specs.PromiseViews.{promise_view}
use Rattle.ttx_source.specs.Services.{pages_of}
use Rattle.ttx_wait.specs.Reports.{deadline_of}
use Rattle.ttx_witness.specs.laws.WaitLaws.{greatest}
use Rattle.ttx_witness.specs.wait_times.PageWaits.{AreWaits}
use Rattle.ttx_promise.specs.PromisedWaits.{is_late, with_promises}
use Rattle.ttx_records.specs.Waits.{wait_records}
use Rattle.ttx_certify.proofs.AuthoredIds.{distinct_ids}
use Rattle.ttx_records.proofs.wait_reports.report_waits.Goals as goal

pub waits-requires-clause-distinct : goal.waits-requires-clause-distinct
waits-requires-clause-distinct c =
    distinct_ids c.pages-pages.result.now c.args.service.now.pages c.pages-pages.ensures.value c.pages-pages.ensures.ranges.distinct

pub returns : goal.returns
returns c =
    let promises = map promise_view c.args.promises.now in
    let cycle = slots_of c.args.cycle.now in
    let service = c.args.service.now in
    let bad = c.bad_slot-bad.result in
    let told = c.in_ok-told.told.items in
    let waits : AreWaits cycle (pages_of service) c.args.class c.args.repeat service.lines told =
    subst (λ (n : ℕ). AreWaits cycle (pages_of service) c.args.class c.args.repeat n told) c.lines.ensures.value
    (subst (λ (ps : List Page). AreWaits cycle ps c.args.class c.args.repeat c.lines.result told) c.pages-pages.ensures.value
    c.in_ok-told.ensures) in
    let all = c.in-Ok.ensures ∙ ap (with_promises 0 promises) c.deref.ensures.value in
    let most = c.greatest.ensures ∙ ap greatest c.deref-3.ensures.value in
    record {
      bad = bad;
      first_bad = c.bad_slot-bad.ensures;
      told = told;
      waits = waits;
      text_is = c.in-Ok-wait_records.ensures
          ∙ ap (λ xs. wait_records xs bad c.greatest.result c.deref-4.result.now) (c.deref-2.ensures.value ∙ all)
          ∙ ap (λ deadline. wait_records (with_promises 0 promises told) bad deadline c.deref-4.result.now) most
          ∙ ap (wait_records (with_promises 0 promises told) bad (greatest told)) (c.deref-4.ensures.value ∙ c.in-Ok-absent_pages.ensures);
      deadline_is = c.deadline_of.ensures ∙ ap (λ ts. deadline_of bad (greatest ts)) c.deref-5.ensures.value;
      late_is = c.some_late.ensures ∙ ap (list_any is_late) (c.deref-6.ensures.value ∙ all);
    }
