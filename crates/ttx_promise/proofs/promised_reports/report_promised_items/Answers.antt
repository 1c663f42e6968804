use Rattle.std.proofs.Common.{ℕ, List, ◌++◌, map, ap, subst, ◌∙◌}
use Rattle.std.specs.List.{list_any}
use Rattle.ttx_cycle.specs.Cycles.{slots_of}
use Rattle.ttx_page.specs.Pages.{Page}
use Rattle.ttx_source.specs.PromiseViews.{promise_view}
use Rattle.ttx_source.specs.Services.{authored_ids, pages_of}
use Rattle.ttx_wait.specs.Reports.{deadline_of}
use Rattle.ttx_witness.specs.laws.WaitLaws.{greatest}
use Rattle.ttx_witness.specs.wait_times.ItemWaits.{AreItemWaits}
use Rattle.ttx_witness.specs.wait_times.PageWaits.{AreWaits}
use Rattle.ttx_witness.specs.declared.wait_times.wait.ItemWait.{ItemWait}
use Rattle.ttx_promise.specs.OtherPages.{other_pages}
use Rattle.ttx_promise.specs.PromisedLines.{end_text, items_text}
use Rattle.ttx_promise.specs.PromisedWaits.{is_late, with_promises}
use Rattle.ttx_promise.proofs.KeptPromises.{distinct_ids, same_ids}
use Rattle.ttx_promise.proofs.promised_reports.report_promised_items.Goals as goal

pub waits-requires-clause-distinct : goal.waits-requires-clause-distinct
waits-requires-clause-distinct c =
    distinct_ids c.pages-pages.result.now c.args.service.now.pages c.pages-pages.ensures.value c.pages-pages.ensures.ranges.distinct

pub item_waits-requires-clause-distinct : goal.item_waits-requires-clause-distinct
item_waits-requires-clause-distinct c =
    distinct_ids c.pages-pages.result.now c.args.service.now.pages c.pages-pages.ensures.value c.pages-pages.ensures.ranges.distinct

pub returns : goal.returns
returns c =
    let promises = map promise_view c.args.promises.now in
    let cycle = slots_of c.args.cycle.now in
    let service = c.args.service.now in
    let bad = c.bad_slot-bad.result in
    let told = c.in_ok-told.told.items in
    let items : List (List ItemWait) = map (λ told. told.items) c.in_ok-items.items.items in
    let waits : AreWaits cycle (pages_of service) c.args.class c.args.repeat service.lines told =
    subst (λ (n : ℕ). AreWaits cycle (pages_of service) c.args.class c.args.repeat n told) c.lines.ensures.value
    (subst (λ (ps : List Page). AreWaits cycle ps c.args.class c.args.repeat c.lines.result told) c.pages-pages.ensures.value
    c.in_ok-told.ensures) in
    let item_waits : AreItemWaits cycle (pages_of service) c.args.class c.args.repeat service.lines items =
    subst (λ (n : ℕ). AreItemWaits cycle (pages_of service) c.args.class c.args.repeat n items) c.lines-2.ensures.value
    (subst (λ (ps : List Page). AreItemWaits cycle ps c.args.class c.args.repeat c.lines-2.result items) c.pages-pages.ensures.value
    c.in_ok-items.ensures) in
    let all = c.in-Ok.ensures ∙ ap (with_promises 0 promises) c.deref.ensures.value in
    let most = c.greatest.ensures ∙ ap greatest c.deref-4.ensures.value in
    let ids = same_ids c.pages-pages.result.now service.pages c.pages-pages.ensures.value in
    let others = c.in-Ok-other_pages.ensures ∙ ap (other_pages c.slots.result.now) ids
    ∙ ap (λ slots. other_pages slots (authored_ids service.pages)) c.slots.ensures.slots in
    let same_items = ap (map (λ told. told.items)) c.deref-3.ensures.value in
    let lines = c.in-Ok-item_lines.ensures
    ∙ ap (λ xs. items_text xs (map (λ told. told.items) c.deref-3.result.now)) (c.deref-2.ensures.value ∙ all)
    ∙ ap (items_text (with_promises 0 promises told)) same_items in
    record {
      bad = bad;
      first_bad = c.bad_slot-bad.ensures;
      told = told;
      waits = waits;
      items = items;
      item_waits = item_waits;
      text_is = c.in-Ok-push_end.ensures
          ∙ ap (λ text. text ++ end_text bad c.greatest.result c.deref-5.result.now) lines
          ∙ ap (λ deadline. items_text (with_promises 0 promises told) items ++ end_text bad deadline c.deref-5.result.now) most
          ∙ ap (λ ids. items_text (with_promises 0 promises told) items ++ end_text bad (greatest told) ids) (c.deref-5.ensures.value ∙ others);
      deadline_is = c.deadline_of.ensures ∙ ap (λ ts. deadline_of bad (greatest ts)) c.deref-6.ensures.value;
      late_is = c.some_late.ensures ∙ ap (list_any is_late) (c.deref-7.ensures.value ∙ all);
    }
