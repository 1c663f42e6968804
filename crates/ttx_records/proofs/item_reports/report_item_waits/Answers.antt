use Rattle.std.proofs.Common.{ℕ, List, map, ap, subst, ◌∙◌}
use Rattle.ttx_cycle.specs.Cycles.{slots_of}
use Rattle.ttx_page.specs.Pages.{Page}
use Rattle.ttx_source.specs.Services.{pages_of}
use Rattle.ttx_wait.specs.Reports.{deadline_of}
use Rattle.ttx_witness.specs.laws.WaitLaws.{greatest}
use Rattle.ttx_witness.specs.wait_times.ItemWaits.{AreItemWaits}
use Rattle.ttx_witness.specs.wait_times.PageWaits.{AreWaits}
use Rattle.ttx_certify.proofs.AuthoredIds.{distinct_ids}
use Rattle.ttx_records.specs.ItemWaits.{item_wait_records}
use Rattle.ttx_records.proofs.item_reports.report_item_waits.Goals as goal

pub waits-requires-clause-distinct : goal.waits-requires-clause-distinct
waits-requires-clause-distinct c =
    distinct_ids c.pages-pages.result.now c.args.service.now.pages c.pages-pages.ensures.value c.pages-pages.ensures.ranges.distinct

pub item_waits-requires-clause-distinct : goal.item_waits-requires-clause-distinct
item_waits-requires-clause-distinct c =
    distinct_ids c.pages-pages.result.now c.args.service.now.pages c.pages-pages.ensures.value c.pages-pages.ensures.ranges.distinct

pub returns : goal.returns
returns c =
    let cycle = slots_of c.args.cycle.now in
    let service = c.args.service.now in
    let bad = c.bad_slot-bad.result in
    let told = c.in_ok-told.told.items in
    let items = map (λ told. told.items) c.in_ok-items.items.items in
    let waits : AreWaits cycle (pages_of service) c.args.class c.args.repeat service.lines told =
    subst (λ (n : ℕ). AreWaits cycle (pages_of service) c.args.class c.args.repeat n told) c.lines-lines.ensures.value
    (subst (λ (ps : List Page). AreWaits cycle ps c.args.class c.args.repeat c.lines-lines.result told) c.pages-pages.ensures.value
    c.in_ok-told.ensures) in
    let of_items : AreItemWaits cycle (pages_of service) c.args.class c.args.repeat service.lines items =
    subst (λ (n : ℕ). AreItemWaits cycle (pages_of service) c.args.class c.args.repeat n items) c.lines-lines.ensures.value
    (subst (λ (ps : List Page). AreItemWaits cycle ps c.args.class c.args.repeat c.lines-lines.result items) c.pages-pages.ensures.value
    c.in_ok-items.ensures) in
    record {
      bad = bad;
      first_bad = c.bad_slot-bad.ensures;
      told = told;
      waits = waits;
      items = items;
      item_waits = of_items;
      text_is = c.in-Ok.ensures
          ∙ ap (λ ts. item_wait_records bad ts (map (λ told. told.items) c.deref-2.result.now)) c.deref.ensures.value
          ∙ ap (λ all. item_wait_records bad told (map (λ told. told.items) all)) c.deref-2.ensures.value;
      deadline_is = c.deadline_of-deadline.ensures ∙ ap (λ ts. deadline_of bad (greatest ts)) c.deref-3.ensures.value;
    }
