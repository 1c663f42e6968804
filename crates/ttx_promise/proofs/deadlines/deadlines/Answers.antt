use Rattle.std.proofs.Common.{ℕ, List, map, ap, subst, ◌∙◌}
use Rattle.ttx_cycle.specs.Cycles.{slots_of}
use Rattle.ttx_page.specs.Pages.{Page}
use Rattle.ttx_source.specs.Services.{pages_of}
use Rattle.ttx_witness.specs.wait_times.PageWaits.{AreWaits}
use Rattle.ttx_witness.specs.declared.wait_times.wait.PageWait.{PageWait}
use Rattle.ttx_promise.specs.Deadlines.{fields_of}
use Rattle.ttx_promise.proofs.KeptPromises.{are_deadlines, distinct_ids}
use Rattle.ttx_promise.proofs.deadlines.deadlines.Goals as goal

pub waits-requires-clause-distinct : goal.waits-requires-clause-distinct
waits-requires-clause-distinct c =
    distinct_ids c.pages.result.now c.args.service.now.pages c.pages.ensures.value c.pages.ensures.ranges.distinct

pub returns-in-Ok : goal.returns-in-Ok
returns-in-Ok c =
    let told = c.in_ok-told.told.items in
    let waits : AreWaits (slots_of c.args.cycle.now) (pages_of c.args.service.now) c.args.class c.args.repeat c.args.service.now.lines told =
    subst (λ (n : ℕ). AreWaits (slots_of c.args.cycle.now) (pages_of c.args.service.now) c.args.class c.args.repeat n told) c.lines.ensures.value
    (subst (λ (ps : List Page). AreWaits (slots_of c.args.cycle.now) ps c.args.class c.args.repeat c.lines.result told) c.pages.ensures.value
    c.in_ok-told.ensures) in
    are_deadlines (slots_of c.args.cycle.now) c.args.class c.args.service.now c.args.repeat told c.in-Ok.deadlines.items
    c.requires.accepted c.requires.some_repeats c.requires.few_repeats waits
    (c.in-Ok.ensures ∙ ap (map (λ (t : PageWait). fields_of t.wait)) c.deref.ensures.value)
