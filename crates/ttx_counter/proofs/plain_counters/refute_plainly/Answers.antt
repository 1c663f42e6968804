use Rattle.std.proofs.Common.{◌∙◌, ◌+◌, ◌*◌, ◌≤◌, length, ap, pos, subst}
use Rattle.std.specs.Prelude.{None}
use Rattle.ttx_page.specs.Views.{memory_of}
use Rattle.ttx_page.specs.Memories.{IsMemory, memory_of_page}
use Rattle.ttx_page.specs.Pages.{IsPage}
use Rattle.ttx_page.specs.Steady.{Steady}
use Rattle.ttx_page.specs.Streams.{repeated}
use Rattle.ttx_cycle.specs.Cycles.{slots_of-IsCycle}
use Rattle.ttx_witness.specs.Coverage.{limit}
use Rattle.ttx_counter.specs.Claims.{claimed_slots, claimed_pages, claimed_numbers, own_page}
use Rattle.ttx_counter.specs.Counters.{CounterRun, counter_run_of, selection_for}
use Rattle.ttx_counter.specs.Sources.{TellsWrong, IsWrongAfter}
use Rattle.ttx_counter.proofs.CheckIsExact.{same_page}
use Rattle.ttx_counter.proofs.PlainRuns.{found, not_found, not_right, numbers_of, plain_to}
use Rattle.ttx_counter.proofs.plain_counters.refute_plainly.Goals as goal

pub returns-then-is_steady : goal.returns-then-is_steady
returns-then-is_steady c = λ q at fits n from to wrong.
    let p = c.args.page.now in
    let slots = claimed_slots p.claim.now in
    let pages = claimed_pages p.claim.now in
    let same = same_page pages p.index (own_page p) q p.at at in
    wrong (c.steady_pages_stay.ensures (repeated slots) pages q (selection_for c.args.any_sub q.id) (claimed_numbers p.claim.now).lines n (pos 0)
    (subst IsPage same (c.pages_keep_their_rules.ensures p.page.now))
    (subst IsMemory (c.of-former.ensures ∙ ap memory_of_page same) (c.memories_keep_their_rules.ensures c.of-former.result)) fits
    (subst (Steady (repeated slots) pages) same (c.is_steady.ensures.0 c.if-is_steady.true)))

pub returns : goal.returns
returns c =
    let p = c.args.page.now in
    let slots = claimed_slots p.claim.now in
    let pages = claimed_pages p.claim.now in
    let w = claimed_numbers p.claim.now in
    let n = c.in_ok-slots.slots in
    let e = subst (TellsWrong slots (own_page p) c.lines.result c.selection_for-selection.result (memory_of_page (own_page p)) c.limit-low.result
    (c.limit-low.result + 2 * length slots)) c.in_ok-slots.was c.plain_run.ensures in
    let most = c.limit-low.ensures.value in
    let run = counter_run_of c.plain_counter.result in
    let fits = (c.fits.ensures (own_page p) p.at).0 c.if-not-fits.false in
    let same = c.selection_for-selection.ensures ∙ ap (selection_for c.args.any_sub) c.id.ensures in
    let wrong = subst (λ l. IsWrongAfter slots (own_page p) l c.selection_for-selection.result (memory_of_page (own_page p)) n) c.lines.ensures e.2 in (
      (
        plain_to slots pages w p.index c.args.any_sub (memory_of c.of-former.result) n run c.plain_counter.ensures
            (found c.plain_runs_are_counter_runs.ensures slots (slots_of-IsCycle p.claim.now.survey.now.cycle.now) pages (own_page p) p.index
            c.args.any_sub c.selection_for-selection.result (memory_of c.of-former.result) w.lines w.repeat w.deadline n run p.at same fits
            (c.memories_keep_their_rules.ensures c.of-former.result) c.of-former.ensures
            (numbers_of w (c.certificates_keep_their_rules.ensures p.claim.now.certificate.now).1)
            (subst (λ z. z ≤ n) most e.0) wrong c.plain_counter.ensures),
        ap (λ (r : CounterRun). r.page) c.plain_counter.ensures,
      ),
      ap (λ (r : CounterRun). r.any_sub) c.plain_counter.ensures,
      not_right slots pages (own_page p) p.index c.args.any_sub c.selection_for-selection.result w.lines (limit w) n p.at same fits
          (subst (λ z. z ≤ n) most e.0) (subst (λ z. n ≤ z + 2 * length slots) most e.1) wrong,
    )
