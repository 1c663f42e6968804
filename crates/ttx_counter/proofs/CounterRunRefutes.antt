-- A counter-run refutes that its page is seen.
use Rattle.std.proofs.Common.{◌≡◌, ℕ, ◌≤◌, pos, List, length, Some, sym, subst}
use Rattle.std.specs.Prelude.{slice_get}
use Rattle.ttx_page.specs.Pages.{Page}
use Rattle.ttx_page.specs.declared.class.Class.TheVariants.{Any}
use Rattle.ttx_page.specs.declared.class.Class.{Class}
use Rattle.ttx_page.specs.Memories.{IsFormer}
use Rattle.ttx_page.specs.Receivers.{Run, scripted}
use Rattle.ttx_page.specs.Receptions.{Received}
use Rattle.ttx_page.specs.Streams.{repeated}
use Rattle.ttx_page.specs.Laws.{ScriptedRuns}
use Rattle.ttx_witness.specs.Coverage.{limit}
use Rattle.ttx_certify.specs.Seen.{Seen}
use Rattle.ttx_certify.specs.Laws.{AcceptedIsSeen}
use Rattle.ttx_counter.specs.Counters.{selection_for}
use Rattle.ttx_counter.specs.Laws.{CounterRunsRefute, RefutedIsNotAccepted}

-- a page at a place of a list is one of the list
one_page : (pages : List Page) (n : ℕ) (p q : Page) → slice_get pages n ≡ Some p → slice_get pages n ≡ Some q → p ≡ q
one_page pages n p q a b = cc

pub refute : ScriptedRuns → CounterRunsRefute
refute runs cycle pages c w r e p here seen =
    let same : r.page ≡ p = one_page pages c.page r.page p r.here here in
    let seen' : Seen cycle pages r.page w = subst (λ q. Seen cycle pages q w) (sym same) seen in
    let sel = selection_for c.any_sub r.page.id in
    r.wrong (seen'.shown sel r.fits (pos c.start) c.former (scripted Any c.lines sel c.choices c.former r.received) r.received
    (subst (λ (x : Class). IsFormer x c.former) (sym e.class) r.former)
    (subst (λ k. Received (repeated cycle) r.page.id k (pos c.start) r.received) (sym e.repeat) r.permitted)
    (long e.lines e.deadline)
    (subst (λ (x : Class). Run x w.lines sel c.former r.received (scripted Any c.lines sel c.choices c.former r.received)) (sym e.class)
    (subst (λ n. Run Any n sel c.former r.received (scripted Any c.lines sel c.choices c.former r.received)) (sym e.lines)
    (runs Any c.lines sel c.choices c.former r.received))))
  where
    long : w.lines ≡ c.lines → w.deadline ≡ c.deadline → limit w ≤ length r.received
    long a b = rw (a, b, r.with_hits.count) r.lasts

pub not_accepted : CounterRunsRefute → AcceptedIsSeen → RefutedIsNotAccepted
not_accepted refutes seen cycle pages c w is pages_are certificate r e accepts =
    refutes cycle pages c w r e r.page r.here (seen cycle pages w is pages_are certificate accepts c.page r.page r.here)
