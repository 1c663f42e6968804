-- The laws of counter-runs. Each is proved by the function of its name in `laws`.
--
--   Refutes                 a certificate of class any with the numbers of a counter-run
--   CounterRunsRefute       a counter-run refutes that its page is seen
--   RefutedIsNotAccepted    then no such certificate is accepted
use Rattle.std.specs.Prelude.{◌≡◌, ℕ, List, slice_get, Some}
use Rattle.ttx_page.specs.Pages.{Page}
use Rattle.ttx_page.specs.declared.class.Class.TheVariants.{Any}
use Rattle.ttx_cycle.specs.Files.{IsCycle}
use Rattle.ttx_witness.specs.Coverage.{Certificate, IsCertificate, Accepts}
use Rattle.ttx_certify.specs.Seen.{Seen}
use Rattle.ttx_certify.specs.Laws.{ArePages}
use Rattle.ttx_counter.specs.Counters.{CounterRun, IsCounterRun}

pub record Refutes (c : CounterRun) (w : Certificate) : Type 0 where
  pub class : w.class ≡ Any
  pub lines : w.lines ≡ c.lines
  pub repeat : w.repeat ≡ c.repeat
  pub deadline : w.deadline ≡ c.deadline

abbrev pub CounterRunsRefute : Type 0
CounterRunsRefute =
    (cycle : List (List ℕ)) (pages : List Page) (c : CounterRun) (w : Certificate) → IsCounterRun cycle pages c → Refutes c w →
    (p : Page) → slice_get pages c.page ≡ Some p → Seen cycle pages p w → ⊥

abbrev pub RefutedIsNotAccepted : Type 0
RefutedIsNotAccepted =
    (cycle : List (List ℕ)) (pages : List Page) (c : CounterRun) (w : Certificate) → IsCycle cycle → ArePages pages → IsCertificate w →
    IsCounterRun cycle pages c → Refutes c w → Accepts cycle pages w → ⊥
