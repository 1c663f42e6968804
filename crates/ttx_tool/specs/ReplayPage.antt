-- What `replay --as text` and `--as html` write for a cycle, the pages of a service and a counter-run.
--
--   IsShown                 what happened, and the page as it was authored beside what the receiver shows; with the status
use Rattle.std.specs.Prelude.{◌≡◌, ◌⊎◌, ℕ, List}
use Rattle.ttx_counter.specs.Counters.{CounterRun, IsCounterRun}
use Rattle.ttx_failure.specs.Tellings.{IsTold}
use Rattle.ttx_failure.specs.declared.forms.FailureForm.{FailureForm}
use Rattle.ttx_page.specs.Pages.{Page}
use Rattle.ttx_tool.specs.Replay.{none_text}

-- 0 for a counter-run, 1 for none
abbrev pub IsShown : FailureForm → List (List ℕ) → List Page → CounterRun → List ℕ → ℕ → Type 0
IsShown form slots pages c text status =
    (IsTold form slots pages c text × (status ≡ 0)) ⊎ ((IsCounterRun slots pages c → ⊥) × (text ≡ none_text) × (status ≡ 1))
