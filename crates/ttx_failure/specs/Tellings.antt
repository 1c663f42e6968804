-- The text about a cycle, pages and what may be a counter-run of them.
--
--   IsTold                  the text of a counter-run
--   TellsFailure            the same; None if it is not a counter-run
use Rattle.std.specs.Prelude.{◌≡◌, ℕ, List, Option, Some, None}
use Rattle.ttx_counter.specs.Counters.{CounterRun, IsCounterRun}
use Rattle.ttx_counter.specs.Following.{IsFollowed}
use Rattle.ttx_counter.specs.declared.taken_choices.Taken.{Taken}
use Rattle.ttx_failure.specs.Failures.{failure_text}
use Rattle.ttx_failure.specs.declared.forms.FailureForm.{FailureForm}
use Rattle.ttx_page.specs.Memories.{Memory}
use Rattle.ttx_page.specs.Pages.{Page}

-- of the page of the counter-run, the choices that its receiver takes, and what it holds then
pub record IsTold (form : FailureForm) (slots : List (List ℕ)) (pages : List Page) (c : CounterRun) (text : List ℕ) : Type 0 where
  pub memory : Memory
  pub taken : List Taken
  pub followed : IsFollowed slots pages c memory taken
  pub same : text ≡ failure_text form slots followed.replayed.is.page c taken memory

abbrev pub TellsFailure : {S : Type 0} → (S → List ℕ) → FailureForm → List (List ℕ) → List Page → CounterRun → Option S → Type 0
TellsFailure bytes form slots pages c None = IsCounterRun slots pages c → ⊥
TellsFailure bytes form slots pages c (Some text) = IsTold form slots pages c (bytes text)
