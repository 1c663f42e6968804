-- A counter-run is within the ranges of what is told.
use Rattle.std.proofs.Common.{ℕ, List}
use Rattle.ttx_counter.specs.Counters.{CounterRun, IsCounterRun}
use Rattle.ttx_failure.specs.Sentences.{IsTellable}
use Rattle.ttx_page.specs.Pages.{Page}

pub counter_is_tellable : (slots : List (List ℕ)) (pages : List Page) (c : CounterRun) → IsCounterRun slots pages c → IsTellable c
counter_is_tellable slots pages c is = record {
  lined = is.numbers.some_lines;
  bits = λ k d lt. let h = is.hits.each k d lt in record { byte = h.byte; some = h.some; bit = h.bit };
  lasts = is.lasts;
}
