-- What the receiver of a counter-run holds after it.
--
--   IsLeft                  the memory of the receiver with the script, after slots in which these bits are hit
--   IsReplayed              the memory after a counter-run
--   TellsReplayed           the memory; None if it is not a counter-run
use Rattle.std.specs.Prelude.{◌≡◌, ℕ, ◌<◌, pos, ◌+ℤ◌, List, [], length, slice_index_or, Option, Some, None}
use Rattle.ttx_page.specs.Pages.{Page}
use Rattle.ttx_page.specs.declared.class.Class.TheVariants.{Any}
use Rattle.ttx_page.specs.Memories.{Memory}
use Rattle.ttx_page.specs.Receivers.{scripted}
use Rattle.ttx_page.specs.Streams.{Stream}
use Rattle.ttx_counter.specs.Counters.{CounterRun, IsCounterRun, selection_for}
use Rattle.ttx_counter.specs.Hearing.{IsHitBy}

pub record IsLeft (s : Stream) (keys : List ℕ) (p : Page) (c : CounterRun) (m : Memory) : Type 0 where
  pub received : List (List ℕ)
  pub count : length received ≡ c.slots
  pub each : (i : ℕ) → i < c.slots → IsHitBy keys i (s (pos c.start +ℤ pos i)) (slice_index_or received i [])
  pub memory : m ≡ scripted Any c.lines (selection_for c.any_sub p.id) c.choices c.former received

pub record IsReplayed (cycle : List (List ℕ)) (pages : List Page) (c : CounterRun) (m : Memory) : Type 0 where
  pub is : IsCounterRun cycle pages c
  pub memory : m ≡ scripted Any c.lines (selection_for c.any_sub is.page.id) c.choices c.former is.received

abbrev pub TellsReplayed : {M : Type 0} → (M → Memory) → List (List ℕ) → List Page → CounterRun → Option M → Type 0
TellsReplayed seen cycle pages c None = IsCounterRun cycle pages c → ⊥
TellsReplayed seen cycle pages c (Some m) = IsReplayed cycle pages c (seen m)
