-- The choices that the receiver of a counter-run takes.
--
--   takes, taken_at, taken_from     whether a receiver with a script takes a choice at a slot; that choice; those that it takes over slots
--   IsHeardTaking           a receiver before and after it is given slots of a stream, and the choices that it took
--   IsLeftTaking, IsFollowed        the memory after slots in which bits are hit, and after a counter-run; the choices taken
--   TellsFollowed           both; None if it is not a counter-run
use Rattle.std.specs.Prelude.{◌≡◌, ℕ, zero, suc, Bool, if◌then◌else◌, List, [], ◌∷◌, ◌++◌, Option, Some, None}
use Rattle.ttx_page.specs.Pages.{Page}
use Rattle.ttx_page.specs.Memories.{Memory}
use Rattle.ttx_page.specs.Receivers.{older, next_choice}
use Rattle.ttx_page.specs.Streams.{Stream}
use Rattle.ttx_receiver.specs.Tuning.{Script, chooses, script_step, script_at, tuned_at}
use Rattle.ttx_counter.specs.Counters.{CounterRun, IsCounterRun, selection_for}
use Rattle.ttx_counter.specs.Hearing.{IsHeard}
use Rattle.ttx_counter.specs.Replaying.{IsLeft, IsReplayed}
pub use Rattle.ttx_counter.specs.declared.taken_choices.Taken.{Taken}

abbrev pub takes : Script → List ℕ → Bool
takes r slot = next_choice (chooses r.tuned slot) r.choices

-- slot n of the run, and how many slots the latest header is behind
abbrev pub choice_at : Script → ℕ → Taken
choice_at r n = record { index = n; age = (older r.tuned.memory).age }

abbrev pub taken_at : Script → ℕ → List ℕ → List Taken
taken_at r n slot = if takes r slot then choice_at r n ∷ [] else []

unfoldable pub taken_from : Script → ℕ → List (List ℕ) → List Taken
taken_from r n [] = []
taken_from r n (slot ∷ received) = taken_at r n slot ++ taken_from (script_step r slot) (suc n) received

pub record IsHeardTaking (s : Stream) (start n : ℕ) (keys : List ℕ) (old new : Script) (taken : List Taken) : Type 0 where
  pub heard : IsHeard s start n keys old new
  pub taken_is : taken ≡ taken_from old 0 heard.received

-- the same, and what the receiver of a counter-run then holds
pub record IsLeftTaking (s : Stream) (keys : List ℕ) (p : Page) (c : CounterRun) (m : Memory) (taken : List Taken) : Type 0 where
  pub left : IsLeft s keys p c m
  pub taken_is : taken ≡ taken_from (script_at (tuned_at (selection_for c.any_sub p.id) c.lines c.former) c.choices) 0 left.received

pub record IsFollowed (cycle : List (List ℕ)) (pages : List Page) (c : CounterRun) (m : Memory) (taken : List Taken) : Type 0 where
  pub replayed : IsReplayed cycle pages c m
  pub taken_is : taken
      ≡ taken_from (script_at (tuned_at (selection_for c.any_sub replayed.is.page.id) c.lines c.former) c.choices) 0 replayed.is.received

abbrev pub TellsFollowed : {F : Type 0} → (F → Memory) → (F → List Taken) → List (List ℕ) → List Page → CounterRun → Option F → Type 0
TellsFollowed memory taken cycle pages c None = IsCounterRun cycle pages c → ⊥
TellsFollowed memory taken cycle pages c (Some f) = IsFollowed cycle pages c (memory f) (taken f)
