-- What is checked of a counter-run, step by step.
--
--   IsInRange               the numbers, the selection and the hits are in range; bytes that are hit twice are checked later
--   IsJudgedRun             whether the receiver's View is wrong after the run
--   IsJudgedWithin          whether the hits keep the rule of k, and the View is wrong
--   IsRefuting              what is received is within the rules, and the View is wrong
use Rattle.std.specs.Prelude.{◌≡◌, ◌↔◌, ℕ, ◌*◌, ◌<◌, ◌≤◌, pos, ◌+ℤ◌, Bool, true, List, [], length, slice_index_or, All}
use Rattle.ttx_page.specs.Pages.{Page, Fits}
use Rattle.ttx_page.specs.declared.class.Class.TheVariants.{Any}
use Rattle.ttx_page.specs.Receivers.{scripted}
use Rattle.ttx_page.specs.Streams.{Stream, repeated}
use Rattle.std.specs.List.{AllPairs}
use Rattle.ttx_page.specs.Receptions.{Received}
use Rattle.ttx_certify.specs.Seen.{HasView}
use Rattle.ttx_counter.specs.Counters.{CounterRun, AreCertificateNumbers, IsHit, IsHitList, selection_for}
use Rattle.ttx_counter.specs.Hearing.{IsHitBy}
use Rattle.ttx_counter.specs.Rule.{KeepsRule}

pub record IsInRange (cycle : List (List ℕ)) (pages : List Page) (p : Page) (c : CounterRun) : Type 0 where
  pub fits : Fits pages p (selection_for c.any_sub p.id)
  pub numbers : AreCertificateNumbers c.lines c.repeat c.deadline
  pub lasts : c.deadline * c.lines ≤ c.slots
  pub each : All (IsHit (repeated cycle) c.start c.slots) c.hits

pub record IsJudgedRun (s : Stream) (keys : List ℕ) (p : Page) (c : CounterRun) (wrong : Bool) : Type 0 where
  pub received : List (List ℕ)
  pub count : length received ≡ c.slots
  pub each : (i : ℕ) → i < c.slots → IsHitBy keys i (s (pos c.start +ℤ pos i)) (slice_index_or received i [])
  pub told : (wrong ≡ true) ↔ (HasView p (scripted Any c.lines (selection_for c.any_sub p.id) c.choices c.former received) → ⊥)

-- true: the hits keep the rule of k, and the View is wrong; false: one of the two does not hold
pub record IsJudgedWithin (s : Stream) (keys : List ℕ) (p : Page) (c : CounterRun) (wrong : Bool) : Type 0 where
  pub judged : KeepsRule s p.id c.start c.slots c.repeat keys → IsJudgedRun s keys p c wrong
  pub keeps : wrong ≡ true → KeepsRule s p.id c.start c.slots c.repeat keys

-- the hits keep every rule, and the receiver's View is wrong after the run
pub record IsRefuting (cycle : List (List ℕ)) (p : Page) (c : CounterRun) : Type 0 where
  pub once : AllPairs (λ a b. a.index ≡ b.index → a.byte ≡ b.byte → ⊥) c.hits
  pub received : List (List ℕ)
  pub with_hits : IsHitList (repeated cycle) c.start c.slots c.hits received
  pub permitted : Received (repeated cycle) p.id c.repeat (pos c.start) received
  pub wrong : HasView p (scripted Any c.lines (selection_for c.any_sub p.id) c.choices c.former received) → ⊥
