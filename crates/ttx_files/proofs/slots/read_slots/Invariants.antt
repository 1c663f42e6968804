use Rattle.std.proofs.Common.{◌≡◌, ◌-◌, ℕ, List, false}
use Rattle.ttx_cycle.specs.SlotLaws.{IsGiven}
use Rattle.ttx_files.proofs.slots.read_slots.Given as goal

abbrev pub decreases-loop-taker : goal.decreases-loop-taker
decreases-loop-taker g l = 65536 - l.slots.given

abbrev pub invariant-loop-taker : goal.invariant-loop-taker
invariant-loop-taker g l = record {
  goes_on : l.slots.is_over ≡ false;
  gave : (slots : List (List ℕ))
      × IsGiven l.slots.given (g.R.Read.remaining l.initial.reader.inner) (g.R.Read.remaining l.reader.inner) slots
      × g.T.SlotTaker.took l.initial.taker l.taker slots;
  faults : l.reader.faults ≡ l.initial.reader.faults;
}
