use Rattle.std.proofs.Common.{◌≡◌, ℕ, ◌<◌, [], None, drop, slice_index_or}
use Rattle.ttx_cycle.specs.Cycles.{slots_of}
use Rattle.ttx_extract.specs.FirstPackets.{slot_info, first_info}
use Rattle.ttx_extract.proofs.infos.first_info.Given as goal

abbrev pub invariant-loop-slot : goal.invariant-loop-slot
invariant-loop-slot l = record {
  rest : first_info (slots_of l.cycle) ≡ first_info (drop l.slot (slots_of l.cycle));
  before : (n : ℕ) → n < l.slot → slot_info (slice_index_or (slots_of l.cycle) n []) ≡ None;
}
