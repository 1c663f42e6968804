use Rattle.std.proofs.Common.{ℕ, ◌<◌, get_or}
use Rattle.ttx_witness.specs.declared.runs.transmissions.Transmission.{Transmission}
use Rattle.ttx_witness.specs.runs.Tracks.{IsWithin}
use Rattle.ttx_certify.proofs.walks.progress.are_small.Given as goal

abbrev pub invariant-loop-i : goal.invariant-loop-i
invariant-loop-i l = record { small : (j : ℕ) (d : Transmission) → j < l.i → IsWithin 65536 (get_or l.ts j d) }
