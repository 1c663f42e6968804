use Rattle.std.proofs.Common.{◌≡◌, ◌-◌, ◌<◌, ℕ, false, [], length, slice_index_or}
use Rattle.ttx_page.specs.Packets.{packet_of}
use Rattle.ttx_page.specs.Streams.{heads}
use Rattle.ttx_proof.proofs.seams.latest_header.Given as goal

abbrev pub invariant-loop-back : goal.invariant-loop-back
invariant-loop-back l = record { none : (i : ℕ) → i < l.back → heads l.mag (packet_of (slice_index_or l.slots (length l.slots - 1 - i) [])) ≡ false }
