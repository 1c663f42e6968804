use Rattle.std.proofs.Common.{◌≡◌, ◌<◌, ℕ, false, [], slice_index_or}
use Rattle.ttx_page.specs.Packets.{packet_of}
use Rattle.ttx_page.specs.Streams.{heads}
use Rattle.ttx_playout.proofs.unfollowed_pages.first_header.Given as goal

abbrev pub invariant-loop-at : goal.invariant-loop-at
invariant-loop-at l = record { none : (i : ℕ) → i < l.at → heads l.mag (packet_of (slice_index_or l.slots i [])) ≡ false }
