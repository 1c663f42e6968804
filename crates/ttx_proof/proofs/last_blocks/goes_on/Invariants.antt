use Rattle.std.proofs.Common.{◌≡◌, ◌<◌, ℕ, false, [], slice_index_or}
use Rattle.ttx_page.specs.Packets.{packet_of}
use Rattle.ttx_page.specs.Streams.{heads}
use Rattle.ttx_page.specs.Views.{page_of}
use Rattle.ttx_proof.specs.LastBlocks.{Brings}
use Rattle.ttx_proof.proofs.last_blocks.goes_on.Given as goal

abbrev pub invariant-loop-j : goal.invariant-loop-j
invariant-loop-j l = record {
  none : (i : ℕ) → i < l.j → heads (page_of l.page).id.mag (packet_of (slice_index_or l.slots i [])) ≡ false;
  others : (i : ℕ) → i < l.j → Brings (page_of l.page) (slice_index_or l.slots i []) → ⊥;
}
