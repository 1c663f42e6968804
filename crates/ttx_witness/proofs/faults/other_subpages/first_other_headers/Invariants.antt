use Rattle.std.proofs.Common.{◌≡◌, ℕ, ◌≤◌, ◌<◌, length, get_or, None}
use Rattle.ttx_page.specs.Streams.{repeated}
use Rattle.ttx_witness.specs.faults.OtherSubpages.{place, HeadsOtherAt, TellsBelow}
use Rattle.ttx_witness.proofs.faults.other_subpages.first_other_headers.Given as goal

abbrev pub invariant-loop-j : goal.invariant-loop-j
invariant-loop-j l = record {
  size : length l.first.items ≡ 2048;
  told : (mag number : ℕ) → 1 ≤ mag → mag ≤ 8 → number < 256 →
      TellsBelow (HeadsOtherAt l.subcodes (repeated l.slots) mag number) l.j (get_or l.first.items (place mag number) None);
}
