use Rattle.std.proofs.Common.{◌≡◌, ◌==◌}
use Rattle.ttx_witness.proofs.lemmas.faults.SentBytes.{are_sent}
use Rattle.ttx_witness.proofs.faults.wrong_slots.are_sent.Given as goal

abbrev pub invariant-loop-i : goal.invariant-loop-i
invariant-loop-i l = (l.union == 0) ≡ are_sent l.i l.bytes l.characters
