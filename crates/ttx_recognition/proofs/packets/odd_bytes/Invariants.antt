use Rattle.std.proofs.Common.{◌≡◌, ◌≤◌}
use Rattle.ttx_recognition.specs.Packets.{odd_to}
use Rattle.ttx_recognition.proofs.packets.odd_bytes.Given as goal

abbrev pub invariant-loop-i : goal.invariant-loop-i
invariant-loop-i l = record { odd : l.count ≡ odd_to l.bytes l.i; few : l.count ≤ l.i }
