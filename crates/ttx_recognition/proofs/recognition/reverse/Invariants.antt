use Rattle.std.proofs.Common.{◌≡◌, ◌++◌, length, map, take, drop}
use Rattle.std.specs.Int.{reverse_bits, w8}
use Rattle.ttx_recognition.proofs.recognition.reverse.Given as goal

abbrev pub invariant-loop-i : goal.invariant-loop-i
invariant-loop-i l = l.packet ≡ map (reverse_bits w8) (take l.i l.initial.packet) ++ drop l.i l.initial.packet
