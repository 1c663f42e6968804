use Rattle.std.proofs.Common.{◌≡◌, ◌+◌, ◌*◌, ◌++◌, drop, vec_len}
use Rattle.ttx_cycle.specs.Files.{file_of}
use Rattle.ttx_cycle.proofs.reader.add_slots.Given as goal

abbrev pub invariant-loop-i : goal.invariant-loop-i
invariant-loop-i l = record {
  count : vec_len l.slots ≡ vec_len l.initial.slots + l.i;
  bytes : file_of l.slots.items ++ drop (42 * l.i) l.bytes ≡ file_of l.initial.slots.items ++ l.bytes;
}
