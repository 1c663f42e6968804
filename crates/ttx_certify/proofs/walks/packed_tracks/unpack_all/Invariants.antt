use Rattle.std.proofs.Common.{◌≡◌, ◌+◌, ◌++◌, map, take, length}
use Rattle.ttx_certify.specs.walks.PackedTracks.{transmission_of}
use Rattle.ttx_certify.proofs.walks.packed_tracks.unpack_all.Given as goal

abbrev pub invariant-loop-i : goal.invariant-loop-i
invariant-loop-i g l = record {
  count : length l.list.items ≡ length l.initial.list.items + l.i;
  appended : l.list.items ≡ l.initial.list.items ++ map transmission_of (take l.i l.packed);
}
