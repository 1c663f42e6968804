use Rattle.std.proofs.Common.{◌≡◌, map, take, length}
use Rattle.std.specs.List.{All}
use Rattle.ttx_witness.specs.runs.Tracks.{IsWithin}
use Rattle.ttx_certify.specs.walks.PackedTracks.{transmission_of}
use Rattle.ttx_certify.proofs.walks.packed_transmissions.pack_all.Given as goal

abbrev pub invariant-loop-i : goal.invariant-loop-i
invariant-loop-i l = record {
  size : length l.packed ≡ length l.initial.packed;
  packed : All (IsWithin 65536) l.transmissions → map transmission_of (take l.i l.packed) ≡ take l.i l.transmissions;
}
