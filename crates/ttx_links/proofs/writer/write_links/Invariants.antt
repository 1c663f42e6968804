use Rattle.std.proofs.Common.{◌≡◌, ◌+◌, ◌*◌, ◌++◌, ◌∷◌, [], take, length, flat_map}
use Rattle.ttx_code.specs.Words.{hamming_word}
use Rattle.ttx_packet.specs.Slots.{address_bytes}
use Rattle.ttx_links.specs.Sets.{link_bytes}
use Rattle.ttx_links.proofs.writer.write_links.Given as goal

abbrev pub invariant-loop-i : goal.invariant-loop-i
invariant-loop-i l = record {
  size : length l.bytes ≡ 42;
  done : take (3 + 6 * l.i) l.bytes ≡ (address_bytes l.mag 27 ++ hamming_word 0 ∷ []) ++ flat_map (link_bytes l.mag) (take l.i l.six);
}
