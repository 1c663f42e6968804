use Rattle.std.proofs.Common.{◌≡◌, ◌+◌, ◌*◌, ◌%◌, pos, length, take}
use Rattle.ttx_cycle.specs.Files.{file_of}
use Rattle.ttx_page.specs.Laws.{sent_from}
use Rattle.ttx_send.specs.Airing.{at_moment}
use Rattle.ttx_send.proofs.sender.fill.Given as goal

abbrev pub invariant-loop-at : goal.invariant-loop-at
invariant-loop-at l = record {
  size : length l.bytes ≡ 5376;
  place : l.place ≡ (l.first + l.at) % length l.slots;
  sent : take (42 * l.at) l.bytes ≡ file_of (sent_from (at_moment l.slots l.stamp.moment) (pos l.first) l.at);
}
