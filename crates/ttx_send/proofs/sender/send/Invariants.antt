use Rattle.std.proofs.Common.{◌≡◌, ◌*◌, ◌+◌, ◌-◌, ◌/◌, ◌%◌, ◌<◌, ◌≤◌, length}
use Rattle.std.specs.Io.KnownBytes.{Appends}
use Rattle.ttx_cycle.specs.Files.{file_of}
use Rattle.ttx_send.specs.Airing.{broadcast_by, sent_slots}
use Rattle.ttx_send.proofs.sender.send.Given as goal

abbrev pub invariant-loop-field : goal.invariant-loop-field
invariant-loop-field g l = record {
  first : l.first ≡ (l.phase + l.field) * l.lines;
  low : l.first ≤ 32 * (l.phase + l.field);
  sent : length (file_of (sent_slots (broadcast_by l.slots l.lines l.phase (g.C.Clock.shows l.clock)) l.field)) ≡ l.sent;
  few : l.sent ≤ 5376 * l.field;
  inside : l.field ≤ l.fields;
  bytes : Appends (g.W.Write.contents l.initial.writer.inner) (g.W.Write.contents l.writer.inner)
      (file_of (sent_slots (broadcast_by l.slots l.lines l.phase (g.C.Clock.shows l.clock)) l.field));
  faults : l.writer.faults ≡ l.initial.writer.faults;
  stamp : 0 < l.field % 50 → l.stamp.moment ≡ g.C.Clock.shows l.clock (l.field / 50);
}

abbrev pub decreases-loop-field : goal.decreases-loop-field
decreases-loop-field g l = l.fields - l.field
