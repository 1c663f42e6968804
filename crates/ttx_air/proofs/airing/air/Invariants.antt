use Rattle.std.proofs.Common.{◌≡◌, ◌*◌, ◌-◌, ◌/◌, ◌%◌, ◌<◌, ◌≤◌}
use Rattle.ttx_cycle.specs.Counters.{inner_of}
use Rattle.ttx_air.specs.Newsrooms.{candidate_of}
use Rattle.ttx_air.specs.Airings.{written_of}
use Rattle.ttx_air.proofs.PiecesOfAir.{AirSoFar}
use Rattle.ttx_air.proofs.airing.air.Given as goal

abbrev pub invariant-loop-field : goal.invariant-loop-field
invariant-loop-field g l = record {
  count : l.station.sent ≡ l.field * l.lines;
  few : l.station.sent ≤ 32 * l.field;
  stamp : 0 < l.field % 50 → l.load.stamp.moment ≡ g.C.Clock.shows l.airtime.clock (l.field / 50);
  inside : l.field ≤ l.airtime.fields;
  so_far : AirSoFar g.N.Newsroom.gives l.airtime.receivers (g.C.Clock.shows l.airtime.clock) l.lines l.started (candidate_of l.fn.first) l.fn.newsroom
      (written_of g.L.Write.contents l.fn.outputs.log) l.station.on_air l.newsroom (written_of g.L.Write.contents l.outputs.log)
      (g.W.Write.contents (inner_of l.fn.outputs.packets)) (g.W.Write.contents (inner_of l.outputs.packets)) l.station.sent;
}

abbrev pub decreases-loop-field : goal.decreases-loop-field
decreases-loop-field g l = l.airtime.fields - l.field
