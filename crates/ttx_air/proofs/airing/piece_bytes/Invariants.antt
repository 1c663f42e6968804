use Rattle.std.proofs.Common.{◌≡◌, ℕ, ◌+◌, ◌*◌, List, length, take}
use Rattle.ttx_air.specs.Newsrooms.{Candidate}
use Rattle.ttx_air.specs.Endings.{Ending}
use Rattle.ttx_air.specs.Airings.{Written, written_of}
use Rattle.ttx_air.specs.Steps.{SoFar, SentMore}
use Rattle.ttx_air.proofs.airing.piece_bytes.Given as goal

abbrev pub invariant-loop-at : goal.invariant-loop-at
invariant-loop-at g l = record {
  size : length l.bytes ≡ 5376;
  sent : l.station.sent ≡ l.initial.station.sent + l.at;
  so_far : (gone : _) (first : Candidate) (begin : Written) (past : List Ending) (slots : List (List ℕ)) → l.initial.station.sent ≡ length slots →
      SoFar g.N.Newsroom.gives l.terms.receivers (g.C.Clock.shows l.terms.clock) l.terms.lines l.terms.started first gone begin l.initial.station.on_air l.initial.newsroom
      (written_of g.L.Write.contents l.initial.log) past slots →
      SentMore g.N.Newsroom.gives l.terms.receivers (g.C.Clock.shows l.terms.clock) l.terms.lines l.terms.started first gone begin l.station.on_air l.newsroom
      (written_of g.L.Write.contents l.log) slots l.load.stamp.moment l.at (take (42 * l.at) l.bytes);
}
