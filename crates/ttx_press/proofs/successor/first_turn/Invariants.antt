use Rattle.std.proofs.Common.{◌≡◌, drop}
use Rattle.ttx_playout.specs.Schedules.{Edition}
use Rattle.ttx_playout.specs.Takeovers.{edition_of}
use Rattle.ttx_press.specs.Successors.{TakesTurn}
use Rattle.ttx_press.proofs.successor.first_turn.Given as goal

abbrev pub invariant-loop-at : goal.invariant-loop-at
invariant-loop-at l = record {
  kept : l.next ≡ l.fn.planned;
  rest : (t : Edition) → TakesTurn l.house (edition_of l.on_air) (edition_of l.fn.planned) (drop l.at-index l.places) t →
      TakesTurn l.house (edition_of l.on_air) (edition_of l.fn.planned) l.places t;
}
