use Rattle.std.proofs.Common.{◌-◌, take}
use Rattle.ttx_witness.specs.runs.Tracks.{IsSearch}
use Rattle.ttx_witness.proofs.runs.one_item.search_item.Given as goal

abbrev pub invariant-loop-i : goal.invariant-loop-i
invariant-loop-i l = record { held : IsSearch (l.repeat - 1) (take l.i l.sent) l.ring l.found }
