use Rattle.std.proofs.Common.{◌-◌, take}
use Rattle.ttx_witness.specs.runs.Tracks.{IsTrack}
use Rattle.ttx_witness.proofs.runs.one_item.judge_item.Given as goal

abbrev pub invariant-loop-i : goal.invariant-loop-i
invariant-loop-i l = record { held : IsTrack (l.repeat - 1) l.limit l.starts (take l.i l.sent) l.track }
