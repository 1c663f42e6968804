use Rattle.std.proofs.Common.{◌≡◌, ◌≤◌, length, take}
use Rattle.ttx_author.specs.Texts.{before_spaces}
use Rattle.ttx_author.proofs.texts.end_of.Given as goal

abbrev pub invariant-loop-end : goal.invariant-loop-end
invariant-loop-end l = record {
  within : l.end ≤ length l.codes;
  codes : before_spaces (take l.end l.codes) ≡ before_spaces l.codes;
}

abbrev pub decreases-loop-end : goal.decreases-loop-end
decreases-loop-end l = l.end
