use Rattle.std.proofs.Common.{◌≡◌, ◌≤◌, length, take}
use Rattle.ttx_extract.specs.ServiceTexts.{trimmed}
use Rattle.ttx_extract.proofs.texts.trimmed.Given as goal

abbrev pub invariant-loop-end : goal.invariant-loop-end
invariant-loop-end l = record {
  within : l.end ≤ length l.characters;
  same : trimmed (take l.end l.characters) ≡ trimmed l.characters;
}

abbrev pub decreases-loop-end : goal.decreases-loop-end
decreases-loop-end l = l.end
