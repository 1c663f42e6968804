use Rattle.std.proofs.Common.{◌≡◌, ◌≤◌, ◌-◌, ◌++◌, false, drop, length}
use Rattle.ttx_author.specs.Texts as rule
use Rattle.ttx_author.proofs.texts.written.Given as goal

-- the text so far, and that of the codes that are left
abbrev pub invariant-loop-at : goal.invariant-loop-at
invariant-loop-at l = record {
  inside : l.at ≤ length l.codes;
  so_far : l.text.items ++ rule.written l.option l.mosaic (drop l.at l.codes) ≡ rule.written l.option false l.codes;
}

abbrev pub decreases-loop-at : goal.decreases-loop-at
decreases-loop-at l = length l.initial.codes - l.at
