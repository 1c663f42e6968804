use Rattle.std.proofs.Common.{◌≡◌, length}
use Rattle.ttx_cycle.specs.Cycles.{slots_of}
use Rattle.ttx_partial.specs.LeftOut.{AreLeft}
use Rattle.ttx_partial.proofs.extraction.extract_partly.Given as goal

abbrev pub invariant-loop : goal.invariant-loop
invariant-loop l = record {
  left : AreLeft (slots_of l.cycle) l.lines l.left.items (slots_of l.rest);
  count : length l.left.items ≡ l.counter;
}
