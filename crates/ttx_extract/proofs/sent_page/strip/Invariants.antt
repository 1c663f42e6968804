use Rattle.std.proofs.Common.{◌≡◌, ◌≤◌, length, take}
use Rattle.ttx_extract.specs.FirstSent.{characters}
use Rattle.ttx_extract.proofs.sent_page.strip.Given as goal

abbrev pub invariant-loop-i : goal.invariant-loop-i
invariant-loop-i l = record {
  size : length l.codes ≡ length l.bytes;
  within : l.i ≤ length l.bytes;
  done : take l.i l.codes ≡ characters (take l.i l.bytes);
}
