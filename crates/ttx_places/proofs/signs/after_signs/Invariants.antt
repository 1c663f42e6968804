use Rattle.std.proofs.Common.{◌≡◌, ◌≤◌, length}
use Rattle.ttx_places.specs.Signs.{after_signs}
use Rattle.ttx_places.proofs.signs.after_signs.Given as goal

abbrev pub invariant-loop-sign : goal.invariant-loop-sign
invariant-loop-sign l = record {
  rest : l.rest ≡ after_signs l.basic l._sign l.text;
  within : length l.rest ≤ length l.text;
}
