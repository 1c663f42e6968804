use Rattle.std.proofs.Common.{◌≡◌, ◌≤◌, ◌<◌, ◌-◌, ◌^◌, true, length, take}
use Rattle.ttx_digits.specs.Digits.{are_digits, decimal_after}
use Rattle.ttx_digits.proofs.decimals.leading_digits.Given as goal

-- the bytes so far are digits
abbrev pub invariant-loop-count : goal.invariant-loop-count
invariant-loop-count l = record {
  few : l.count ≤ 7;
  within : l.count ≤ length l.text;
  digits : are_digits (take l.count l.text) ≡ true;
  value : l.number ≡ decimal_after 0 (take l.count l.text);
  small : l.number < 10 ^ l.count;
}

abbrev pub decreases-loop-count : goal.decreases-loop-count
decreases-loop-count l = 7 - l.count
