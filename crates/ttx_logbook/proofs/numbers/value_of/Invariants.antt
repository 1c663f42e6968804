use Rattle.std.proofs.Common.{◌≡◌, ◌<◌, ◌^◌, drop, Some, None, if◌then◌else◌}
use Rattle.ttx_digits.specs.Digits.{are_digits, decimal_after}
use Rattle.ttx_logbook.proofs.numbers.value_of.Given as goal

abbrev pub invariant-loop-digit : goal.invariant-loop-digit
invariant-loop-digit l = record {
  value : (if are_digits l.digits then Some (decimal_after 0 l.digits) else None)
      ≡ (if are_digits (drop l.digit-index l.digits) then Some (decimal_after l.value (drop l.digit-index l.digits)) else None);
  small : l.value < 10 ^ l.digit-index;
}
