use Rattle.std.proofs.Common.{◌≡◌, ◌++◌, drop, string_bytes}
use Rattle.ttx_failure.specs.Unlike.{unlike_numbers}
use Rattle.ttx_failure.proofs.unlike.push_numbers.Given as goal

abbrev pub invariant-loop-number : goal.invariant-loop-number
invariant-loop-number l =
    string_bytes l.text ++ unlike_numbers l.own l.number (drop l.number l.shown) ≡ string_bytes l.initial.text ++ unlike_numbers l.own 0 l.shown
