use Rattle.std.proofs.Common.{◌<◌, refl, arith, rules}
use Rattle.ttx_logbook.proofs.Powers.{number_fits}
use Rattle.ttx_logbook.proofs.numbers.value_of.Goals as goal

pub overflow_mul-value : goal.overflow_mul-value
overflow_mul-value c = let small : c.loop-digit.value < 1000000000 =
    number_fits c.loop-digit.value c.loop-digit.digit-index c.loop-digit.invariant.small (omega arith) in omega arith

pub overflow_add-value : goal.overflow_add-value
overflow_add-value c =
    let small : c.loop-digit.value < 1000000000 = number_fits c.loop-digit.value c.loop-digit.digit-index c.loop-digit.invariant.small (omega arith) in
    let digit : c.from.result < 10 = search rules in
    omega arith

pub loop-digit-init : goal.loop-digit-init
loop-digit-init c = record { value = refl; small = omega arith }
