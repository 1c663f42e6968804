use Rattle.std.proofs.Common.{◌≡◌, ◌<◌, ◌-◌, ◌+◌, ◌*◌, ◌^◌, ◌∙◌, ap, sym, slice_index, length, take, arith, rules}
use Rattle.std.proofs.lemmas.Bool.{and_from}
use Rattle.std.proofs.lemmas.List.{take_more}
use Rattle.std.proofs.lemmas.List.Folds.{list_all_more}
use Rattle.std.proofs.lemmas.Nat.{pow-add}
use Rattle.std.proofs.lemmas.Option.{cond_some}
use Rattle.ttx_digits.specs.Digits.{is_between, decimal_in, decimal_after}
use Rattle.ttx_digits.proofs.Words.{number_fits, decimal_after_push}
use Rattle.ttx_digits.proofs.decimals.leading_digits.Goals as goal

pub overflow_mul-number : goal.overflow_mul-number
overflow_mul-number c = let small : c.loop-count.number < 1000000 =
    number_fits c.loop-count.number c.loop-count.count c.loop-count.invariant.small (omega arith) in omega arith

pub overflow_add-number : goal.overflow_add-number
overflow_add-number c =
    let small : c.loop-count.number < 1000000 = number_fits c.loop-count.number c.loop-count.count c.loop-count.invariant.small (omega arith) in
    let digit : c.from.result < 10 = search rules in
    omega arith

pub loop-count-preserved : goal.loop-count-preserved
unfolding decimal_in
loop-count-preserved c =
    let text = c.args.text.now in
    let count = c.loop-count.count in
    let byte = slice_index text count in
    let before = c.loop-count.invariant in
    let within : count < length text = omega arith in
    let is = cond_some (is_between 48 57 byte) (byte - 48) c.in-Some.digit (sym c.decimal_in.ensures.value ∙ c.in-Some.is) in
    let digit : c.from.result ≡ byte - 48 = c.from.ensures ∙ sym is.1 in
    let low : c.from.result < 10 = search rules in
    record {
      few = omega arith;
      within = omega arith;
      digits = list_all_more (is_between 48 57) text count 0 within ∙ and_from _ _ before.digits is.0;
      value = ap (λ n. 10 * n + c.from.result) before.value ∙ ap (λ d. 10 * decimal_after 0 (take count text) + d) digit
          ∙ sym (decimal_after_push 0 (take count text) byte) ∙ ap (decimal_after 0) (sym (take_more text count 0 within));
      small = let small = before.small in let more : 10 ^ (count + 1) ≡ 10 ^ count * 10 = pow-add 10 count 1 in omega arith;
    }
