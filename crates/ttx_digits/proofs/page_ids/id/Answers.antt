use Rattle.std.proofs.Common.{◌≡◌, ◌==◌, Some, None, true, length, slice_index, rules, arith}
use Rattle.std.proofs.lemmas.Grind.{common_steps}
use Rattle.std.proofs.lemmas.Bool.Decides.{nat_tests}
use Rattle.ttx_digits.specs.Digits.{is_between, two_digits, four_digits}
use Rattle.ttx_digits.proofs.Words.{id_word, no_id, two_by_tests, four_of_id, id_of_digits}
use Rattle.ttx_digits.proofs.page_ids.id.Goals as goal
use Rattle.ttx_digits.proofs.page_ids.id.Goals.{then-word-ne8-via-then-word-ne8, then-word-ne8-via-else-word-ne8+then-word-ne47}

pub returns-then-word-ne8 : goal.returns-then-word-ne8
returns-then-word-ne8 c = no_id c.args.word.now
    (λ is. let p = id_word c.args.word.now is in let long = p.length in let stroke = p.stroke in elim c.then-word-ne8.branch [
      | then-word-ne8-via-then-word-ne8 w ↦ let other = w.if-word-ne8 in grind (arith, nat_tests)
      | then-word-ne8-via-else-word-ne8+then-word-ne47 w ↦ let other = w.if-word-ne47 in grind (arith, nat_tests)
    ])

pub returns-in_err-page : goal.returns-in_err-page
returns-in_err-page c = let two = two_by_tests c.args.word.now 1 in grind (arith, common_steps)

pub returns-in_err-sub : goal.returns-in_err-sub
returns-in_err-sub c =
    let none : c.from_residual-in_err-sub.result ≡ None = search rules in
    let no_digits : four_digits c.args.word.now 4 ≡ None = search rules in
    rw none (no_id c.args.word.now (λ is. let some = four_of_id c.args.word.now is in cc))

pub returns-in-49-to-56 : goal.returns-in-49-to-56
returns-in-49-to-56 c =
    let page : Some c.in_ok-page.page ≡ two_digits c.args.word.now 1 = search rules in
    let sub : Some c.in_ok-sub.sub ≡ four_digits c.args.word.now 4 = search rules in
    let long : (length c.args.word.now == 8) ≡ true = grind (arith, nat_tests) in
    let stroke : (slice_index c.args.word.now 3 == 47) ≡ true = grind (arith, nat_tests) in
    let magazine : is_between 49 56 (slice_index c.args.word.now 0) ≡ true = grind (arith, nat_tests) in
    id_of_digits c.args.word.now c.in_ok-page.page c.in_ok-sub.sub long magazine stroke page sub
