use Rattle.std.proofs.Common.{◌+◌, ◌∙◌, if◌then◌else◌, ap, sym}
use Rattle.std.proofs.lemmas.Bool.{le-ltb}
use Rattle.ttx_digits.proofs.hexadecimals.digit.Goals as goal

pub returns-else-number-lt10 : goal.returns-else-number-lt10
returns-else-number-lt10 c =
    let n = c.args.number in
    c.from-else-number-lt10.ensures ∙ ap (λ is_low. if is_low then 48 + n else 55 + n) (sym (le-ltb n 10 c.if-number-lt10.false))
