use Rattle.std.proofs.Common.{[], ◌∷◌, ◌∙◌, ap, sym, arith}
use Rattle.std.proofs.lemmas.Fmt.{decimal_digit}
use Rattle.ttx_digits.proofs.Pushed.{added}
use Rattle.ttx_digits.proofs.decimals.push_digit.Goals as goal

pub returns : goal.returns
returns c =
    added _ _ _ _ _ c.push.ensures.bytes
    (c.push.ensures.ascii (omega (arith, c.from.ensures, c.requires)) ∙ ap (λ byte. byte ∷ []) c.from.ensures
    ∙ sym (decimal_digit c.args.digit c.requires))
