use Rattle.std.proofs.Common.{◌∙◌, ◌++◌, ap₂}
use lib.Lanes.{zip2}
use Rattle.ttx_code.specs.Words.{stored}
use Rattle.ttx_code.proofs.Parities.{zip2_of_parts}
use Rattle.ttx_code.proofs.parity.strip.Goals as goal

pub returns : goal.returns
returns c =
    let codes = c.split_at_mut-codes_of_block.ensures in
    ap₂ (λ x y. x ++ y)
    (c.strip.ensures ∙ ap₂ (zip2 stored) c.split_at.ensures.front codes.front)
    (c.strip-2.ensures ∙ ap₂ (zip2 stored) c.split_at.ensures.back codes.back)
    ∙ zip2_of_parts stored 32 c.args.bytes.now c.args.codes.now
