use Rattle.std.proofs.Common.{◌≡◌, ◌∙◌, sym, length, arith}
use Rattle.std.proofs.lemmas.List.{ext_get_or}
use Rattle.std.proofs.lemmas.Simd.{get_or-zip2, length-zip2}
use Rattle.ttx_code.specs.Words.{stored}
use Rattle.ttx_code.proofs.plain.strip.Goals as goal

pub returns : goal.returns
returns c =
    let kept : length c.loop-i.codes ≡ length c.args.codes.now = omega (arith, c.loop-i.invariant.size) in
    let zipped = length-zip2 stored c.args.bytes.now c.args.codes.now (omega arith) in
    ext_get_or 0 _ _ (omega (arith, zipped))
    (λ k l. c.loop-i.invariant.done k (omega arith) ∙ sym (get_or-zip2 stored c.args.bytes.now c.args.codes.now k 0 0 0 (omega arith) (omega arith)))
