use Rattle.std.proofs.Common.{◌+◌, ◌++◌, ◌∙◌, ap, sym, take, length, arith}
use Rattle.std.proofs.lemmas.Slice.{take-put_mid}
use Rattle.ttx_header.proofs.parts.put.Goals as goal

pub returns : goal.returns
returns c =
    let same = c.copy_from_slice.ensures.after in
    take-put_mid c.args.at _ c.args.bytes.now _ _ (ap (λ part. c.args.at + length part) (sym same)) (omega (arith, c.told-bytes, c.requires))
    ∙ ap (λ part. take c.args.at c.args.bytes.now ++ part) same
