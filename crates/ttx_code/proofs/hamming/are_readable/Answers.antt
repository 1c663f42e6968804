use Rattle.std.proofs.Common.{◌∙◌, ◌&&◌, ap, sym, is_some, ltb, bit_or, get_or, slice_index_or, arith}
use Rattle.std.proofs.lemmas.List.Folds.{list_all_more}
use Rattle.ttx_code.specs.Words.{reading}
use Rattle.ttx_code.specs.declared.hamming.TheConstants.{NUMBERS}
use Rattle.ttx_code.proofs.Numbers.{no_mark}
use Rattle.ttx_code.proofs.hamming.are_readable.Goals as goal

pub loop-i-preserved : goal.loop-i-preserved
loop-i-preserved c =
    let byte = slice_index_or c.args.bytes.now c.loop-i.i 0 in
    ap (λ k. ltb (bit_or c.loop-i.union (get_or NUMBERS k 0)) 16) c.from.ensures
    ∙ no_mark c.loop-i.union byte c.loop-i.auto.union-fits.fits (c.type_inv.bytes c.loop-i.i).fits
    ∙ ap (λ t. t && is_some (reading byte)) c.loop-i.invariant
    ∙ sym (list_all_more (λ b. is_some (reading b)) c.args.bytes.now c.loop-i.i 0 (omega (arith, c.loop-i-test.true)))
