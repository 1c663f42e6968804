use Rattle.std.proofs.Common.{◌∙◌, ◌==◌, ◌&&◌, ap, sym, slice_index_or, arith}
use Rattle.std.proofs.lemmas.List.Folds.{list_all_more}
use Rattle.ttx_packet.proofs.Unions.{no_bit}
use Rattle.ttx_packet.proofs.slots.is_zero.Goals as goal

pub loop-i-preserved : goal.loop-i-preserved
loop-i-preserved c =
    let byte = slice_index_or c.args.bytes.now c.loop-i.i 0 in
    no_bit c.loop-i.union byte c.loop-i.auto.union-fits.fits (c.type_inv.bytes c.loop-i.i).fits
    ∙ ap (λ b. b && (byte == 0)) c.loop-i.invariant
    ∙ sym (list_all_more (λ b. b == 0) c.args.bytes.now c.loop-i.i 0 (omega (arith, c.loop-i-test.true)))
