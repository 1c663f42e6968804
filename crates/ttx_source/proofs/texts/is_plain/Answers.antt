use Rattle.std.proofs.Common.{◌∙◌, nat_lt, ◌&&◌, ap, sym, slice_index_or, arith}
use Rattle.std.proofs.lemmas.List.Folds.{list_all_more}
use Rattle.ttx_source.proofs.Plain.{small_union}
use Rattle.ttx_source.proofs.texts.is_plain.Goals as goal

pub loop-i-preserved : goal.loop-i-preserved
loop-i-preserved c =
    let byte = slice_index_or c.args.bytes.now c.loop-i.i 0 in
    small_union c.loop-i.union byte c.loop-i.auto.union-fits.fits (c.type_inv.bytes c.loop-i.i).fits
    ∙ ap (λ b. b && nat_lt byte 128) c.loop-i.invariant
    ∙ sym (list_all_more (λ b. nat_lt b 128) c.args.bytes.now c.loop-i.i 0 (omega (arith, c.loop-i-test.true)))
