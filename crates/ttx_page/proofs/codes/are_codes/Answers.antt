use Rattle.ttx_page.proofs.Unions.{one_more}
use Rattle.ttx_page.proofs.codes.are_codes.Goals as goal

pub loop-i-preserved : goal.loop-i-preserved
loop-i-preserved c = one_more c.args.row.now c.loop-i.i c.loop-i.union c.loop-i.auto.union-fits.fits
    (c.type_inv.row c.loop-i.i).fits c.loop-i.invariant
