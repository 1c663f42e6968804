use Rattle.std.proofs.Common.{◌∙◌, sym, arith}
use Rattle.ttx_page.specs.Pages.{page_row}
use Rattle.ttx_page.specs.Views.{page_of}
use Rattle.ttx_page.proofs.Heights.{row_up}
use Rattle.ttx_page.proofs.shown.is_hidden.Goals as goal

pub loop-at-preserved : goal.loop-at-preserved
loop-at-preserved c = record {
  from = omega (arith, c.loop-at-test.true);
  to = omega (arith, c.loop-at.invariant.to);
  turned = row_up (page_row (page_of c.args.page.now)) c.args.number c.loop-at.at c.loop-at.hidden (omega (arith, c.loop-at-test.true))
      (omega (arith, c.if-at-le23.true))
      (sym c.has_double_height.ensures ∙ c.if-has_double_height.true) c.loop-at.invariant.turned;
}
