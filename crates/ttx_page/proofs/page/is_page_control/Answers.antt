use Rattle.std.proofs.Common.{not, ap, sym, ◌∙◌}
use Rattle.std.proofs.lemmas.Bool.{not-true}
use Rattle.ttx_page.proofs.page.is_page_control.Goals as goal

pub returns-then-control-lt2048 : goal.returns-then-control-lt2048
returns-then-control-lt2048 c = (
  (λ t. (c.if-control-lt2048.true, sym c.erases_page.ensures ∙ not-true _ t)),
  (λ is. ap not (c.erases_page.ensures ∙ is.1)),
)
