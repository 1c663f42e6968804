use Rattle.std.proofs.Common.{◌&&◌, ap, sym, ◌∙◌}
use Rattle.ttx_page.specs.Pages.{has_double_height}
use Rattle.ttx_render.proofs.view.hides_next.Goals as goal

pub returns-then-is_tall : goal.returns-then-is_tall
returns-then-is_tall c =
    c.has_double_height.ensures ∙ ap (λ tall. tall && has_double_height c.args.codes.now) (sym c.if-is_tall.true ∙ c.is_tall.ensures)
