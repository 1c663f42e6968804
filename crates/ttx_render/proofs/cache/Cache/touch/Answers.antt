use Rattle.std.proofs.Common.{ap, sym, ◌∙◌}
use Rattle.ttx_page.specs.Memories.{Memory}
use Rattle.ttx_page.specs.Views.{memory_of}
use Rattle.ttx_render.specs.View.{Screen}
use Rattle.ttx_render.proofs.TouchedRows.{IsView-rows_to, view_of-IsView}
use Rattle.ttx_render.proofs.cache.Cache.touch.Goals as goal

pub retouch-requires-clause-cells : goal.retouch-requires-clause-cells
retouch-requires-clause-cells c = IsView-rows_to _ _ (ap (λ (v : Screen). v.cells) c.self.invariant)

pub invariant_of-self : goal.invariant_of-self
invariant_of-self c =
    let links = ap (λ (v : Screen). v.links) c.self.invariant ∙ sym (ap (λ (m : Memory). m.links.six) c.with_row-kept.ensures) in
    view_of-IsView (memory_of c.with_row-kept.result) _ _ c.retouch.ensures links
