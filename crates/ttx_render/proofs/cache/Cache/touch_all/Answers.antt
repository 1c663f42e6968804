use Rattle.std.proofs.Common.{◌≡◌, ◌∙◌, [], ap, sym, arith}
use Rattle.std.proofs.lemmas.List.{ext_get_or}
use Rattle.ttx_page.specs.Views.{memory_of}
use Rattle.ttx_render.specs.View.{view_of}
use Rattle.ttx_render.proofs.ViewRows.{contents_decide_lem}
use Rattle.ttx_render.proofs.cache.Cache.touch_all.Goals as goal

pub invariant_of-self : goal.invariant_of-self
invariant_of-self c =
    let self = c.self-then-are_set_alike in
    let kept = c.loop-row.self in
    let held = memory_of c.args.memory.now in
    let like = c.loop-row.invariant in
    let rows : kept.rows ≡ held.rows = ext_get_or [] kept.rows held.rows (like.size ∙ sym c.args.memory.now.kept.row_count)
    (λ k l. like.rows k (omega arith)) in
    self.invariant ∙ ap view_of self.view_is ∙ contents_decide_lem kept held rows like.settings.control like.settings.links
