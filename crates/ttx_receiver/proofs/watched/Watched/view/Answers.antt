use Rattle.std.proofs.Common.{refl, ap, ◌∙◌}
use Rattle.ttx_page.specs.Views.{memory_of}
use Rattle.ttx_render.specs.View.{view_of}
use Rattle.ttx_receiver.proofs.FollowedRows.{rows_alike}
use Rattle.ttx_receiver.proofs.watched.Watched.view.Goals as goal

pub returns : goal.returns
returns g c =
    let kept = c.follow.new.cache in
    let held = memory_of c.memory.result.now in
    let shows = c.contents_decide.ensures kept held (rows_alike kept held c.follow.ensures) c.follow.ensures.control c.follow.ensures.links in (
      (refl, λ _. tt, c.self.view_is),
      record {
        value = c.view.ensures ∙ shows ∙ ap view_of c.memory.ensures ∙ ap (λ r. view_of (g.R.Receiver.held r)) c.self.view_is;
        after_borrow = tt;
      },
    )
