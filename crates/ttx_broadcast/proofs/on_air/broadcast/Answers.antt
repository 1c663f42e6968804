use Rattle.std.proofs.Common.{subst}
use Rattle.ttx_air.specs.Newsrooms.{candidate_of}
use Rattle.ttx_press.specs.Openings.{IsOpening}
use Rattle.ttx_broadcast.specs.Broadcasts.{outs_of, wish_of, Begun}
use Rattle.ttx_broadcast.proofs.BroadcastSteps.{broadcasts_as}
use Rattle.ttx_broadcast.proofs.on_air.broadcast.Goals as goal

pub returns : goal.returns
returns g c =
    let reads = g.S.TextSource.reads in
    let wish = wish_of g.C.Clock.shows c.args.request.now in
    let before = outs_of g.L.Write.contents g.W.Write.contents c.args.outputs.now in
    let after = outs_of g.L.Write.contents g.W.Write.contents c.sent.new.outputs in
    let house = c.in_ok-opening.opening.house in
    let first = candidate_of c.in_ok-opening.opening.first in
    let newsroom = c.new-newsroom.result in
    let begun : Begun reads wish c.args.source = record {
      text = c.in_ok-text.text.items;
      next = c.first_text.new.source;
      read = c.in_ok-text.ensures;
      house = house;
      first = first;
      opening = subst (λ text. IsOpening wish.demand text house first) c.deref.ensures.value c.in_ok-opening.ensures;
      newsroom = newsroom;
      is_new = c.new-newsroom.ensures;
    } in
    broadcasts_as reads wish c.args.source begun c.sent.new.newsroom before after c.sent.result c.sent.ensures
