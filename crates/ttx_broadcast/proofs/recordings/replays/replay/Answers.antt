use Rattle.std.proofs.Common.{map, sym, subst}
use Rattle.std.proofs.lemmas.Result.{err_from_is_err_and}
use Rattle.ttx_air.specs.Newsrooms.{candidate_of}
use Rattle.ttx_logbook.specs.Logs.{log_of}
use Rattle.ttx_logbook.specs.Views.{entry_of}
use Rattle.ttx_archive.specs.Archives.{text_of, recorded_of, IsFiled, Recalls}
use Rattle.ttx_broadcast.specs.Replays.{outs_of, Begun}
use Rattle.ttx_broadcast.proofs.ReplaySteps.{replays_as, refused_as}
use Rattle.ttx_broadcast.proofs.recordings.replays.replay.Goals as goal

pub returns-in_err-opening : goal.returns-in_err-opening
returns-in_err-opening g c =
    let archive = map text_of c.args.archive.now in
    let l = log_of c.args.log.now in
    let before = outs_of g.L.Write.contents g.W.Write.contents c.args.outputs.now in
    let p = err_from_is_err_and c.from_residual-in_err-opening.result c.from_residual-in_err-opening.ensures.1 in
    let filed = subst (IsFiled archive l.start.digest) (sym c.as_slice-2.ensures.value) c.in_ok-filed.ensures in
    rw (p.1, p.2)
    (refused_as archive l (g.C.Clock.shows c.args.clock.now) c.as_slice-2.result.now c.demand_of-demand.result before _ filed c.demand_of-demand.ensures
    c.in_err-opening.ensures)

pub returns : goal.returns
returns g c =
    let archive = map text_of c.args.archive.now in
    let l = log_of c.args.log.now in
    let before = outs_of g.L.Write.contents g.W.Write.contents c.args.outputs.now in
    let after = outs_of g.L.Write.contents g.W.Write.contents c.sent.new.outputs in
    let newsroom = c.new-newsroom.result in
    let records = map recorded_of c.in_ok-records.records.items in
    let recalled : Recalls archive l.later records = subst (λ es. Recalls archive (map entry_of es) records) c.as_slice.ensures.value c.in_ok-records.ensures in
    let begun : Begun archive l = record {
      text = c.as_slice-2.result.now;
      filed = subst (IsFiled archive l.start.digest) (sym c.as_slice-2.ensures.value) c.in_ok-filed.ensures;
      demand = c.demand_of-demand.result;
      asked = c.demand_of-demand.ensures;
      house = c.in_ok-opening.opening.house;
      first = candidate_of c.in_ok-opening.opening.first;
      opening = c.in_ok-opening.ensures;
      newsroom = newsroom;
      press = c.new-newsroom.ensures.press;
      recalls = subst (Recalls archive l.later) (sym c.new-newsroom.ensures.left) recalled;
    } in
    replays_as archive l (g.C.Clock.shows c.args.clock.now) begun c.sent.new.newsroom before after c.sent.result c.sent.ensures
