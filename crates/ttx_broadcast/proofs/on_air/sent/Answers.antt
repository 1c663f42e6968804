use Rattle.std.proofs.Common.{◌≡◌, refl, sym, subst}
use Rattle.ttx_cycle.specs.Cycles.{slots_of-IsCycle}
use Rattle.ttx_air.specs.Newsrooms.{candidate_of}
use Rattle.ttx_air.specs.Airings.{written_of, Logs}
use Rattle.ttx_press.specs.Presses.{text_gives}
use Rattle.ttx_broadcast.specs.Broadcasts.{outs_of, wish_of, line_in, Sends}
use Rattle.ttx_broadcast.proofs.BroadcastSteps.{sends_as}
use Rattle.ttx_broadcast.proofs.PossibleEndings.{may_end}
use Rattle.ttx_broadcast.proofs.on_air.sent.Goals as goal

pub ended-requires : goal.ended-requires
ended-requires g c =
    let some = (slots_of-IsCycle c.args.opening.first.edition.cycle).some in
    may_end c.verdicts_are_one.ensures c.requires.1 some (text_gives g.S.TextSource.reads) _ _ _ refl c.air.result c.air.ensures

pub returns : goal.returns
returns g c =
    let reads = g.S.TextSource.reads in
    let wish = wish_of g.C.Clock.shows c.args.request.now in
    let first = candidate_of c.args.opening.first in
    let before = outs_of g.L.Write.contents g.W.Write.contents c.args.outputs.now in
    let after = outs_of g.L.Write.contents g.W.Write.contents c.air.new.outputs in
    let log = written_of g.L.Write.contents c.note.new.log in
    let line : c.as_bytes.result.now ≡ line_in wish first = cc (c.as_bytes.ensures.value, c.in-Ok.ensures, c.lines-lines.ensures) in
    let settings = subst (λ bytes. Logs before.log log bytes) line c.note.ensures in
    let some = (slots_of-IsCycle c.args.opening.first.edition.cycle).some in
    let may = may_end c.verdicts_are_one.ensures c.requires.1 some (text_gives reads) _ _ _ refl c.air.result c.air.ensures in
    subst (λ r. Sends reads wish c.args.opening.house first c.args.newsroom.now c.air.new.newsroom before after r) (sym c.ended.ensures)
    (sends_as reads wish c.args.opening.house first c.args.newsroom.now c.air.new.newsroom before after log c.air.result may settings c.air.ensures)
