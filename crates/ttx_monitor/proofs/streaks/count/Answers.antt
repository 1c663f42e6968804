use Rattle.std.proofs.Common.{◌+◌, ◌<◌, ◌==◌, length, get_or, sym, ap, ◌∙◌, subst, arith, length-set}
use Rattle.std.proofs.lemmas.List.{get_or_read}
use Rattle.ttx_monitor.specs.Streaks.{counted, TellsFirst}
use Rattle.ttx_monitor.proofs.CountedCells.{counted_more, first_more}
use Rattle.ttx_monitor.proofs.streaks.count.Goals as goal

pub loop-x-preserved : goal.loop-x-preserved
loop-x-preserved c =
    let inv = c.loop-x.invariant in
    let cells = c.loop-x.cells.items in
    let at = c.args.at in
    let x = c.loop-x.x in
    let inside : at + x < length cells = let r = inv.room in let f = c.requires.few in omega arith in
    let read = get_or_read cells (at + x) c.index.result.now inside c.index.ensures 0 in
    record {
      from = omega arith;
      room = let l = length-set cells (at + x) c.counted-cell.result in let r = inv.room in omega arith;
      counted = counted_more at c.args.text.0 x c.args.repeat c.counted-cell.result cells inside c.args.pair.now.sent.now c.args.pair.now.received.now
          c.args.cells.now.items inv.from
          (c.counted-cell.ensures ∙ ap (λ z. counted c.args.repeat z (get_or c.args.pair.now.received.now x 0 == get_or c.args.pair.now.sent.now x 0)) read)
          inv.counted;
      reached = subst (TellsFirst c.args.repeat at c.args.text.0 (x + 1) _) (sym c.first_reached-first.ensures)
          (first_more at c.args.text.0 x c.args.repeat c.counted-cell.result cells inside inv.from c.loop-x.first inv.reached);
    }
