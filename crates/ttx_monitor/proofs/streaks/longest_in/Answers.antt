use Rattle.std.proofs.Common.{◌+◌, ◌<◌, max, length, ap, ◌∙◌, arith}
use Rattle.ttx_monitor.proofs.CountedCells.{largest_more}
use Rattle.std.proofs.lemmas.List.{get_or_read}
use Rattle.ttx_monitor.proofs.streaks.longest_in.Goals as goal

pub loop-x-preserved : goal.loop-x-preserved
loop-x-preserved c =
    let inv = c.loop-x.invariant in
    let cells = c.args.cells.now.items in
    let at = c.args.at in
    let x = c.loop-x.x in
    let lt = c.loop-x-test.true in
    let inside : at + x < length cells = let r = c.requires.room in let f = c.requires.few in omega arith in
    let read = get_or_read cells (at + x) c.index.result.now inside c.index.ensures 0 in
    record {
      from = omega arith;
      largest = largest_more at c.args.text.0 x cells inv.from c.args.longest c.loop-x.largest c.max-largest.result
          (c.max-largest.ensures ∙ ap (max c.loop-x.largest) read) inv.largest;
    }
