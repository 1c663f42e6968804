use Rattle.std.proofs.Common.{◌+◌, ◌*◌, ◌<◌, length, ap, sym, ◌∙◌, arith, length-set}
use Rattle.std.proofs.lemmas.List.{get_or_read}
use Rattle.ttx_counter.specs.Cells.{streak_of}
use Rattle.ttx_counter.proofs.streaks.count_hits.Goals as goal
use Rattle.ttx_counter.proofs.streaks.count_hits.Goals.{then-is_text+else-count-from, else-is_text}
use Rattle.ttx_counter.proofs.NotedStreaks.{counted_same, counted_set}

pub loop-i-preserved : goal.loop-i-preserved
loop-i-preserved c =
    let inv = c.loop-i.invariant in
    let keys = c.args.hits.now.keys.now in
    elim c.if-is_text.branch [
      | then-is_text+else-count-from w ↦
          let same = ap (λ v. v.items) w.cells-is in
          let inside : 42 * c.args.sent.row + c.byte_in-x.result < length c.loop-i.cells.items =
          let h = inv.places in let b = (c.requires.keys c.loop-i.i (omega arith)).byte in omega arith in
          record {
            places = ap length same ∙ length-set _ _ _ ∙ inv.places;
            counted = counted_set _ _ _ _ keys _ _ _ _ c.byte_in-x.result w.running-count.result w.index.result.now _
                c.byte_in-x.ensures c.loop-i.auto.i (sym c.is_text.ensures ∙ w.if-is_text.true)
                inside (λ j low high. c.requires.apart j c.loop-i.i low high c.loop-i-test.true)
                (get_or_read c.loop-i.cells.items _ _ inside w.index.ensures (streak_of 0 0)) w.running-count.ensures
                (omega arith) same inv.counted;
          }
      | else-is_text w ↦
          let same = ap (λ v. v.items) w.cells-is in
          record {
            places = ap length same ∙ inv.places;
            counted = counted_same _ _ _ _ keys _ _ _ _ c.byte_in-x.result c.byte_in-x.ensures
                (sym c.is_text.ensures ∙ w.if-is_text.false) _ same inv.counted;
          }
    ]
