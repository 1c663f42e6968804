use Rattle.std.proofs.Common.{◌≡◌, ◌≤◌, ◌<◌, ◌+◌, ◌∙◌, ◌==◌, drop, length, get_or, sym, ap, arith, zero}
use Rattle.std.proofs.lemmas.List.{at_drop_more}
use Rattle.ttx_places.proofs.LastLine.{choose, choose_whole, choose_step, drop_either, within_either}
use Rattle.ttx_places.proofs.positions.last_line.Goals as goal

pub loop-index-init : goal.loop-index-init
loop-index-init c = record { within = omega arith; line = choose_whole c.args.text.now }

pub loop-index-preserved : goal.loop-index-preserved
loop-index-preserved c =
    let l = c.loop-index in
    let text = c.args.text.now in
    let i = l.index in
    let within : i < length text = c.loop-index-test.true in
    let byte = get_or text i 0 in
    let rest = drop (i + 1) text in
    let start_is = c.start_after-start.ensures in
    let more : i + 1 ≤ length text = omega arith in
    record {
      within = rw start_is (within_either (i + 1) l.start (length text) (byte == 10) more l.invariant.within);
      line = rw (start_is, drop_either text (i + 1) l.start (byte == 10))
          (choose_step (drop l.start text) rest byte
          ∙ sym (at_drop_more (choose (drop l.start text)) text i 0 within) ∙ l.invariant.line);
    }
