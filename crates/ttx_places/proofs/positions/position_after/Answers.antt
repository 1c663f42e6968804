use Rattle.std.proofs.Common.{◌≡◌, ◌+◌, ◌<◌, ◌∙◌, drop, length, get_or, sym, arith}
use Rattle.std.proofs.lemmas.List.{at_drop_more}
use Rattle.ttx_places.specs.Positions.{is_line_feed, how_many}
use Rattle.ttx_places.proofs.Columns.{ends, many_next, ends_step, at_most_one, next_within}
use Rattle.ttx_places.proofs.positions.position_after.Goals as goal

pub loop-byte-preserved : goal.loop-byte-preserved
loop-byte-preserved c =
    let l = c.loop-byte in
    let text = c.args.text.now in
    let i = l.byte-index in
    let within : i < length text = c.loop-byte-test.true in
    let byte = get_or text i 0 in
    let rest = drop (i + 1) text in
    let lines = at_drop_more (how_many is_line_feed) text i 0 within in
    let more = many_next is_line_feed byte rest in
    let line_is = c.after_byte-at.ensures.line in
    let column_is = c.after_byte-at.ensures.column in
    let one = at_most_one (is_line_feed byte) in
    let near = next_within l.at.column byte in
    record {
      most_lines = omega (arith, l.invariant.most_lines, line_is, one);
      most_columns = omega (arith, l.invariant.most_columns, column_is, near);
      line = omega (arith, l.invariant.line, lines, more, line_is);
      column = rw column_is (ends_step l.at.column byte rest ∙ sym (at_drop_more (ends l.at.column) text i 0 within) ∙ l.invariant.column);
    }
