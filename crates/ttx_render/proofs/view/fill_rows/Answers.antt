use Rattle.std.proofs.Common.{◌≡◌, ◌<◌, true, false, length, map, sym, ◌∙◌, ap, arith, refl, length-set}
use Rattle.ttx_header.specs.Control.{option_of}
use Rattle.ttx_page.specs.Views.{memory_of}
use Rattle.ttx_render.specs.View.{has_boxes, is_below, view_row, lower}
use Rattle.ttx_render.proofs.ViewRows.{rows_to-none, above, made, done-more, own-row, view_row-lower, is_below-after, is_below-own}
use Rattle.ttx_render.proofs.view.fill_rows.Goals as goal
use Rattle.ttx_render.proofs.view.fill_rows.Goals.{then-hidden, else-hidden}

pub loop-number-init : goal.loop-number-init
loop-number-init c =
    let m = memory_of c.args.memory.now in
    let option = c.style_of-style.ensures.option ∙ ap option_of c.control.ensures in
    let boxes = c.style_of-style.ensures.boxes ∙ ap has_boxes c.control.ensures in
    let top : c.row_cells.result ≡ view_row m 0 = c.row_cells.ensures ∙ own-row m 0 _ _ _ _ refl c.codes_of.ensures.codes refl option boxes in
    let size : length c.args.cells.now ≡ 25 = c.told-cells in
    let room : 0 < length c.args.cells.now = omega arith in
    record {
      size = simp length-set size;
      hidden = refl;
      done = done-more m c.args.cells.now 0 _ room (sym (rows_to-none m)) top;
    }

pub loop-number-preserved : goal.loop-number-preserved
loop-number-preserved c =
    let m = memory_of c.args.memory.now in
    let n = c.loop-number.number in
    let option = c.style_of-style.ensures.option ∙ ap option_of c.control.ensures in
    let boxes = c.style_of-style.ensures.boxes ∙ ap has_boxes c.control.ensures in
    let room : n < length c.loop-number.cells = omega arith in
    elim c.if-hidden.branch [
      | then-hidden w ↦
          let hid : is_below m n ≡ true = sym c.loop-number.invariant.hidden ∙ w.if-hidden.true in
          let made-above = made m c.loop-number.cells n c.loop-number.invariant.done (above m n hid).0 in
          let row : w.below.result ≡ view_row m n = w.below.ensures ∙ ap (map lower) made-above ∙ sym (view_row-lower m n hid) in
          record {
            size = rw (w.cells-is, length-set) c.loop-number.invariant.size;
            hidden = w.hidden-is ∙ sym (is_below-after m n hid);
            done = rw w.cells-is (done-more m c.loop-number.cells n _ room c.loop-number.invariant.done row);
          }
      | else-hidden w ↦
          let own : is_below m n ≡ false = sym c.loop-number.invariant.hidden ∙ w.if-hidden.false in
          let row : w.row_cells-else-hidden.result ≡ view_row m n =
          w.row_cells-else-hidden.ensures ∙ own-row m n _ _ _ _ own w.codes_of-codes.ensures.codes w.is_tall.ensures option boxes in
          record {
            size = rw (w.cells-is, length-set) c.loop-number.invariant.size;
            hidden = w.hidden-is ∙ w.hides_next-hidden.ensures ∙ rw w.codes_of-codes.ensures.codes (sym (is_below-own m n own));
            done = rw w.cells-is (done-more m c.loop-number.cells n _ room c.loop-number.invariant.done row);
          }
    ]
