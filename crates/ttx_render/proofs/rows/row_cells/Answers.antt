use Rattle.std.proofs.Common.{◌≡◌, ◌<◌, ◌≤◌, length, sym, ◌∙◌, arith, length-set}
use Rattle.std.proofs.lemmas.List.{take_more_set, take_all}
use Rattle.ttx_render.specs.Attributes.{spacing_at, attributes_at}
use Rattle.ttx_render.specs.Cells.{cell_at}
use Rattle.ttx_render.specs.Mosaics.{held_at}
use Rattle.ttx_render.proofs.Columns.{attributes_after-more, held_after-more, held_in-left, cells_to-zero, cells_to-more}
use Rattle.ttx_render.proofs.rows.row_cells.Goals as goal

pub loop-c-preserved : goal.loop-c-preserved
loop-c-preserved c =
    let tall = c.args.tall in
    let row = c.args.row.now in
    let at = c.loop-c.c in
    let s : c.within-sets.result ≡ spacing_at tall row at = rw (c.within-sets.ensures, c.of.ensures, c.next_code.ensures) in
    let n : c.at-now.result ≡ attributes_at tall row at = rw (c.at-now.ensures, s, c.loop-c.invariant.attributes) in
    let h : c.at-held.result ≡ held_at tall row at = rw (c.at-held.ensures, c.loop-c.invariant.held, n) (held_in-left tall row at) in
    let x : c.cell_of.result ≡ cell_at tall row c.args.style.option c.args.style.boxes at = rw (c.cell_of.ensures, n, h) in
    let room : at < length c.loop-c.cells = omega arith in
    record {
      size = simp length-set c.loop-c.invariant.size;
      attributes = rw (c.after-left.ensures, s, n) (attributes_after-more tall row at);
      held = rw (c.after-mosaic.ensures, n, h) (held_after-more tall row at);
      cells = take_more_set c.loop-c.cells at _ room
          ∙ rw (c.loop-c.invariant.cells, x) (sym (cells_to-more tall row c.args.style.option c.args.style.boxes at));
    }

pub loop-c-init : goal.loop-c-init
loop-c-init c = record {
  size = rw c.space_cells-cells.ensures;
  attributes = c.start-left.ensures;
  held = c.none-mosaic.ensures;
  cells = sym (cells_to-zero _ _ _ _);
}

pub returns : goal.returns
returns c =
    let at : c.loop-c.c ≡ 40 = omega arith in
    let long : length c.loop-c.cells ≤ 40 = omega arith in
    sym (take_all 40 c.loop-c.cells long) ∙ rw (sym at) c.loop-c.invariant.cells
