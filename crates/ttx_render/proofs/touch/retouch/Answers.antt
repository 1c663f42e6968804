use Rattle.std.proofs.Common.{◌≡◌, false, sym, ◌∙◌, arith, inl, inr}
use Rattle.ttx_page.specs.Views.{memory_of}
use Rattle.ttx_render.specs.View.{is_below}
use Rattle.ttx_render.proofs.TouchedRows.{touched-below, touched-upper, touched-lower, cut}
use Rattle.ttx_render.proofs.touch.retouch.Goals as goal

pub loop-number-init : goal.loop-number-init
loop-number-init c =
    let m = memory_of c.args.old.now in
    let n = memory_of c.args.new.now in
    record {
      size = c.requires.cells.size;
      was = c.is_below-was.ensures;
      now = c.is_below-was.ensures ∙ touched-below m n c.args.row c.requires.differs;
      made = λ k l. c.requires.cells.rows k (omega arith) ∙ touched-upper m n c.args.row c.requires.differs k l;
      left = λ k l h. c.requires.cells.rows k h;
    }

pub returns-then-not-now : goal.returns-then-not-now
returns-then-not-now c =
    let m = memory_of c.args.old.now in
    let n = memory_of c.args.new.now in
    let e : is_below m c.loop-number.number ≡ false = sym c.loop-number.invariant.was ∙ c.if-not-was.true in
    let f : is_below n c.loop-number.number ≡ false = sym c.loop-number.invariant.now ∙ c.if-not-now.true in
    record {
      size = c.loop-number.invariant.size;
      rows = λ k l. elim (cut k c.loop-number.number) [
        | inl low ↦ c.loop-number.invariant.made k low
        | inr high ↦ c.loop-number.invariant.left k high l
            ∙ touched-lower m n c.args.row c.requires.differs c.loop-number.number k c.if-number-row.true e f high
      ];
    }

pub view_row-requires-clause-hidden : goal.view_row-requires-clause-hidden
view_row-requires-clause-hidden c = c.loop-number.invariant.now
