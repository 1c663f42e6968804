use Rattle.std.proofs.Common.{◌≡◌, ◌+◌, ◌≤◌, ◌<◌, length, take, set, sym, ap, ◌∙◌, subst, arith}
use Rattle.std.proofs.lemmas.List.{take_all, length-set}
use Rattle.ttx_cycle.specs.Cycles.{slots_of}
use Rattle.ttx_page.specs.declared.item.Item.TheVariants.{Row as TheRow}
use Rattle.ttx_extract.specs.Drafts.{said_rows}
use Rattle.ttx_extract.specs.FirstSent.{first_sent, row_of}
use Rattle.ttx_extract.proofs.SentRows.{row_at, rows_count, filled_as}
use Rattle.ttx_extract.proofs.sent_page.sent_rows.Goals as goal

pub loop-i-preserved : goal.loop-i-preserved
loop-i-preserved c =
    let rows = c.loop-i.rows in
    let i = c.loop-i.i in
    let v = c.loop-i.invariant in
    let lt : i < 24 = let t = c.loop-i-test.true in omega arith in
    record {
      size = length-set rows c.from.result c.sent_row.result ∙ v.size;
      within = omega arith;
      done = λ pages lines p sent at.
          let slots = slots_of c.args.cycle.now in
          let said = said_rows slots lines p.id in
          let count = rows_count slots lines p.id in
          let own = c.sent_row.ensures pages lines p sent at ∙ ap (λ r. row_of (first_sent slots lines p.id (TheRow r))) c.row_number.ensures in
          subst (λ n. take (i + 1) (set rows n c.sent_row.result) ≡ take (i + 1) said) (sym c.from.ensures)
          (filled_as said rows i c.sent_row.result c.sent_row.result (v.size ∙ sym count) (let k = count in omega arith) (v.done pages lines p sent at)
          (own ∙ sym (row_at slots lines p.id i c.sent_row.result lt)));
    }

pub returns : goal.returns
returns c = λ pages lines p sent at.
    let rows = c.loop-i.rows in
    let v = c.loop-i.invariant in
    let said = said_rows (slots_of c.args.cycle.now) lines p.id in
    let done : c.loop-i.i ≡ 24 = let w = v.within in let t = c.loop-i-test.false in omega arith in
    let size : length rows ≤ 24 = let s = v.size in omega arith in
    let count : length said ≤ 24 = let s = rows_count (slots_of c.args.cycle.now) lines p.id in omega arith in
    sym (take_all 24 rows size) ∙ subst (λ n. take n rows ≡ take n said) done (v.done pages lines p sent at) ∙ take_all 24 said count
