use Rattle.std.proofs.Common.{◌+◌, ◌∙◌, if◌then◌else◌, Bool, slice_set, slice_index, sym, ap}
use Rattle.ttx_plan.specs.declared.cursors.Cursors.{Cursors}
use Rattle.ttx_plan.proofs.cursors.Cursors.send.Goals.{then-is_page_header, else-is_page_header}
use Rattle.ttx_plan.proofs.cursors.Cursors.send.Goals as goal

pub returns-clause-cursors : goal.returns-clause-cursors
returns-clause-cursors c =
    let old = c.args.self.now in
    let queue = c.args.queue in
    let sent = slice_set old.sent queue (slice_index old.sent queue + 1) in
    let passed : Cursors → Cursors = λ s. record { sent = s.sent; free_at = s.free_at; from = queue + 1 } in
    let past : Bool → Cursors = λ header. record {
      sent = sent;
      free_at = if header then slice_set old.free_at queue (c.args.at + c.args.lines + 1) else old.free_at;
      from = queue + 1;
    } in
    elim c.if-is_page_header.branch [
      | then-is_page_header w ↦ ap passed w.self-is ∙ ap past (sym w.if-is_page_header.true ∙ c.is_page_header.ensures)
      | else-is_page_header w ↦ ap passed w.self-is ∙ ap past (sym w.if-is_page_header.false ∙ c.is_page_header.ensures)
    ]
