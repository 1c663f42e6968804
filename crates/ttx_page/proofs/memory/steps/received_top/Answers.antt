use Rattle.std.proofs.Common.{◌∙◌, ap, arith}
use Rattle.ttx_page.specs.Receivers.{stored_row}
use Rattle.ttx_page.proofs.KeptRanges.{stored_row-zeros}
use Rattle.ttx_page.proofs.memory.steps.received_top.Goals as goal

pub returns-clause-value : goal.returns-clause-value
returns-clause-value c =
    c.received_row.ensures.value ∙ ap (stored_row c.args.row.now) c.top_bytes.ensures
    ∙ stored_row-zeros 8 c.args.row.now _ (omega (arith, c.requires.length))
