use Rattle.std.proofs.Common.{◌∙◌, subst, sym, arith}
use Rattle.ttx_page.specs.Pages.{IsRow}
use Rattle.ttx_page.proofs.KeptRanges.{stored_row-zip2, IsRow-stored_row}
use Rattle.ttx_page.proofs.memory.steps.received_row.Goals as goal

pub returns-clause-value : goal.returns-clause-value
returns-clause-value c = c.strip.ensures ∙ stored_row-zip2 _ _ (omega arith)

pub returns-clause-row : goal.returns-clause-row
returns-clause-row c = subst IsRow (sym (c.strip.ensures ∙ stored_row-zip2 _ _ (omega arith))) (IsRow-stored_row _ _ c.requires)
