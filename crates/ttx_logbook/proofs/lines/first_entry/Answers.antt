use Rattle.ttx_logbook.specs.Views.{entry_of}
use Rattle.ttx_logbook.proofs.LineLaws.{no_line, other_line, is_line}
use Rattle.ttx_logbook.proofs.ReadLines.{entry_reads}
use Rattle.ttx_logbook.proofs.lines.first_entry.Goals as goal

pub returns-in_err-line : goal.returns-in_err-line
returns-in_err-line c = rw c.from_residual.ensures (no_line entry_reads c.args.text.now c.in_err-line.ensures)

pub returns-in-Some : goal.returns-in-Some
returns-in-Some c =
    is_line entry_reads c.args.text.now c.in_ok-line.line.now c.in_ok-line.rest.now (entry_of c.in-Some.entry) c.in_ok-line.ensures c.in-Some.ensures

pub returns-in-None : goal.returns-in-None
returns-in-None c = other_line entry_reads c.args.text.now c.in_ok-line.line.now c.in_ok-line.rest.now c.in_ok-line.ensures c.in-None.ensures
