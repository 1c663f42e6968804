use Rattle.std.proofs.Common.{sym, ap}
use Rattle.ttx_lines.specs.Lines.{number_of_fault}
use Rattle.ttx_lines.proofs.slots.number_of.Goals as goal

pub returns-in-Designation : goal.returns-in-Designation
returns-in-Designation c = ap (λ fault. number_of_fault fault) (sym c.in-Designation.is)

pub returns-in-Hamming : goal.returns-in-Hamming
returns-in-Hamming c = ap (λ fault. number_of_fault fault) (sym c.in-Hamming.is)

pub returns-in-Digit : goal.returns-in-Digit
returns-in-Digit c = ap (λ fault. number_of_fault fault) (sym c.in-Digit.is)

pub returns-in-Parity : goal.returns-in-Parity
returns-in-Parity c = ap (λ fault. number_of_fault fault) (sym c.in-Parity.is)
