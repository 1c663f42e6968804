use Rattle.std.proofs.Common.{arith, ap, get_or, sym}
use Rattle.ttx_digits.specs.declared.hexadecimals.TheConstants.{VALUES}
use Rattle.ttx_digits.proofs.HexadecimalTable.{entry_of}
use Rattle.ttx_digits.proofs.hexadecimals.hex_in.Goals as goal

pub returns-then-value-lt16-clause-value : goal.returns-then-value-lt16-clause-value
returns-then-value-lt16-clause-value c = (entry_of c.args.byte _ (omega arith) (ap (λ i. get_or VALUES i 0) (sym c.from.ensures))).0
    c.if-value-lt16.true

pub returns-else-value-lt16-clause-value : goal.returns-else-value-lt16-clause-value
returns-else-value-lt16-clause-value c = (entry_of c.args.byte _ (omega arith) (ap (λ i. get_or VALUES i 0) (sym c.from.ensures))).1
    c.if-value-lt16.false
