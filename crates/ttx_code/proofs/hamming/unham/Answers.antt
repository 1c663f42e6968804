use Rattle.std.proofs.Common.{arith, ◌≡◌, ◌<◌, ◌≤◌, ap, get_or, sym}
use Rattle.ttx_code.specs.declared.hamming.TheConstants.{NUMBERS}
use Rattle.ttx_code.proofs.Numbers.{Reads-at_number, number_from_Reads, reading_by_table}
use Rattle.ttx_code.proofs.hamming.unham.Goals as goal

pub returns-then-n-lt16-clause-near : goal.returns-then-n-lt16-clause-near
returns-then-n-lt16-clause-near c = Reads-at_number c.args.b _ (omega arith) c.if-n-lt16.true (ap (λ i. get_or NUMBERS i 0) (sym c.from.ensures))

pub returns-then-n-lt16-clause-value : goal.returns-then-n-lt16-clause-value
returns-then-n-lt16-clause-value c = (reading_by_table c.args.b _ (omega arith) (ap (λ i. get_or NUMBERS i 0) (sym c.from.ensures))).0
    c.if-n-lt16.true

pub returns-else-n-lt16-clause-near : goal.returns-else-n-lt16-clause-near
returns-else-n-lt16-clause-near c = λ n r.
    let same : get_or NUMBERS c.args.b 0 ≡ n = number_from_Reads c.args.b n (omega arith) r in
    let moved : get_or NUMBERS c.from.result 0 ≡ get_or NUMBERS c.args.b 0 = ap (λ i. get_or NUMBERS i 0) c.from.ensures in
    let high : 16 ≤ get_or NUMBERS c.from.result 0 = c.if-n-lt16.false in
    let low : n < 16 = r.number in
    omega arith

pub returns-else-n-lt16-clause-value : goal.returns-else-n-lt16-clause-value
returns-else-n-lt16-clause-value c = (reading_by_table c.args.b _ (omega arith) (ap (λ i. get_or NUMBERS i 0) (sym c.from.ensures))).1
    c.if-n-lt16.false
