use Rattle.std.proofs.Common.{arith}
use Rattle.ttx_counter.proofs.ReadParts.{rows_are}
use Rattle.ttx_counter.proofs.reader.read_rows.Goals as goal

pub returns : goal.returns
returns c =
    let t = c.loop-r-test.false in
    rows_are 25 c.args.numbers.now c.loop-r.rows c.loop-r.invariant.size (λ k lt. c.loop-r.invariant.done k (omega arith))
