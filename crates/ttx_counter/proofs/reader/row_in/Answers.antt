use Rattle.std.proofs.Common.{arith}
use Rattle.ttx_counter.proofs.ReadParts.{characters_are}
use Rattle.ttx_counter.proofs.reader.row_in.Goals as goal

pub returns : goal.returns
returns c =
    let t = c.loop-c-test.false in
    characters_are 40 c.args.numbers.now c.loop-c.row c.loop-c.invariant.size (λ k lt. c.loop-c.invariant.done k (omega arith))
