use Rattle.ttx_counter.specs.CounterReading.{is_one}
use Rattle.ttx_counter.proofs.MappedLists.{one_more}
use Rattle.ttx_counter.proofs.reader.bits_of.Goals as goal

pub loop-number-preserved : goal.loop-number-preserved
loop-number-preserved c =
    one_more is_one c.args.numbers.now c.loop-number.number-index 0 c.loop-number.bits.items c.push.new.self.items c.is_one.result _
    c.loop-number-test.true c.loop-number.invariant c.is_one.ensures c.push.ensures.items c.if-is_err.ensures.negation
