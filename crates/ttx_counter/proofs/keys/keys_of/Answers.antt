use Rattle.ttx_counter.specs.Keys.{hit_key}
use Rattle.ttx_counter.proofs.MappedLists.{one_more}
use Rattle.ttx_counter.proofs.keys.keys_of.Goals as goal

pub loop-hit-preserved : goal.loop-hit-preserved
loop-hit-preserved c =
    one_more hit_key c.args.hits.now c.loop-hit.hit-index (record { index = 0; byte = 0; bit = 0 }) c.loop-hit.keys.items c.push.new.self.items
    c.hit_key.result _ c.loop-hit-test.true c.loop-hit.invariant c.hit_key.ensures c.push.ensures.items c.if-is_err.ensures.negation
