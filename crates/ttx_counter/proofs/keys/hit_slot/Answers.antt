use Rattle.std.proofs.Common.{◌≡◌, subst, arith}
use Rattle.ttx_counter.specs.Keys.{AreFlipped}
use Rattle.ttx_counter.proofs.keys.hit_slot.Goals as goal

pub returns : goal.returns
returns c = let e : c.loop-i.i ≡ c.args.hits.now.to = omega arith
    in subst (λ i. AreFlipped c.args.hits.now.keys.now c.args.hits.now.from i c.args.slot.now c.loop-i.received) e
    c.loop-i.invariant
