use Rattle.std.proofs.Common.{◌≤◌, length, subst, arith}
use Rattle.ttx_page.specs.Streams.{repeated}
use Rattle.ttx_subpages.specs.Stays.{IsGreatestInterval}
use Rattle.ttx_subpages.proofs.NextHeaders.{interval_of_cycle}
use Rattle.ttx_subpages.proofs.stays.greatest_interval.Goals as goal

pub returns : goal.returns
returns c =
    let slots = c.slots-slots.result.now in
    let past : length slots ≤ c.loop-at.at = let t = c.loop-at-test.false in omega arith in
    subst (λ s. IsGreatestInterval (repeated s) c.args.selection c.loop-at.most) c.slots-slots.ensures.slots
    (interval_of_cycle c.each_slot_turns.ensures slots c.slots-slots.ensures.cycle.some c.args.selection c.loop-at.at past c.loop-at.most
    c.loop-at.invariant.below)
