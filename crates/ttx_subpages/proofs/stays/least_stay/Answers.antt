use Rattle.std.proofs.Common.{◌≤◌, MatchOption, length, subst, arith}
use Rattle.ttx_page.specs.Streams.{repeated}
use Rattle.ttx_subpages.specs.Stays.{HasNone, IsLeastStay}
use Rattle.ttx_subpages.proofs.NextHeaders.{stay_of_cycle}
use Rattle.ttx_subpages.proofs.stays.least_stay.Goals as goal

pub returns : goal.returns
returns c =
    let slots = c.slots-slots.result.now in
    let past : length slots ≤ c.loop-at.at = let t = c.loop-at-test.false in omega arith in
    subst (λ s. MatchOption c.loop-at.least (HasNone (repeated s) c.args.selection) (IsLeastStay (repeated s) c.args.selection)) c.slots-slots.ensures.slots
    (stay_of_cycle c.each_slot_turns.ensures slots c.slots-slots.ensures.cycle.some c.args.selection c.streams_move.ensures c.loop-at.at past
    c.loop-at.least c.loop-at.invariant.below)
