use Rattle.std.proofs.Common.{inl, inr}
use Rattle.ttx_counter.proofs.StarvedFrom.{within_all}
use Rattle.ttx_counter.proofs.starvation_start.after_owner.Goals as goal

pub returns-in-Some : goal.returns-in-Some
returns-in-Some c = inl (c.in-Some.t, c.in-Some.ensures.0, c.in-Some.ensures.1, c.slot_after.ensures)

pub returns-in-None : goal.returns-in-None
returns-in-None c = inr c.in-None.ensures

pub slot_after-requires-clause-small : goal.slot_after-requires-clause-small
slot_after-requires-clause-small c = within_all c.args.sent.now c.requires.within c.in-Some.t c.in-Some.ensures.0
