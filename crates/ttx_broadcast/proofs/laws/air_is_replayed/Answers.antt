use Rattle.ttx_broadcast.proofs.ReplayedSlots as L
use Rattle.ttx_broadcast.proofs.laws.air_is_replayed.Goals as goal

pub returns : goal.returns
returns g c = L.air_is_replayed g.N.Newsroom.gives g.M.Newsroom.gives c.endings_are_replayed.ensures c.each_slot_turns.ensures
