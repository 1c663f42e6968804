use Rattle.ttx_air.proofs.ServedReceivers as L
use Rattle.ttx_air.proofs.laws.airing_is_shown.Goals as goal

pub returns : goal.returns
returns g c = L.airing_is_shown g.N.Newsroom.gives c.air_is_shown.ensures c.editions_are_taken.ensures c.through_is_while.ensures c.through_goes_on.ensures
