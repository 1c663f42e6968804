use Rattle.ttx_air.specs.Endings.{playout_after}
use Rattle.ttx_air.proofs.laws.airing_is_seen.Goals as goal

pub returns : goal.returns
returns g c = λ receivers times first before after last a written fits air whole on.
    c.air_is_seen.ensures a.slots a.on_air first.edition (playout_after first.edition a.past).later a.aired.sent times written fits air whole on
