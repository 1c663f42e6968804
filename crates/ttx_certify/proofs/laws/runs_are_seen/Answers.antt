use Rattle.ttx_certify.proofs.AcceptedIsSeen as L
use Rattle.ttx_certify.proofs.laws.runs_are_seen.Goals as goal

pub returns : goal.returns
returns c = L.runs_are_seen c.run_holds_its_item.ensures c.showing_is_seeing.ensures
