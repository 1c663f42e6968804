use Rattle.ttx_subpages.proofs.ShownStays as L
use Rattle.ttx_subpages.proofs.laws.stays_are_shown.Goals as goal

pub returns : goal.returns
returns c = L.stays_are_shown
