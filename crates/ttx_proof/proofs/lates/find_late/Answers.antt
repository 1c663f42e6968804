use Rattle.ttx_proof.proofs.PlacesOfPages.{ok_map}
use Rattle.ttx_proof.proofs.lates.find_late.Goals as goal

pub returns : goal.returns
returns c = ok_map _ _ c.late_among.result (λ late told known. told known c.in_ok-sent.ensures) c.late_among.ensures
