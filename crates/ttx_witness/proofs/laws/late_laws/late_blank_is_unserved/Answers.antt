use Rattle.ttx_witness.proofs.lemmas.laws.Unserved as U
use Rattle.ttx_witness.proofs.laws.late_laws.late_blank_is_unserved.Goals as goal

pub returns : goal.returns
returns c = U.late_blank_is_unserved c.headers_are_judged.ensures
