use Rattle.ttx_counter.proofs.FullestCertificate.{fullest_names_all}
use Rattle.ttx_counter.proofs.completeness.fullest_names_all.Goals as goal

pub returns : goal.returns
returns c = fullest_names_all c.sure_starts_are_found.ensures
