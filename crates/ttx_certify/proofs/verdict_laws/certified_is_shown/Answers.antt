use Rattle.ttx_certify.proofs.CertifiedIsShown.{certified_is_shown}
use Rattle.ttx_certify.proofs.verdict_laws.certified_is_shown.Goals as goal

pub returns : goal.returns
returns c = certified_is_shown c.accepted_is_seen.ensures c.memories_are_former.ensures
