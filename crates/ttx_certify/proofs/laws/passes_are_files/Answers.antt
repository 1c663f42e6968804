use Rattle.ttx_certify.proofs.OneFile as L
use Rattle.ttx_certify.proofs.laws.passes_are_files.Goals as goal

pub returns : goal.returns
returns c = L.passes_are_files
