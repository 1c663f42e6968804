use Rattle.ttx_extract.proofs.SameServices.{only_one}
use Rattle.ttx_extract.proofs.laws.one_service_is_sent.Goals as goal

pub returns : goal.returns
returns c = λ slots some most lines. only_one c.transmissions_are_listed.ensures slots some most lines
