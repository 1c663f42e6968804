use Rattle.ttx_extract.proofs.NotSteady.{blamed_has_none}
use Rattle.ttx_extract.proofs.laws.blamed_cycles_have_no_service.Goals as goal

pub returns : goal.returns
returns c = λ slots some most lines. blamed_has_none c.transmissions_are_listed.ensures slots some most lines
