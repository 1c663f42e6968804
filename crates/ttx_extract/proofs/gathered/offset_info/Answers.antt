use Rattle.ttx_cycle.specs.Cycles.{slots_of}
use Rattle.ttx_extract.proofs.FirstInfos.{offset_told}
use Rattle.ttx_extract.proofs.gathered.offset_info.Goals as goal

pub returns-in-None-clause-offset : goal.returns-in-None-clause-offset
returns-in-None-clause-offset c =
    offset_told (slots_of c.args.cycle.now) c.first_info-found.result c.first_info-found.ensures c.in-None.ensures
