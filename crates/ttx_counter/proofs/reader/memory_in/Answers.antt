use Rattle.std.proofs.Common.{◌≡◌, true, false}
use Rattle.ttx_counter.proofs.ReadParts.{memory_fits}
use Rattle.ttx_counter.proofs.reader.memory_in.Goals as goal

differ : false ≡ true → ⊥
differ e = cc

pub returns-in-None : goal.returns-in-None
returns-in-None c =
    absurd (differ (c.in-None.ensures.some.1
    (memory_fits c.read_rows-rows.result c.after_first.result.now c.control_of-control.result.0 c.small-age.result
    c.number_at.result _ _ _
    c.read_rows-rows.ensures c.control_of-control.ensures c.small-age.ensures.small)))
