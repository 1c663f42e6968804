use Rattle.ttx_cycle.specs.Counters.{inner_of}
use Rattle.ttx_tool.proofs.Devices.{service_read}
use Rattle.ttx_tool.proofs.commands.stays.read_staying.Goals as goal

pub returns-in-Ok-define_stays-clause-faults : goal.returns-in-Ok-define_stays-clause-faults
returns-in-Ok-define_stays-clause-faults g c =
    let right = service_read (g.R.Read.remaining (inner_of c.args.reader.now)) c.in-Ok.text.items c.as_slice.result.now
    c.in-Ok-define_stays.staying.promised.service c.in-Ok.ensures.bytes c.as_slice.ensures.value c.in-Ok-define_stays.ensures.0 in
    (c.in-Ok.ensures.faults, (right, tt))
