use Rattle.std.proofs.Common.{string_bytes}
use Rattle.ttx_counter.specs.Counters.{counter_run_of}
use Rattle.ttx_cycle.specs.Counters.{inner_of}
use Rattle.ttx_cycle.specs.Cycles.{slots_of}
use Rattle.ttx_tool.proofs.ReplayInputs.{replaying_of}
use Rattle.ttx_tool.proofs.commands.replay.replay_files.Goals as goal

pub returns-in-Ok-tell-clause-bytes : goal.returns-in-Ok-tell-clause-bytes
returns-in-Ok-tell-clause-bytes g c =
    let told = c.in-Ok-tell.told in
    replaying_of (g.T.Teller.says c.args.teller.now) (slots_of c.in-Ok.inputs.cycle) c.in-Ok.inputs.service (counter_run_of c.in-Ok-read_run.counter)
    (string_bytes told.line) told.verdict c.in-Ok-tell.ensures (g.A.Read.remaining (inner_of c.args.cycle.now))
    (g.B.Read.remaining (inner_of c.args.service.now)) (g.C.Read.remaining (inner_of c.args.counter.now))
    c.in-Ok.ensures.bytes c.in-Ok-read_run.ensures.bytes
