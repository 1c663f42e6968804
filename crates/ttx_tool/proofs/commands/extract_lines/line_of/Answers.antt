use Rattle.std.proofs.lemmas.Option.{IfSome_then}
use Rattle.ttx_cycle.specs.Counters.{inner_of}
use Rattle.ttx_cycle.specs.Cycles.{slots_of}
use Rattle.ttx_tool.proofs.commands.extract_lines.line_of.Goals as goal

pub returns-in-Ok-tell-clause-bytes : goal.returns-in-Ok-tell-clause-bytes
returns-in-Ok-tell-clause-bytes g c =
    IfSome_then (g.R.Read.remaining (inner_of c.args.reader.now)) c.in-Ok.ensures.bytes
    (λ bytes is. record { slots = slots_of c.in-Ok.cycle; cycle_is = is; named = c.in-Ok-tell.ensures.named })
