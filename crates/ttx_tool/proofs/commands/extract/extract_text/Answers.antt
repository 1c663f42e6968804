use Rattle.std.proofs.lemmas.Option.{IfSome_then}
use Rattle.ttx_cycle.specs.Counters.{inner_of}
use Rattle.ttx_cycle.specs.Cycles.{slots_of}
use Rattle.ttx_tool.proofs.commands.extract.extract_text.Goals as goal

pub returns-in-Ok-tell-clause-bytes : goal.returns-in-Ok-tell-clause-bytes
returns-in-Ok-tell-clause-bytes g c =
    IfSome_then (g.R.Read.remaining (inner_of c.args.reader.now)) c.in-Ok.ensures.bytes
    (λ bytes is. (slots_of c.in-Ok.cycle, is, c.in-Ok-tell.ensures.told))
