use Rattle.std.proofs.Common.{Ok, refl}
use Rattle.std.proofs.lemmas.Option.{IfSome_then}
use Rattle.ttx_cycle.specs.Counters.{inner_of}
use Rattle.ttx_tool.proofs.PlanOfText.{plan_of}
use Rattle.ttx_tool.proofs.commands.plan.plan_text.Goals as goal

-- src/commands/plan.rt:25:1
pub returns-in-Ok-plan_with-clause-bytes : goal.returns-in-Ok-plan_with-clause-bytes
returns-in-Ok-plan_with-clause-bytes g c =
    let kept = c.in-Ok-plan_with.ensures in
    IfSome_then (g.R.Read.remaining (inner_of c.args.reader.now)) c.in-Ok.ensures.bytes
    (λ bytes text. plan_of bytes c.args.receivers.late c.args.receivers.class c.in-Ok.service c.in-Ok-plan_with.cycle
    (Ok c.in-Ok-plan_with.cycle) refl text kept.carries kept.planned kept.too_long)
