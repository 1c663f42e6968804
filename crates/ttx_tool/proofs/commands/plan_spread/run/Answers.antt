use Rattle.std.proofs.Common.{Ok, sym, subst, inl, inr}
use Rattle.std.proofs.lemmas.Option.{IfSome_then}
use Rattle.ttx_cycle.specs.Counters.{inner_of}
use Rattle.ttx_tool.proofs.ShownFile.{keeps_same}
use Rattle.ttx_tool.specs.SpreadPlans.{IsMissedText, Spreads}
use Rattle.ttx_tool.proofs.commands.plan_spread.run.Goals as goal

pub returns-in-Ok-Kept-clause-bytes : goal.returns-in-Ok-Kept-clause-bytes
returns-in-Ok-Kept-clause-bytes g c =
    IfSome_then (g.R.Read.remaining (inner_of c.args.reader.now)) c.in-Ok-Kept.ensures.bytes
    (λ bytes plans. inl (
      c.in-Ok-Kept.cycle,
      subst (λ s. Spreads bytes c.args.viewers (Ok s)) c.in-Ok-Kept.field-0-is plans,
      c.write_plan.ensures.bytes,
    ))

pub returns-in-Ok-Missed-clause-bytes : goal.returns-in-Ok-Missed-clause-bytes
returns-in-Ok-Missed-clause-bytes g c =
    IfSome_then (g.R.Read.remaining (inner_of c.args.reader.now)) c.in-Ok-Missed.ensures.bytes
    (λ bytes missed. inr (inl (
      c.as_str.result.now,
      subst (IsMissedText bytes c.args.viewers) (sym c.as_str.ensures.value)
          (subst (λ s. Spreads bytes c.args.viewers (Ok s)) c.in-Ok-Missed.field-0-is missed),
      keeps_same (g.O.Write.contents (inner_of c.args.file.now)),
      c.write_text.ensures.bytes,
    )))
