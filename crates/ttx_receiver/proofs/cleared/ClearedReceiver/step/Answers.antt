use Rattle.std.proofs.Common.{◌≡◌, false, replicate, subst}
use Rattle.std.specs.Prelude.{MatchOption}
use Rattle.ttx_page.specs.declared.class.Class.TheVariants.{Clearing}
use Rattle.ttx_receiver.specs.Tuning.{Tuned, stepped}
use Rattle.ttx_receiver.proofs.cleared.ClearedReceiver.step.Goals as goal

pub returns-clause-value : goal.returns-clause-value
returns-clause-value c =
    subst (λ (t : Tuned). MatchOption c.args.slot (c.step.new.self ≡ stepped Clearing false t (replicate 42 0))
    (λ s. c.step.new.self ≡ stepped Clearing false t s.now)) c.self.view_is c.step.ensures.value
