use Rattle.std.proofs.Common.{◌≡◌, true, replicate, subst}
use Rattle.std.specs.Prelude.{MatchOption}
use Rattle.ttx_page.specs.declared.class.Class.TheVariants.{Any}
use Rattle.ttx_receiver.specs.Tuning.{Tuned, stepped}
use Rattle.ttx_receiver.proofs.careful.CarefulReceiver.step.Goals as goal

pub returns-clause-value : goal.returns-clause-value
returns-clause-value c =
    subst (λ (t : Tuned). MatchOption c.args.slot (c.step.new.self ≡ stepped Any true t (replicate 42 0))
    (λ s. c.step.new.self ≡ stepped Any true t s.now)) c.self.view_is c.step.ensures.value
