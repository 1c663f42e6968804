use Rattle.std.proofs.Common.{◌∙◌, ap, sym, arith, inl, inr}
use Rattle.std.specs.Prelude.{slice_get}
use Rattle.std.proofs.lemmas.Bool.{cases_eq}
use Rattle.ttx_plan.specs.SubpageTurns.{take_turns}
use Rattle.ttx_plan.proofs.SubpageLists.{listed_at, first_is, takes_own_turn}
use Rattle.ttx_plan.proofs.subpage_turns.first_of_turns.Goals as goal

pub loop-other-preserved : goal.loop-other-preserved
loop-other-preserved c = λ p e k q lt f.
    elim (cases_eq k c.loop-other.other) [
      | inl same ↦ sym (c.take_turns.ensures p q e (ap (λ i. slice_get c.args.service.now.pages i) (sym same) ∙ f)) ∙ c.if-take_turns.false
      | inr apart ↦ c.loop-other.invariant p e k q (omega (arith, lt, apart)) f
    ]

pub returns-then-take_turns-clause-value : goal.returns-then-take_turns-clause-value
returns-then-take_turns-clause-value c = λ p e.
    let q = listed_at c.args.service.now.pages c.loop-other.other (omega (arith, c.loop-other-test.true, c.requires)) in
    first_is (take_turns p) c.args.service.now.pages c.loop-other.other q.0 q.1
    (sym (c.take_turns.ensures p q.0 e q.1) ∙ c.if-take_turns.true) (c.loop-other.invariant p e)

pub returns-clause-value : goal.returns-clause-value
returns-clause-value c = λ p e.
    first_is (take_turns p) c.args.service.now.pages c.args.index p e (takes_own_turn p)
    (λ k q lt f. c.loop-other.invariant p e k q (omega (arith, lt, c.loop-other-test.false)) f)
