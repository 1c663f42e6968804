use Rattle.std.proofs.Common.{rules, ◌≡◌, suc, ◌+◌, take, sym, ap, ◌∙◌, subst, arith}
use Rattle.std.proofs.Math.Seq.{take-suc}
use Rattle.ttx_certify.specs.walks.Passing.{Stands}
use Rattle.ttx_certify.proofs.acceptance.second_pass.Goals as goal

pub loop-i-preserved : goal.loop-i-preserved
loop-i-preserved c =
    let slots = c.slots-slots.result.now in
    let i = c.loop-i.i in
    let e : i + 1 ≡ suc i = omega arith in
    record {
      stands = λ begun. subst (Stands c.second.new.self slots) (sym (ap (λ n. take n slots) e ∙ take-suc slots i _ c.loop-i-test.true))
          (c.second.ensures.stands slots (take i slots) (c.loop-i.invariant.stands begun));
      pages = search rules;
      certificate = search rules;
    }
