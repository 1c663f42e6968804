use Rattle.std.proofs.Common.{IfOk, MatchOption, subst}
use Rattle.ttx_cycle.specs.Cycles.{slots_of}
use Rattle.ttx_certify.proofs.AuthoredIds.{distinct_ids}
use Rattle.ttx_possible.specs.Values.{NoneHas, AreFirst}
use Rattle.ttx_possible.proofs.line_values.first_values.Goals as goal

pub values_of-requires : goal.values_of-requires
values_of-requires c = record {
  distinct = distinct_ids c.pages.result.now c.args.service.now.pages c.pages.ensures.value c.pages.ensures.ranges.distinct;
}

pub returns : goal.returns
returns c =
    let slots = slots_of c.args.cycle.now in
    subst (λ pages. IfOk c.values_of.result (λ found. MatchOption found (NoneHas slots pages) (AreFirst slots pages))) c.pages.ensures.value
    c.values_of.ensures
