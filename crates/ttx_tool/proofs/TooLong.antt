-- What has a plan isn't too long.
use Rattle.std.proofs.Common.{◌≡◌, ◌<◌, Ok, sym, ◌∙◌, subst, arith}
use Rattle.ttx_plan.specs.Blocks.{length_bound}
use Rattle.ttx_plan.specs.Carries.{blocks_sent}
use Rattle.ttx_source.specs.Services.{ServiceFields}
use Rattle.ttx_tool.specs.PlanLaws.{PlannedIsNotTooLong}

pub planned_is_not_too_long : PlannedIsNotTooLong
planned_is_not_too_long bytes late class slots planned refused =
    let both : Ok refused.0 ≡ Ok planned.service = sym refused.1.says ∙ planned.text.says in
    let same : refused.0 ≡ planned.service = cc in
    let long : 65536 < length_bound planned.service.lines (blocks_sent late class planned.service.pages) =
    subst (λ (s : ServiceFields). 65536 < length_bound s.lines (blocks_sent late class s.pages)) same refused.2 in
    let few = planned.few in
    omega arith
