use Rattle.std.proofs.Common.{ℕ, ◌<◌, sym, subst}
use Rattle.std.proofs.lemmas.Bool.{ltb-true, lt-ltb}
use Rattle.ttx_plan.proofs.PlanFaults.{exactly_too_long}
use Rattle.ttx_plan.proofs.service_plan.is_too_long_spread.Goals as goal

pub returns : goal.returns
returns c =
    let bound = c.length_bound-bound.ensures in
    let exact = exactly_too_long c.spread_places.result c.args.receivers.late c.args.receivers.class c.args.service.now
    c.pages-pages.ensures.ranges c.spread_places.ensures.spread in (
      λ long. exact.0 (subst (λ (n : ℕ). 65536 < n) bound (ltb-true 65536 c.length_bound-bound.result long)),
      λ long. lt-ltb 65536 c.length_bound-bound.result (subst (λ (n : ℕ). 65536 < n) (sym bound) (exact.1 long)),
    )
