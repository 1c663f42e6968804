use Rattle.std.proofs.Common.{◌≤◌, ◌<◌, Ok, Err, refl, sym, subst, ◌∙◌}
use Rattle.ttx_cycle.specs.Cycles.{slots_of}
use Rattle.ttx_plan.specs.declared.faults.PlanFault.TheVariants.{NoPages, TooLong, NoMemory}
use Rattle.ttx_plan.specs.Acceptance.{IsPlanned}
use Rattle.ttx_plan.proofs.PlanFaults.{is_told, is_not_told, is_not_long, empty_alike, some_alike, bound_of_none}
use Rattle.ttx_plan.proofs.service_plan.plan_at.Goals as goal

pub cycle_of-requires : goal.cycle_of-requires
cycle_of-requires c = record {
  some = some_alike c.pages.result.now c.args.service.now.pages c.pages.ensures.count (sym c.if-is_empty.false ∙ c.is_empty.ensures);
  places = c.requires;
  few = subst (λ n. n ≤ 65536) c.length_bound.ensures c.if-length_bound-gt-MOST.false;
}

pub returns-in-Err-clause-no_pages : goal.returns-in-Err-clause-no_pages
returns-in-Err-clause-no_pages c = is_not_told (Err NoMemory) (Err NoPages) (λ e. cc)
    (some_alike c.pages.result.now c.args.service.now.pages c.pages.ensures.count (sym c.if-is_empty.false ∙ c.is_empty.ensures))

pub returns-in-Err-clause-too_long : goal.returns-in-Err-clause-too_long
returns-in-Err-clause-too_long c = is_not_long (Err NoMemory) (Err TooLong) (λ e. cc) c.length_bound.ensures c.if-length_bound-gt-MOST.false

pub returns-in-Ok : goal.returns-in-Ok
returns-in-Ok c = record {
  carries = c.in-Ok.ensures.carries;
  planned = c.in-Ok.ensures.planned;
  accepted = c.planned_cycles_are_accepted.ensures.accepted c.args.receivers.late c.args.receivers.class c.args.service.now
      (slots_of c.in-Ok.cycle) c.in-Ok.ensures.planned;
  followed = λ late. c.late_cycles_are_followed.ensures c.args.receivers.class c.args.service.now (slots_of c.in-Ok.cycle)
      (subst (λ b. IsPlanned b c.args.receivers.class c.args.service.now (slots_of c.in-Ok.cycle)) late c.in-Ok.ensures.planned);
  no_pages = is_not_told (Ok c.in-Ok.cycle) (Err NoPages) (λ e. cc)
      (some_alike c.pages.result.now c.args.service.now.pages c.pages.ensures.count (sym c.if-is_empty.false ∙ c.is_empty.ensures));
  too_long = is_not_long (Ok c.in-Ok.cycle) (Err TooLong) (λ e. cc) c.length_bound.ensures c.if-length_bound-gt-MOST.false;
}

pub returns-then-is_empty-clause-no_pages : goal.returns-then-is_empty-clause-no_pages
returns-then-is_empty-clause-no_pages c = is_told (Err NoPages) (Err NoPages) refl
    (empty_alike c.pages.result.now c.args.service.now.pages c.pages.ensures.count (sym c.if-is_empty.true ∙ c.is_empty.ensures))

pub returns-then-is_empty-clause-too_long : goal.returns-then-is_empty-clause-too_long
returns-then-is_empty-clause-too_long c =
    let none = empty_alike c.pages.result.now c.args.service.now.pages c.pages.ensures.count (sym c.if-is_empty.true ∙ c.is_empty.ensures) in
    is_not_told (Err NoPages) (Err TooLong) (λ e. cc)
    (bound_of_none c.args.places.now c.args.receivers.late c.args.receivers.class c.args.service.now.lines c.args.service.now.pages
    c.pages.ensures.ranges.lines_to none)

pub returns-then-length_bound-gt-MOST-clause-no_pages : goal.returns-then-length_bound-gt-MOST-clause-no_pages
returns-then-length_bound-gt-MOST-clause-no_pages c = is_not_told (Err TooLong) (Err NoPages) (λ e. cc)
    (some_alike c.pages.result.now c.args.service.now.pages c.pages.ensures.count (sym c.if-is_empty.false ∙ c.is_empty.ensures))

pub returns-then-length_bound-gt-MOST-clause-too_long : goal.returns-then-length_bound-gt-MOST-clause-too_long
returns-then-length_bound-gt-MOST-clause-too_long c =
    is_told (Err TooLong) (Err TooLong) refl (subst (λ n. 65536 < n) c.length_bound.ensures c.if-length_bound-gt-MOST.true)
