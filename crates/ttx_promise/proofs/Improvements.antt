-- Plans that are improved step by step.
use Rattle.std.proofs.Common.{◌≡◌, ℕ, List, [], map, Some, None, Result, Ok, Err, sym, subst}
use Rattle.ttx_cycle.specs.Cycles.{slots_of}
use Rattle.ttx_cycle.specs.declared.cycles.Cycle.{Cycle}
use Rattle.ttx_source.specs.Promises.{PromiseFields}
use Rattle.ttx_source.specs.Services.{ServiceFields, pages_of}
use Rattle.ttx_promise.specs.Deadlines.{AreDeadlines}
use Rattle.ttx_promise.specs.Lateness.{LateFields, late_of}
use Rattle.ttx_promise.specs.Promises.{IsRaised, IsSpreadFor, IsMissed, KeepsPromises, RaisesLatest, IsJudged, Improves, Ends}
use Rattle.ttx_promise.specs.Views.{late_view}
use Rattle.ttx_promise.specs.declared.promised_plan.Improved.{Improved}
use Rattle.ttx_promise.specs.declared.promised_plan.Improved.TheVariants as improved
use Rattle.ttx_promise.specs.declared.promised_plan.Missed.{Missed}
use Rattle.ttx_promise.specs.declared.promised_plan.Missed.TheVariants as missed
use Rattle.ttx_promise.specs.declared.promised_plan.Viewers.{Viewers}
use Rattle.ttx_promise.proofs.KeptPromises.{are_kept}
use Rattle.ttx_promise.proofs.RaisedPages.{same_service, further_raised}

pub judged : (v : Viewers) (promises : List PromiseFields) (old new : ServiceFields) (cycle : List (List ℕ)) (deadlines : List ℕ)
    (answer : Improved) → IsSpreadFor v.receivers.late v.receivers.class old cycle →
    AreDeadlines cycle (pages_of old) v.receivers.class v.repeat old.lines deadlines →
    RaisesLatest v.receivers.late v.receivers.class deadlines promises old new None → IsJudged (pages_of new) deadlines promises answer →
    Improves v promises old new cycle answer
judged v promises old new cycle deadlines improved.Kept plan are r j = (
  r.0,
  record {
    plan = plan;
    kept = are_kept cycle v.receivers.class v.repeat old deadlines promises are
        (subst (λ (s : ServiceFields). late_of (pages_of s) deadlines promises ≡ []) r.0 j);
  },
)
judged v promises old new cycle deadlines (improved.Raised next) plan are r j = absurd j
judged v promises old new cycle deadlines (improved.Late pages) plan are r j = (
  r.0,
  record {
    plan = plan;
    deadlines = deadlines;
    are = are;
    pages_are = subst (λ (s : ServiceFields). map late_view pages.items ≡ late_of (pages_of s) deadlines promises) r.0 j.0;
    some = j.1;
    end = r.1;
  },
)

pub ends_from : (v : Viewers) (promises : List PromiseFields) (first old new : ServiceFields) (answer : Result Cycle Missed) →
    IsRaised promises first old → Ends v promises old new answer → Ends v promises first new answer
ends_from v promises first old new (Ok cycle) r e = (further_raised promises first old new r e.0, e.1)
ends_from v promises first old new (Err (missed.Late pages)) r e = (further_raised promises first old new r e.0, e.1)
ends_from v promises first old new (Err missed.NoMemory) r e = tt

-- of a service without promises each plan keeps them all
pub none_promised : (v : Viewers) (service : ServiceFields) (cycle : Cycle) →
    IsSpreadFor v.receivers.late v.receivers.class service (slots_of cycle) → Ends v [] service service (Ok cycle)
none_promised v service cycle plan = (
  same_service [] service,
  record { plan = plan; kept = λ number promise e p at. let f : None ≡ Some promise = e in cc },
)
