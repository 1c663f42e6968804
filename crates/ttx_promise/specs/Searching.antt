-- The search for how often pages are to be sent.
--
--   MayBeRaised             one page is sent twice as often, and the cycle fits; or none
--   GoesOn                  some page with a promise is sent more often, and the cycle fits; or none
--   Begins                  the plan from which the improvement begins
use Rattle.std.specs.Prelude.{◌≡◌, ℕ, ◌<◌, Bool, true, false, List}
use Rattle.ttx_page.specs.declared.class.Class.{Class}
use Rattle.ttx_plan.specs.Spread.{IsTooLongSpread}
use Rattle.ttx_source.specs.Promises.{PromiseFields}
use Rattle.ttx_source.specs.Services.{ServiceFields}
use Rattle.ttx_promise.specs.Promises.{IsRaised, IsSpreadFor, raised, room}
use Rattle.ttx_promise.specs.declared.promised_plan.Viewers.{Viewers}

-- the page at an index sent twice as often, and the cycle fits; or the service as it was
abbrev pub MayBeRaised : Bool → Class → ℕ → ServiceFields → ServiceFields → Bool → Type 0
MayBeRaised late class index old new true = (new ≡ raised old index) × (IsTooLongSpread late class new → ⊥)
MayBeRaised late class index old new false = new ≡ old

abbrev pub GoesOn : Viewers → List PromiseFields → ServiceFields → ServiceFields → Bool → Type 0
GoesOn v promises old new true =
    IsRaised promises old new × (room new.pages < room old.pages) × (IsTooLongSpread v.receivers.late v.receivers.class new → ⊥)
GoesOn v promises old new false = new ≡ old

pub record Begins (v : Viewers) (promises : List PromiseFields) (old new : ServiceFields) (cycle : List (List ℕ)) : Type 0 where
  pub raised : IsRaised promises old new
  pub plan : IsSpreadFor v.receivers.late v.receivers.class new cycle
