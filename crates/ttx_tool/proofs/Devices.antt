-- The devices of a command that reads its inputs, of which one is refused.
use Rattle.std.proofs.Common.{◌≡◌, ◌∙◌, ℕ, ◌≤◌, List, [], ◌∷◌, ◌++◌, length, map, Option, Some, None, Result, Ok, Err, inl, inr, subst}
use Rattle.std.specs.Prelude.{IfSome}
use Rattle.std.proofs.lemmas.Option.{IfSome_then}
use Rattle.ttx_cycle.specs.Bounded.{most_bytes}
use Rattle.ttx_files.proofs.Failures.{stopped, gone_on}
use Rattle.ttx_files.specs.Devices.{Place, AtService, Device, AllRight, IsAmong, IsFirstFailure, IsRight}
use Rattle.ttx_source.specs.Services.{ServiceFields, read_bytes}
use Rattle.ttx_faults.specs.Devices.{failed_in, place_of, IsFaultOf, Fails}
use Rattle.ttx_faults.specs.declared.faults.ToolFault.{ToolFault}

module _ (es : List Device) where
  among_first : (ds : List Device) (place : Option Place) → IsAmong (map (λ d. d.place) ds) place → IsAmong (map (λ d. d.place) (ds ++ es)) place
  among_first ds None h = tt
  among_first [] (Some place) h = absurd h
  among_first (d ∷ ds) (Some place) (inl h) = inl h
  among_first (d ∷ ds) (Some place) (inr h) = inr (among_first ds (Some place) h)

-- the devices after the fault were not called
pub refused : (ds es : List Device) (fault : ToolFault) → IsFaultOf ds fault → IsFirstFailure es None → IsFaultOf (ds ++ es) fault
refused ds es fault h e = (stopped ds es (failed_in fault) h.0 e, among_first es ds (place_of fault) h.1)

among_last : (ds es : List Device) (place : Option Place) → IsAmong (map (λ d. d.place) es) place → IsAmong (map (λ d. d.place) (ds ++ es)) place
among_last [] es place h = h
among_last (d ∷ ds) es None h = tt
among_last (d ∷ ds) es (Some place) h = inr (among_last ds es (Some place) h)

-- the devices before it answered well
pub went_on : {T : Type 0} (ds es : List Device) (result : Result T ToolFault) → IsFirstFailure ds None → AllRight ds → Fails es result →
    Fails (ds ++ es) result
went_on ds es (Ok x) h right e = gone_on ds es None h right e
went_on ds es (Err fault) h right e = (gone_on ds es (failed_in fault) h right e.0, among_last ds es (place_of fault) e.1)

-- a text whose service is read is as it should be
pub service_read : (known : Option (List ℕ)) (items given : List ℕ) (service : ServiceFields) →
    IfSome known (λ bytes. (items ≡ bytes) × (length bytes ≤ most_bytes)) → given ≡ items → read_bytes given ≡ Ok service → IsRight AtService known
service_read known items given service read same is =
    IfSome_then known read
    (λ bytes r. (service, record { most = r.1; says = subst (λ xs. read_bytes xs ≡ Ok service) (same ∙ r.0) is }))
