-- The first device that failed, where a call turns to several devices in parts.
use Rattle.std.proofs.Common.{ℕ, List, [], ◌∷◌, ◌++◌, Option, Some, None, Result, Ok, Err, IfOk, inl, inr, refl, sym, subst}
use Rattle.ttx_files.specs.Devices.{Place, AtOutput, Device, output, IsFirstFailure, AllRight, failed_at}
use Rattle.ttx_files.specs.Telling.{Tells}
use Rattle.ttx_files.specs.declared.faults.FilesFault.{FilesFault}
use Rattle.ttx_files.specs.declared.faults.FilesFault.TheVariants.{Cycle, Service, Certificate, Read, TooLong, Write, NoMemory}
use Rattle.ttx_files.specs.declared.told.Told.{Told}

-- the devices after the answer were not called
pub stopped : (ds es : List Device) (told : Option Place) → IsFirstFailure ds told → IsFirstFailure es None → IsFirstFailure (ds ++ es) told
stopped [] es None h e = e
stopped [] es (Some place) h e = absurd h
stopped (d ∷ ds) es None h e = (h.0, stopped ds es None h.1 e)
stopped (d ∷ ds) es (Some place) (inl h) e = inl (h.0, h.1, stopped ds es None h.2 e)
stopped (d ∷ ds) es (Some place) (inr h) e = inr (h.0, h.1, stopped ds es (Some place) h.2 e)

-- the devices before it answered well
pub gone_on : (ds es : List Device) (told : Option Place) → IsFirstFailure ds None → AllRight ds → IsFirstFailure es told → IsFirstFailure (ds ++ es) told
gone_on [] es told h right e = e
gone_on (d ∷ ds) es None h right e = (h.0, gone_on ds es None h.1 right.1 e)
gone_on (d ∷ ds) es (Some place) h right e = inr (h.0, right.0, gone_on ds es (Some place) h.1 right.1 e)

-- the line of what is told is written after the devices were read
module _ {V : Type 0} (ds : List Device) (old new : Option (List ℕ)) (n m : ℕ) where
  well : (told : Told V) (result : Result V FilesFault) → IsFirstFailure ds None → AllRight ds → Tells (Ok told) old new n m result →
      IsFirstFailure (ds ++ output n m ∷ []) (failed_at result)
  well told (Ok verdict) h right out = gone_on ds (output n m ∷ []) None h right (out.2, tt)
  well told (Err (Write k)) h right out = gone_on ds (output n m ∷ []) (Some AtOutput) h right (inl (refl, out.2, tt))
  well told (Err (Cycle f)) h right out = absurd out
  well told (Err (Service f)) h right out = absurd out
  well told (Err (Certificate f)) h right out = absurd out
  well told (Err (Read f)) h right out = absurd out
  well told (Err (TooLong f)) h right out = absurd out
  well told (Err NoMemory) h right out = absurd out

  pub told_after : {P : Type 0} → (P → AllRight ds) → (told : Result (Told V) FilesFault) (result : Result V FilesFault) →
      IsFirstFailure ds (failed_at told) → IfOk told (λ _. P) → Tells told old new n m result → IsFirstFailure (ds ++ output n m ∷ []) (failed_at result)
  told_after all (Ok told) result h right out = well told result h (all right) out
  told_after all (Err fault) result h right out =
      subst (λ r. IsFirstFailure (ds ++ output n m ∷ []) (failed_at r)) (sym out.0)
      (stopped ds (output n m ∷ []) (failed_at {T = V} (Err fault)) h (out.2, tt))

-- no device of these is written to
abbrev pub is_input : Place → Type 0
is_input AtOutput = ⊥
is_input _ = Unit {0}

abbrev pub AreInputs : List Device → Type 0
AreInputs [] = Unit {0}
AreInputs (d ∷ ds) = is_input d.place × AreInputs ds

pub no_write : (ds : List Device) → AreInputs ds → IsFirstFailure ds (Some AtOutput) → ⊥
no_write [] all h = h
no_write (d ∷ ds) all (inl h) = subst is_input h.0 all.0
no_write (d ∷ ds) all (inr h) = no_write ds all.1 h.2
