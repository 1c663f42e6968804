-- What goes out of what is told.
use Rattle.std.proofs.Common.{ℕ, List, Option, Some, None, Result, Ok, Err, refl, sym, subst, string_bytes}
use Rattle.std.specs.Io.KnownBytes.{Keeps}
use Rattle.ttx_files.specs.Answers.{WritesAnswer}
use Rattle.ttx_files.specs.Devices.{Device, IsFirstFailure, failed_at}
use Rattle.ttx_files.specs.Telling.{IsTold, Tells}
use Rattle.ttx_files.specs.declared.faults.FilesFault.{FilesFault}
use Rattle.ttx_files.specs.declared.faults.FilesFault.TheVariants.{Cycle, Service, Certificate, Read, TooLong, Write, NoMemory}
use Rattle.ttx_files.specs.declared.told.Told.{Told}
use Rattle.ttx_files.proofs.Failures.{AreInputs, no_write}

-- nothing went out
pub keeps_same : (known : Option (List ℕ)) → Keeps known known
keeps_same None = tt
keeps_same (Some xs) = refl

-- the line that went out of what is told
module _ {V : Type 0} (Answers : V → List ℕ → Type 0) (Refused : FilesFault → Type 0) (old : Option (List ℕ)) where
  written : (told : Told V) (new : Option (List ℕ)) (n m : ℕ) (result : Result V FilesFault) → Answers told.verdict (string_bytes told.line) →
      Tells (Ok told) old new n m result → WritesAnswer Answers Refused old new result
  written told new n m (Ok verdict) h out =
      (string_bytes told.line, subst (λ v. Answers v (string_bytes told.line)) (sym out.0) h, out.1)
  written told new n m (Err (Write k)) h out = (string_bytes told.line, told.verdict, h, out.0, out.1)
  written told new n m (Err (Cycle f)) h out = absurd out
  written told new n m (Err (Service f)) h out = absurd out
  written told new n m (Err (Certificate f)) h out = absurd out
  written told new n m (Err (Read f)) h out = absurd out
  written told new n m (Err (TooLong f)) h out = absurd out
  written told new n m (Err NoMemory) h out = absurd out

-- what went out, by what is told of the files
module _ {V : Type 0} (Answers : V → List ℕ → Type 0) (Refused : FilesFault → Type 0) (none : (written : ℕ) → Refused (Write written) → ⊥)
    (old : Option (List ℕ)) where
  refused : (fault : FilesFault) → Refused fault → WritesAnswer {V = V} Answers Refused old old (Err fault)
  refused (Write written) h = absurd (none written h)
  refused (Cycle f) h = (h, keeps_same old)
  refused (Service f) h = (h, keeps_same old)
  refused (Certificate f) h = (h, keeps_same old)
  refused (Read which) h = (h, keeps_same old)
  refused (TooLong which) h = (h, keeps_same old)
  refused NoMemory h = (h, keeps_same old)

  pub writes_answer : (told : Result (Told V) FilesFault) (new : Option (List ℕ)) (n m : ℕ) (result : Result V FilesFault) →
      IsTold Answers Refused told → Tells told old new n m result → WritesAnswer Answers Refused old new result
  writes_answer (Ok told) new n m result h out = written Answers Refused old told new n m result h out
  writes_answer (Err fault) new n m result h out =
      subst (λ r. WritesAnswer Answers Refused old new r) (sym out.0)
      (subst (λ known. WritesAnswer {V = V} Answers Refused old known (Err fault)) (sym out.1) (refused fault h))

-- the same, where what is told is of devices that are read
module _ {V : Type 0} (Answers : V → List ℕ → Type 0) (Refused : FilesFault → Type 0) (ds : List Device) (all : AreInputs ds) (old new : Option (List ℕ))
    (n m : ℕ) where
  kept : (fault : FilesFault) → IsFirstFailure ds (failed_at {T = V} (Err fault)) → Refused fault → WritesAnswer {V = V} Answers Refused old old (Err fault)
  kept (Write written) failed h = absurd (no_write ds all failed)
  kept (Cycle f) failed h = (h, keeps_same old)
  kept (Service f) failed h = (h, keeps_same old)
  kept (Certificate f) failed h = (h, keeps_same old)
  kept (Read which) failed h = (h, keeps_same old)
  kept (TooLong which) failed h = (h, keeps_same old)
  kept NoMemory failed h = (h, keeps_same old)

  pub answers_read : (told : Result (Told V) FilesFault) (result : Result V FilesFault) → IsFirstFailure ds (failed_at told) →
      IsTold Answers Refused told → Tells told old new n m result → WritesAnswer Answers Refused old new result
  answers_read (Ok told) result failed h out = written Answers Refused old told new n m result h out
  answers_read (Err fault) result failed h out =
      subst (λ r. WritesAnswer Answers Refused old new r) (sym out.0)
      (subst (λ known. WritesAnswer {V = V} Answers Refused old known (Err fault)) (sym out.1) (kept fault failed h))
