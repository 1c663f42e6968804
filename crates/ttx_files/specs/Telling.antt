-- What is written of a result.
--
--   IsTold          the result for some files: the verdict and its line; or why the files are refused
--   Tells           the line went out and the verdict is returned; or a fault is returned, and nothing goes out
use Rattle.std.specs.Prelude.{◌≡◌, ℕ, ◌<◌, List, length, take, string_bytes, Option, Result, Ok, Err}
use Rattle.std.specs.Io.KnownBytes.{Appends}
use Rattle.ttx_cycle.specs.Counts.{HasRisen}
use Rattle.ttx_files.specs.declared.faults.FilesFault.{FilesFault}
use Rattle.ttx_files.specs.declared.faults.FilesFault.TheVariants.{Write}
use Rattle.ttx_files.specs.declared.told.Told.{Told}

abbrev pub IsTold : {V : Type 0} → (V → List ℕ → Type 0) → (FilesFault → Type 0) → Result (Told V) FilesFault → Type 0
IsTold Answers Refused (Ok told) = Answers told.verdict (string_bytes told.line)
IsTold Answers Refused (Err fault) = Refused fault

-- with what the writer holds, and how many of its calls had failed, before and after
abbrev pub Tells : {V : Type 0} → Result (Told V) FilesFault → Option (List ℕ) → Option (List ℕ) → ℕ → ℕ → Result V FilesFault → Type 0
Tells (Err fault) old new failed_old failed_new result = (result ≡ Err fault) × (new ≡ old) × (failed_new ≡ failed_old)
Tells (Ok told) old new failed_old failed_new (Ok verdict) =
    (verdict ≡ told.verdict) × Appends old new (string_bytes told.line) × (failed_new ≡ failed_old)
Tells (Ok told) old new failed_old failed_new (Err (Write written)) =
    (written < length (string_bytes told.line)) × Appends old new (take written (string_bytes told.line)) × HasRisen failed_old failed_new
Tells (Ok told) old new failed_old failed_new (Err _) = ⊥
