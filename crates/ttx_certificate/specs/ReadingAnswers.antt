-- What the parts of the reader return, as the definitions see it.
--
--   outcome                 a value, seen by a function, or its fault
--   IsUnlessMemory          a fact, unless an allocation failed
use Rattle.std.specs.Prelude.{◌≡◌, ◌⊎◌, Result, Ok, Err}
use Rattle.ttx_certificate.specs.declared.certificate_faults.CertFault.{CertFault}
use Rattle.ttx_certificate.specs.declared.certificate_faults.CertFault.TheVariants.{NoMemory}

abbrev pub outcome : {A B : Type 0} → (A → B) → Result A CertFault → Result B CertFault
outcome seen (Ok a) = Ok (seen a)
outcome seen (Err fault) = Err fault

abbrev pub IsUnlessMemory : {A : Type 0} → Result A CertFault → Type 0 → Type 0
IsUnlessMemory (Ok a) P = P
IsUnlessMemory (Err fault) P = (fault ≡ NoMemory) ⊎ P
