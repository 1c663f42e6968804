-- The faults of the program, as faults of the definitions.
--
--   fault_of       a fault
--   outcome_in_page         a value under a view, or its fault and the page that the fault is in
--   IsSourceUnlessMemory    a fact that holds unless an allocation failed
use Rattle.std.specs.Prelude.{◌≡◌, ◌⊎◌, ℕ, Result, Ok, Err}
use Rattle.ttx_source.specs.Values.{Fault, not_toml, missing, wrong_kind, wrong_page_number, wrong_subcode, duplicate}
use Rattle.ttx_source.specs.Values.{too_long, wrong_character, wrong_often, out_of_range, no_memory}
use Rattle.ttx_source.specs.declared.faults.SourceError.{SourceError}
use Rattle.ttx_source.specs.declared.faults.SourceFault.{SourceFault}
use Rattle.ttx_source.specs.declared.faults.SourceFault.TheVariants.{NotToml, Missing, Kind, PageNumber, Subcode, Duplicate}
use Rattle.ttx_source.specs.declared.faults.SourceFault.TheVariants.{RowTooLong, Character, Often, Range, NoMemory}

abbrev pub fault_of : SourceFault → Fault
fault_of NotToml = not_toml
fault_of (Missing key) = missing key.now
fault_of (Kind key) = wrong_kind key.now
fault_of PageNumber = wrong_page_number
fault_of Subcode = wrong_subcode
fault_of Duplicate = duplicate
fault_of RowTooLong = too_long
fault_of Character = wrong_character
fault_of Often = wrong_often
fault_of (Range key) = out_of_range key.now
fault_of NoMemory = no_memory

-- a value under a view, or the fault and its page
abbrev pub outcome_in_page : {A B : Type 0} → (A → B) → Result A SourceError → Result B (Fault × ℕ)
outcome_in_page seen (Ok a) = Ok (seen a)
outcome_in_page seen (Err e) = Err (fault_of e.fault, e.page)

-- a failed allocation is reported with page 0
abbrev pub IsSourceUnlessMemory : {A : Type 0} → Result A SourceError → Type 0 → Type 0
IsSourceUnlessMemory (Ok a) P = P
IsSourceUnlessMemory (Err e) P = (e ≡ record { fault = NoMemory; page = 0 }) ⊎ P
