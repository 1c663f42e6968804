-- The faults of the values at keys, as faults of the definitions.
--
--   key_name         the name of a key
--   key_fault_of     a fault of a key's value
--   key_outcome      a value under a view, or its fault
--   read_fault_of    a fault and its page
--   read_outcome     a value under a view, or its fault and page
--   in_no_memory, out_of_memory    a failed allocation, and its error
--   IsReadUnlessMemory    a fact that holds unless an allocation failed
use Rattle.std.specs.Prelude.{◌≡◌, ◌⊎◌, ℕ, List, codes, Result, Ok, Err}
use Rattle.ttx_source.specs.Values.{Fault, missing, wrong_kind, wrong_page_number, wrong_subcode, duplicate}
use Rattle.ttx_source.specs.Values.{too_long, wrong_character, wrong_often, out_of_range, no_memory}
use Rattle.ttx_source.specs.declared.faults.SourceError.{SourceError}
use Rattle.ttx_source.specs.declared.faults.SourceFault.TheVariants as source
use Rattle.ttx_source.specs.declared.keys.Key.{Key}
use Rattle.ttx_source.specs.declared.keys.Key.TheVariants as key
use Rattle.ttx_source.specs.declared.key_faults.KeyFault.{KeyFault}
use Rattle.ttx_source.specs.declared.key_faults.KeyFault.TheVariants.{Missing, Kind, PageNumber, Subcode, Duplicate}
use Rattle.ttx_source.specs.declared.key_faults.KeyFault.TheVariants.{RowTooLong, Character, Often, Range}
use Rattle.ttx_source.specs.declared.key_faults.ReadFault.{ReadFault}
use Rattle.ttx_source.specs.declared.key_faults.ReadFault.TheVariants.{InPage, NoMemory}

abbrev pub key_name : Key → List ℕ
key_name key.Lines = codes "lines"
key_name key.Serial = codes "serial"
key_name key.Info = codes "info"
key_name key.Designation = codes "designation"
key_name key.Initial = codes "initial"
key_name key.Network = codes "network"
key_name key.Halves = codes "halves"
key_name key.Mjd = codes "mjd"
key_name key.Utc = codes "utc"
key_name key.Text = codes "text"
key_name key.Page = codes "page"
key_name key.Number = codes "number"
key_name key.Sub = codes "sub"
key_name key.Often = codes "often"
key_name key.Option = codes "option"
key_name key.Newsflash = codes "newsflash"
key_name key.Subtitle = codes "subtitle"
key_name key.Suppress = codes "suppress"
key_name key.Update = codes "update"
key_name key.Interrupted = codes "interrupted"
key_name key.Inhibit = codes "inhibit"
key_name key.Head = codes "head"
key_name key.Rows = codes "rows"
key_name key.Links = codes "links"
key_name key.Row24 = codes "row24"
key_name key.Crc = codes "crc"
key_name key.Within = codes "within"
key_name key.Stays = codes "stays"

abbrev pub key_fault_of : KeyFault → Fault
key_fault_of (Missing k) = missing (key_name k)
key_fault_of (Kind k) = wrong_kind (key_name k)
key_fault_of PageNumber = wrong_page_number
key_fault_of Subcode = wrong_subcode
key_fault_of Duplicate = duplicate
key_fault_of RowTooLong = too_long
key_fault_of Character = wrong_character
key_fault_of Often = wrong_often
key_fault_of (Range k) = out_of_range (key_name k)

-- a value under a view, or its fault
abbrev pub key_outcome : {A B : Type 0} → (A → B) → Result A KeyFault → Result B Fault
key_outcome seen (Ok a) = Ok (seen a)
key_outcome seen (Err e) = Err (key_fault_of e)

-- a failed allocation, here and as an error of the program
abbrev pub in_no_memory : ReadFault
in_no_memory = NoMemory

abbrev pub out_of_memory : SourceError
out_of_memory = record { fault = source.NoMemory; page = 0 }

abbrev pub read_fault_of : ReadFault → Fault × ℕ
read_fault_of (InPage page fault) = (key_fault_of fault, page)
read_fault_of NoMemory = (no_memory, 0)

abbrev pub read_outcome : {A B : Type 0} → (A → B) → Result A ReadFault → Result B (Fault × ℕ)
read_outcome seen (Ok a) = Ok (seen a)
read_outcome seen (Err e) = Err (read_fault_of e)

abbrev pub IsReadUnlessMemory : {A : Type 0} → Result A ReadFault → Type 0 → Type 0
IsReadUnlessMemory (Ok a) P = P
IsReadUnlessMemory (Err e) P = (e ≡ NoMemory) ⊎ P
