-- The text of a service with promises, alone and with a packet file.
--
--   IsPromisedText          the service and the promises of a text
--   no_memory               the error of a failed allocation
--   IsFaultBy, DefinesBy    why there is no service with promises, by how both are read, and what is returned
--   IsPromisedFault, DefinesPromised        the same for a text
--   IsNoPromisedText, ReadsDefined          the same for a text that is read
--   IsNoPromisedInput, ReadsPromisedInputs  the same for a packet file and a text
use Rattle.std.specs.Prelude.{◌≡◌, ◌⊎◌, ℕ, ◌≤◌, List, map, length, ⊤, Result, Ok, Err}
use Rattle.ttx_cycle.specs.Bounded.{most_bytes}
use Rattle.ttx_cycle.specs.Cycles.{slots_of}
use Rattle.ttx_cycle.specs.Files.{IsPacketFile}
use Rattle.ttx_cycle.specs.Reading.{Judged}
use Rattle.ttx_files.specs.Texts.{IsServiceText}
use Rattle.ttx_files.specs.declared.faults.FilesFault.TheVariants.{Cycle, Service, NoMemory}
use Rattle.ttx_source.specs.Faults.{fault_of}
use Rattle.ttx_source.specs.PromiseViews.{promise_view}
use Rattle.ttx_source.specs.Promises.{PromiseFields, read_promises}
use Rattle.ttx_source.specs.Services.{ServiceFields, read_bytes}
use Rattle.ttx_source.specs.Values.{Fault}
use Rattle.ttx_source.specs.declared.faults.SourceError.{SourceError}
use Rattle.ttx_source.specs.declared.faults.SourceFault.TheVariants as source
use Rattle.ttx_tool.specs.Plan.{IsNoText}
use Rattle.ttx_tool.specs.declared.commands.promised.Defined.{Defined}
use Rattle.ttx_tool.specs.declared.commands.promised.Promised.{Promised}
use Rattle.ttx_tool.specs.declared.commands.promised.PromisedInputs.{PromisedInputs}
use Rattle.ttx_faults.specs.declared.faults.ToolFault.{ToolFault}
use Rattle.ttx_faults.specs.declared.faults.ToolFault.TheVariants.{Files}

abbrev pub no_memory : SourceError
no_memory = record { fault = source.NoMemory; page = 0 }

pub record IsPromisedText (bytes : List ℕ) (service : ServiceFields) (promises : List PromiseFields) : Type 0 where
  pub text : IsServiceText bytes service
  pub promised : read_promises bytes ≡ Ok promises

-- why a service is refused, or its promises are
abbrev pub IsFaultBy : Result ServiceFields (Fault × ℕ) → Result (List PromiseFields) (Fault × ℕ) → SourceError → Type 0
IsFaultBy read promised error =
    (error ≡ no_memory)
    ⊎ (read ≡ Err (fault_of error.fault, error.page))
    ⊎ ((service : ServiceFields) × (read ≡ Ok service) × (promised ≡ Err (fault_of error.fault, error.page)))

abbrev pub DefinesBy : Result ServiceFields (Fault × ℕ) → Result (List PromiseFields) (Fault × ℕ) → Result Promised SourceError → Type 0
DefinesBy read promised (Ok found) = (read ≡ Ok found.service) × (promised ≡ Ok (map promise_view found.promises.items))
DefinesBy read promised (Err error) = IsFaultBy read promised error

abbrev pub IsPromisedFault : List ℕ → SourceError → Type 0
IsPromisedFault bytes = IsFaultBy (read_bytes bytes) (read_promises bytes)

abbrev pub DefinesPromised : List ℕ → Result Promised SourceError → Type 0
DefinesPromised bytes = DefinesBy (read_bytes bytes) (read_promises bytes)

abbrev pub IsNoPromisedText : List ℕ → ToolFault → Type 0
IsNoPromisedText bytes (Files (Service error)) = (length bytes ≤ most_bytes) × IsPromisedFault bytes error
IsNoPromisedText bytes fault = IsNoText bytes fault

-- with the bytes of the text
abbrev pub ReadsDefined : List ℕ → Result Defined ToolFault → Type 0
ReadsDefined bytes (Ok d) = IsPromisedText bytes d.promised.service (map promise_view d.promised.promises.items) × (d.text.items ≡ bytes)
ReadsDefined bytes (Err fault) = IsNoPromisedText bytes fault

-- why nothing is read of a packet file and the text of a service with promises
abbrev pub IsNoPromisedInput : List ℕ → List ℕ → ToolFault → Type 0
IsNoPromisedInput a b (Files (Cycle fault)) = Judged a (Err fault)
IsNoPromisedInput a b (Files NoMemory) = ⊤
IsNoPromisedInput a b fault = (slots : List (List ℕ)) × IsPacketFile a slots × IsNoPromisedText b fault

abbrev pub ReadsPromisedInputs : List ℕ → List ℕ → Result PromisedInputs ToolFault → Type 0
ReadsPromisedInputs a b (Ok inputs) =
    IsPacketFile a (slots_of inputs.cycle)
    × IsPromisedText b inputs.promised.service (map promise_view inputs.promised.promises.items)
ReadsPromisedInputs a b (Err fault) = IsNoPromisedInput a b fault
