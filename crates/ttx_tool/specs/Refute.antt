-- What `refute` writes for a packet file, the text of a service and that of a certificate.
--
--   counter_line, counter_numbers    the line of a counter-run, and what it says after the page
--   said_counter, said_none what is said of a counter-run, and that there is none: a line, or a JSON object
--   saved                   the text that is kept of it, where it is asked for
--   IsCounterTold           a counter-run of the first page that is wrong, and its line
--   TellsAnswer             what goes out where there is a counter-run, and where there is none
--   IsRefutation, IsRefutingFiles    what is found of a cycle, a service and a certificate, and of their texts, and what goes out
--   IsNoClass, IsClassFault, IsNoRefuting, RefutesText    why nothing is looked for; what is returned
--   RefutesFiles            what was written to the counter-run's file and to the output, for each answer
use Rattle.std.specs.Prelude.{◌≡◌, ◌↔◌, ℕ, Bool, true, false, List, [], ◌∷◌, ◌++◌, length, slice_get, codes, string_bytes, is_some, ⊤, Option, Some, None}
use Rattle.std.specs.Prelude.{Result, Ok, Err, if◌then◌else◌}
use Rattle.std.specs.Fmt.{decimal}
use Rattle.std.specs.Io.KnownBytes.{Keeps}
use Rattle.ttx_cycle.specs.Files.{IsPacketFile}
use Rattle.ttx_files.specs.Answers.{WritesBoth}
use Rattle.ttx_files.specs.Inputs.{IsRefused}
use Rattle.ttx_files.specs.Texts.{IsServiceText, IsCertificateText}
use Rattle.ttx_files.specs.declared.faults.FilesFault.TheVariants.{Write, NoMemory}
use Rattle.ttx_files.specs.declared.told.Filed.{Filed}
use Rattle.ttx_counter.specs.Counters.{CounterRun}
use Rattle.ttx_counter.specs.CounterTexts.{counter_text}
use Rattle.ttx_counter.specs.Refutations.{IsCounterTo, IsFirstTold, IsUnrefuted}
use Rattle.ttx_header.specs.Ids.{Id}
use Rattle.ttx_page.specs.Pages.{Page}
use Rattle.ttx_page.specs.declared.class.Class.{Class as ClassOf}
use Rattle.ttx_page.specs.declared.class.Class.TheVariants.{Any, Clearing}
use Rattle.ttx_records.specs.Counters.{counter_record, none_record}
use Rattle.ttx_source.specs.Services.{ServiceFields, pages_of}
use Rattle.ttx_tool.specs.declared.commands.refute.Asked.{Asked}
use Rattle.ttx_faults.specs.declared.faults.ToolFault.{ToolFault}
use Rattle.ttx_faults.specs.declared.faults.ToolFault.TheVariants.{Files, Class}
use Rattle.ttx_digits.specs.PageIds.{id_text}
use Rattle.ttx_certificate.specs.Entries.{CertificateFields, certificate_at}
use Rattle.ttx_witness.specs.search.Finding.{IsSentUnchanged, CanBeAccepted}

-- the page, the first slot and how many, and how many wrong bits and choices
abbrev pub counter_line : Id → CounterRun → List ℕ
counter_line id c =
    codes "counter " ++ id_text id ++ codes " start " ++ decimal c.start ++ codes " slots " ++ decimal c.slots ++ codes " hits "
    ++ decimal (length c.hits)
    ++ codes " choices " ++ decimal (length c.choices) ++ 10 ∷ []

-- the same but the page
abbrev pub counter_numbers : CounterRun → List ℕ
counter_numbers c =
    codes " start " ++ decimal c.start ++ codes " slots " ++ decimal c.slots ++ codes " hits " ++ decimal (length c.hits)
    ++ codes " choices " ++ decimal (length c.choices)

abbrev pub said_counter : Bool → Id → CounterRun → List ℕ
said_counter false id c = counter_line id c
said_counter true id c = counter_record id c

abbrev pub said_none : Bool → List ℕ
said_none false = codes "none" ++ 10 ∷ []
said_none true = none_record

abbrev pub saved : Bool → CounterRun → List ℕ
saved save c = if save then counter_text c else []

-- the counter-run has the certificate's numbers; its page is the first that is wrong, and is named
pub record IsCounterTold (slots : List (List ℕ)) (pages : List Page) (w : CertificateFields) (json : Bool) (c : CounterRun) (line : List ℕ)
    : Type 0 where
  pub is : IsCounterTo slots pages (certificate_at w) c
  pub first : IsFirstTold slots pages (certificate_at w) c
  pub page : Page
  pub here : slice_get pages c.page ≡ Some page
  pub same : line ≡ said_counter json page.id c

abbrev pub TellsAnswer : List (List ℕ) → List Page → CertificateFields → Asked → Option CounterRun → List ℕ → List ℕ → ℕ → Type 0
TellsAnswer slots pages w asked (Some c) file line status =
    IsCounterTold slots pages w asked.json c line × (file ≡ saved asked.save c) × (status ≡ 1)
TellsAnswer slots pages w asked None file line status =
    IsUnrefuted slots pages (certificate_at w) × (file ≡ []) × (line ≡ said_none asked.json) × (status ≡ 0)

-- Where all pages are sent unchanged in clean slots, there is a counter-run exactly where no certificate of class any with these numbers is
-- accepted.
pub record IsRefutation (slots : List (List ℕ)) (service : ServiceFields) (w : CertificateFields) (asked : Asked) (file line : List ℕ) (status : ℕ)
    : Type 0 where
  pub class : w.class ≡ Any
  pub answer : Option CounterRun
  pub told : TellsAnswer slots (pages_of service) w asked answer file line status
  pub exact : IsSentUnchanged slots (pages_of service) →
      (is_some answer ≡ true) ↔ (CanBeAccepted slots (pages_of service) Any w.lines w.repeat w.deadline → ⊥)

-- the same for three files
pub record IsRefutingFiles (a b c : List ℕ) (asked : Asked) (file line : List ℕ) (status : ℕ) : Type 0 where
  pub slots : List (List ℕ)
  pub service : ServiceFields
  pub w : CertificateFields
  pub cycle_is : IsPacketFile a slots
  pub service_is : IsServiceText b service
  pub certificate_is : IsCertificateText c w
  pub told : IsRefutation slots service w asked file line status

-- the certificate is for receivers that surely clear
pub record IsNoClass (a b c : List ℕ) : Type 0 where
  pub slots : List (List ℕ)
  pub service : ServiceFields
  pub w : CertificateFields
  pub cycle_is : IsPacketFile a slots
  pub service_is : IsServiceText b service
  pub certificate_is : IsCertificateText c w
  pub class : w.class ≡ Clearing

-- the certificate is not of class any, or memory ran out
abbrev pub IsClassFault : ClassOf → ToolFault → Type 0
IsClassFault class Class = class ≡ Clearing
IsClassFault class (Files NoMemory) = ⊤
IsClassFault class fault = ⊥

-- why nothing is looked for: the certificate's class, or an input is refused
abbrev pub IsNoRefuting : List ℕ → List ℕ → List ℕ → ToolFault → Type 0
IsNoRefuting a b c Class = IsNoClass a b c
IsNoRefuting a b c (Files fault) = IsRefused a b c fault
IsNoRefuting a b c _ = ⊥

abbrev pub RefutesText : List ℕ → List ℕ → List ℕ → Asked → Result (Filed ℕ) ToolFault → Type 0
RefutesText a b c asked (Ok told) = IsRefutingFiles a b c asked told.file.items (string_bytes told.line) told.verdict
RefutesText a b c asked (Err fault) = IsNoRefuting a b c fault

-- Ok: the bytes of the file and the line. A write fault: the first `written` bytes of both. Otherwise nothing, and why nothing is looked for.
abbrev pub RefutesFiles : List ℕ → List ℕ → List ℕ → Asked → Option (List ℕ) → Option (List ℕ) → Option (List ℕ) → Option (List ℕ) →
    Result ℕ ToolFault → Type 0
RefutesFiles a b c asked file_old file_new old new (Ok status) =
    (file line : List ℕ) × IsRefutingFiles a b c asked file line status × WritesBoth file line file_old file_new old new (Ok status)
RefutesFiles a b c asked file_old file_new old new (Err (Files (Write written))) =
    (file line : List ℕ) × (status : ℕ) × IsRefutingFiles a b c asked file line status
    × WritesBoth {T = ℕ} file line file_old file_new old new (Err (Write written))
RefutesFiles a b c asked file_old file_new old new (Err fault) = IsNoRefuting a b c fault × Keeps file_old file_new × Keeps old new
