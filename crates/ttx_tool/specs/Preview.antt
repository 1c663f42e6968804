-- What `preview` writes for the text of a service.
--
--   first_match             the first page that a selection matches
--   preview_text, preview_status    what is shown of it, and the status
--   ShowsReading, IsPreview    the same for the text of a service, or the line about its first fault
--   IsNoRead, PreviewsText  why a text is not read; what is returned for a text
--   Previews                what was written for each answer
use Rattle.std.specs.Prelude.{◌≡◌, ℕ, ◌<◌, ◌≤◌, ⊤, List, [], ◌∷◌, length, take, string_bytes, if◌then◌else◌, Option, Some, None, Result, Ok, Err}
use Rattle.std.specs.Io.KnownBytes.{Appends, Keeps}
use Rattle.ttx_check.specs.Refusals.{IsErrorLine}
use Rattle.ttx_cycle.specs.Bounded.{most_bytes}
use Rattle.ttx_files.specs.declared.faults.FilesFault.TheVariants.{Read, TooLong, Write, NoMemory}
use Rattle.ttx_files.specs.declared.faults.TextFile.TheVariants as file
use Rattle.ttx_files.specs.declared.told.Told.{Told}
use Rattle.ttx_page.specs.Memories.{memory_of_page}
use Rattle.ttx_page.specs.Pages.{Page, matches}
use Rattle.ttx_page.specs.declared.selection.Selection.{Selection}
use Rattle.ttx_picture.specs.Forms.{picture_of}
use Rattle.ttx_render.specs.View.{view_of}
use Rattle.ttx_source.specs.Services.{ServiceFields, pages_of, read_bytes}
use Rattle.ttx_source.specs.Values.{Fault}
use Rattle.ttx_tool.specs.Show.{no_page_line}
use Rattle.ttx_faults.specs.declared.faults.ToolFault.{ToolFault}
use Rattle.ttx_faults.specs.declared.faults.ToolFault.TheVariants.{Files}
use Rattle.ttx_arguments.specs.declared.orders.Look.{Look}

abbrev pub first_match : Selection → List Page → Option Page
first_match sel [] = None
first_match sel (p ∷ pages) = if matches sel p.id then Some p else first_match sel pages

-- the View of the page as it is received whole, which is that of the headline
abbrev pub preview_text : Look → Option Page → List ℕ
preview_text look None = no_page_line look.page.now
preview_text look (Some p) = picture_of look.form look.reveal (view_of (memory_of_page p))

abbrev pub preview_status : Option Page → ℕ
preview_status None = 1
preview_status (Some p) = 0

-- what is shown of the first page that the selection matches in a service, or the line about the first fault of its text
abbrev pub ShowsReading : List ℕ → Selection → Look → Result ServiceFields (Fault × ℕ) → List ℕ → ℕ → Type 0
ShowsReading bytes sel look (Ok service) text status =
    (text ≡ preview_text look (first_match sel (pages_of service))) × (status ≡ preview_status (first_match sel (pages_of service)))
ShowsReading bytes sel look (Err fault) text status = IsErrorLine bytes fault.0 fault.1 text × (status ≡ 2)

pub record IsPreview (bytes : List ℕ) (sel : Selection) (look : Look) (text : List ℕ) (status : ℕ) : Type 0 where
  pub most : length bytes ≤ most_bytes
  pub shows : ShowsReading bytes sel look (read_bytes bytes) text status

-- why a text is not read
abbrev pub IsNoRead : List ℕ → ToolFault → Type 0
IsNoRead bytes (Files (Read which)) = which ≡ file.Service
IsNoRead bytes (Files (TooLong which)) = (which ≡ file.Service) × (most_bytes < length bytes)
IsNoRead bytes (Files NoMemory) = ⊤
IsNoRead bytes _ = ⊥

abbrev pub PreviewsText : List ℕ → Selection → Look → Result (Told ℕ) ToolFault → Type 0
PreviewsText bytes sel look (Ok preview) = IsPreview bytes sel look (string_bytes preview.line) preview.verdict
PreviewsText bytes sel look (Err fault) = IsNoRead bytes fault

-- Ok: the text went out. A write fault: its first `written` bytes. Otherwise nothing, and why there is no service.
abbrev pub Previews : List ℕ → Selection → Look → Option (List ℕ) → Option (List ℕ) → Result ℕ ToolFault → Type 0
Previews bytes sel look old new (Ok status) = (text : List ℕ) × IsPreview bytes sel look text status × Appends old new text
Previews bytes sel look old new (Err (Files (Write written))) =
    (text : List ℕ) × (status : ℕ) × IsPreview bytes sel look text status × (written < length text) × Appends old new (take written text)
Previews bytes sel look old new (Err fault) = IsNoRead bytes fault × Keeps old new
