-- What `preview --all` writes for the text of a service.
--
--   page_part, pages_part   a page: a line with its id, and its View; all pages
--   ShowsPages, IsPreview   those of a service, or the line about the first fault of its text; the same for a text
--   PreviewsText, Previews  what is returned for a text; what was written for each answer
use Rattle.std.specs.Prelude.{◌≡◌, ℕ, ◌<◌, ◌≤◌, Bool, List, ◌∷◌, ◌++◌, length, take, string_bytes, Option, Result, Ok, Err}
use Rattle.std.specs.Io.KnownBytes.{Appends, Keeps}
use Rattle.std.specs.List.{flat_map}
use Rattle.ttx_check.specs.Refusals.{IsErrorLine}
use Rattle.ttx_cycle.specs.Bounded.{most_bytes}
use Rattle.ttx_digits.specs.PageIds.{id_text}
use Rattle.ttx_files.specs.declared.faults.FilesFault.TheVariants.{Write}
use Rattle.ttx_files.specs.declared.told.Told.{Told}
use Rattle.ttx_page.specs.Memories.{memory_of_page}
use Rattle.ttx_page.specs.Pages.{Page}
use Rattle.ttx_picture.specs.Forms.{picture_of}
use Rattle.ttx_picture.specs.declared.forms.Form.{Form}
use Rattle.ttx_render.specs.View.{view_of}
use Rattle.ttx_source.specs.Services.{ServiceFields, pages_of, read_bytes}
use Rattle.ttx_source.specs.Values.{Fault}
use Rattle.ttx_tool.specs.Preview.{IsNoRead}
use Rattle.ttx_faults.specs.declared.faults.ToolFault.{ToolFault}
use Rattle.ttx_faults.specs.declared.faults.ToolFault.TheVariants.{Files}

abbrev pub page_part : Form → Bool → Page → List ℕ
page_part form reveal p = id_text p.id ++ 10 ∷ picture_of form reveal (view_of (memory_of_page p))

abbrev pub pages_part : Form → Bool → List Page → List ℕ
pages_part form reveal pages = flat_map (page_part form reveal) pages

abbrev pub ShowsPages : List ℕ → Form → Bool → Result ServiceFields (Fault × ℕ) → List ℕ → ℕ → Type 0
ShowsPages bytes form reveal (Ok service) text status = (text ≡ pages_part form reveal (pages_of service)) × (status ≡ 0)
ShowsPages bytes form reveal (Err fault) text status = IsErrorLine bytes fault.0 fault.1 text × (status ≡ 2)

pub record IsPreview (bytes : List ℕ) (form : Form) (reveal : Bool) (text : List ℕ) (status : ℕ) : Type 0 where
  pub most : length bytes ≤ most_bytes
  pub shows : ShowsPages bytes form reveal (read_bytes bytes) text status

abbrev pub PreviewsText : List ℕ → Form → Bool → Result (Told ℕ) ToolFault → Type 0
PreviewsText bytes form reveal (Ok preview) = IsPreview bytes form reveal (string_bytes preview.line) preview.verdict
PreviewsText bytes form reveal (Err fault) = IsNoRead bytes fault

-- Ok: the text went out. A write fault: its first `written` bytes. Else nothing, and why the text is not read.
abbrev pub Previews : List ℕ → Form → Bool → Option (List ℕ) → Option (List ℕ) → Result ℕ ToolFault → Type 0
Previews bytes form reveal old new (Ok status) = (text : List ℕ) × IsPreview bytes form reveal text status × Appends old new text
Previews bytes form reveal old new (Err (Files (Write written))) =
    (text : List ℕ) × (status : ℕ) × IsPreview bytes form reveal text status × (written < length text) × Appends old new (take written text)
Previews bytes form reveal old new (Err fault) = IsNoRead bytes fault × Keeps old new
