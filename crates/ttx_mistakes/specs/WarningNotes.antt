-- The warnings about a service as notes (profile).
--
--   warned_page, order_of   the page that a warning is about, and its number in the text
--   warned_path             the path of what a warning is about, given that of its page, or of the text
--   warned_sign             the character of a row that a warning is about
--   warning_note, warning_notes     a warning as a note; all of them
use Rattle.std.specs.Prelude.{ℕ, ◌+◌, false, ◌==◌, if◌then◌else◌, List, [], ◌∷◌, codes, map, Option, Some, None}
use Rattle.std.specs.Fmt.{decimal}
use Rattle.ttx_header.specs.Ids.{Id, same_id}
use Rattle.ttx_places.specs.Paths.{below, page_path}
use Rattle.ttx_source.specs.Services.{ServiceFields, pages_of}
use Rattle.ttx_check.specs.WarningLines.{warning_text}
use Rattle.ttx_check.specs.Warnings.{warnings}
use Rattle.ttx_check.specs.declared.warning.Warning.{Warning}
use Rattle.ttx_check.specs.declared.warning.Warning.TheVariants.{DeadInitial, DeadLink, HiddenRow, UnshownRow, StrayTab, StrayBreak, NoBox}
use Rattle.ttx_check.specs.declared.warning.Warning.TheVariants.{OtherSign, LiteralEscape, OpenBox, EmptyRow, LetterNumber, LetterSubcode}
use Rattle.ttx_check.specs.declared.warning.Warning.TheVariants.{BehindSubpage, BehindItself, MostTraffic}
use Rattle.ttx_mistakes.specs.Notes.{Note, note}

abbrev pub warned_page : Warning → Option Id
warned_page DeadInitial = None
warned_page (DeadLink page link) = Some page
warned_page (HiddenRow page row) = Some page
warned_page (UnshownRow page) = Some page
warned_page (StrayTab page row) = Some page
warned_page (StrayBreak page row) = Some page
warned_page (OtherSign page row column code shown option) = Some page
warned_page (LiteralEscape page row) = Some page
warned_page (OpenBox page row) = Some page
warned_page (EmptyRow page) = Some page
warned_page (LetterNumber page) = Some page
warned_page (LetterSubcode page) = Some page
warned_page (NoBox page) = Some page
warned_page (BehindSubpage page) = Some page
warned_page (BehindItself page times) = Some page
warned_page (MostTraffic mag) = None

-- row 0 is `head`
abbrev pub row_path : List ℕ → ℕ → List ℕ
row_path path row = if row == 0 then below path (codes "head") else below (below path (codes "rows")) (decimal row)

abbrev pub warned_path : List ℕ → Warning → List ℕ
warned_path path DeadInitial = below (below path (codes "info")) (codes "initial")
warned_path path (DeadLink page link) = below (below path (codes "links")) (decimal link)
warned_path path (HiddenRow page row) = row_path path row
warned_path path (UnshownRow page) = row_path path 24
warned_path path (StrayTab page row) = row_path path row
warned_path path (StrayBreak page row) = row_path path row
warned_path path (OtherSign page row column code shown option) = row_path path row
warned_path path (LiteralEscape page row) = row_path path row
warned_path path (OpenBox page row) = row_path path row
warned_path path (EmptyRow page) = below path (codes "row24")
warned_path path (LetterNumber page) = below path (codes "number")
warned_path path (LetterSubcode page) = below path (codes "sub")
warned_path path (NoBox page) = path
warned_path path (BehindSubpage page) = path
warned_path path (BehindItself page times) = below path (codes "often")
warned_path path (MostTraffic mag) = below path (codes "serial")

-- the first of these numbers, from this one on, whose page has the id; 0 if there is none
abbrev pub order_from : ℕ → List Id → Id → ℕ
order_from number [] id = 0
order_from number (own ∷ ids) id = if same_id id own then number else order_from (number + 1) ids id

abbrev pub order_of : List Id → Id → ℕ
order_of ids id = order_from 1 ids id

abbrev pub path_from : List Id → Option Id → List ℕ
path_from ids None = []
path_from ids (Some id) = page_path (order_of ids id)

abbrev pub warned_sign : Warning → Option ℕ
warned_sign DeadInitial = None
warned_sign (DeadLink page link) = None
warned_sign (HiddenRow page row) = None
warned_sign (UnshownRow page) = None
warned_sign (StrayTab page row) = None
warned_sign (StrayBreak page row) = None
warned_sign (OtherSign page row column code shown option) = Some column
warned_sign (LiteralEscape page row) = None
warned_sign (OpenBox page row) = None
warned_sign (EmptyRow page) = None
warned_sign (LetterNumber page) = None
warned_sign (LetterSubcode page) = None
warned_sign (NoBox page) = None
warned_sign (BehindSubpage page) = None
warned_sign (BehindItself page times) = None
warned_sign (MostTraffic mag) = None

abbrev pub warning_note : List Id → Warning → Note
warning_note ids w = note false (warned_path (path_from ids (warned_page w)) w) (warned_sign w) (warning_text w)

abbrev pub ids_of : ServiceFields → List Id
ids_of service = map (λ p. p.id) (pages_of service)

unfoldable pub warning_notes : ServiceFields → List Note
warning_notes service = map (warning_note (ids_of service)) (warnings service)
