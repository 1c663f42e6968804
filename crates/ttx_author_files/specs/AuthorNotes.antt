-- The errors and warnings of an author's text, beside the mistakes for which it is not composed.
--
--   is_told, kept           an error that a mistake of the same page tells or brings about; the others
--   is_of_code              a warning about a code that the author did not write
--   row_place, warning_place    the place of a line of `text`, and of a warning
--   notes_in                the errors and the warnings about keys
--   service_placed          the warnings about the service, at their places
--   placed_in, author_placed    all of them
use Rattle.std.specs.Prelude.{ℕ, Bool, true, false, not, ◌&&◌, ◌||◌, ◌==◌, if◌then◌else◌, List, [], ◌++◌, codes, map, filter, Option, Some, None, Result, Ok, Err}
use Rattle.std.specs.List.{list_any}
use Rattle.std.specs.Str.{bytes_eq}
use Rattle.toml.specs.Data.{Members}
use Rattle.ttx_header.specs.Ids.{Id}
use Rattle.ttx_places.specs.Places.{place_of}
use Rattle.ttx_source.specs.Promises.{promises_of}
use Rattle.ttx_source.specs.Services.{ServiceFields, service_of}
use Rattle.ttx_source.specs.Values.{Fault}
use Rattle.ttx_check.specs.Parts.{Part, whole, at_key, at_row, at_link}
use Rattle.ttx_check.specs.Warnings.{warnings}
use Rattle.ttx_check.specs.declared.warning.Warning.{Warning}
use Rattle.ttx_check.specs.declared.warning.Warning.TheVariants.{HiddenRow, UnshownRow, StrayTab, StrayBreak, OtherSign, LiteralEscape, OpenBox}
use Rattle.ttx_desk.specs.Mistakes.{mistake}
use Rattle.ttx_desk.specs.Places.{mistake_path, place_behind}
use Rattle.ttx_desk.specs.Services.{service_table, mistakes}
use Rattle.ttx_desk.specs.declared.mistakes.Fault.TheVariants.{Lines}
use Rattle.ttx_desk.specs.declared.mistakes.Mistake as desk
use Rattle.ttx_desk.specs.declared.mistakes.Part as desk_part
use Rattle.ttx_desk.specs.declared.mistakes.Part.TheVariants as part
use Rattle.ttx_mistakes.specs.KeyNotes.{key_notes}
use Rattle.ttx_mistakes.specs.LongLines.{Placed, known, placed, placed_at}
use Rattle.ttx_mistakes.specs.LongReports.{stayed_notes}
use Rattle.ttx_mistakes.specs.Mistakes as check
use Rattle.ttx_mistakes.specs.Notes.{Note, error_notes}
use Rattle.ttx_mistakes.specs.WarningNotes.{warned_page, order_of, ids_of, warning_note}

abbrev pub is_option_part : desk_part.Part → Bool
is_option_part part.Option = true
is_option_part _ = false

abbrev pub is_option : Part → Bool
is_option whole = false
is_option (at_key key) = bytes_eq key (codes "option")
is_option (at_row key) = false
is_option (at_link number) = false

-- texts, which are read once the option of their page is
abbrev pub is_text : Part → Bool
is_text whole = false
is_text (at_key key) = bytes_eq key (codes "head") || bytes_eq key (codes "text")
is_text (at_row key) = true
is_text (at_link number) = false

abbrev pub names_option : List desk.Mistake → ℕ → Bool
names_option found page = list_any (λ f. (f.page == page) && is_option_part f.part) found

abbrev pub has_mistake : List desk.Mistake → ℕ → Bool
has_mistake found page = list_any (λ f. f.page == page) found

abbrev pub has_option_error : List check.Mistake → ℕ → Bool
has_option_error errors page = list_any (λ e. (e.page == page) && is_option e.part) errors

abbrev pub is_told : List desk.Mistake → List check.Mistake → check.Mistake → Bool
is_told found errors e =
    if is_option e.part then names_option found e.page
    else is_text e.part && (has_mistake found e.page || has_option_error errors e.page)

abbrev pub kept : List desk.Mistake → List check.Mistake → List check.Mistake
kept found errors = filter (λ e. not (is_told found errors e)) errors

-- of an author's text with these mistakes and this service table
abbrev pub notes_in : List desk.Mistake → Members → List Note
notes_in found table = error_notes table (kept found (check.mistakes table)) ++ key_notes table

-- the author's characters are what is seen, and have no escapes but those of TOML
abbrev pub is_of_code : Warning → Bool
is_of_code (OtherSign page row column code shown option) = true
is_of_code (LiteralEscape page row) = true
is_of_code _ = false

abbrev pub warned_row : Warning → Option ℕ
warned_row (HiddenRow page row) = Some row
warned_row (UnshownRow page) = Some 24
warned_row (StrayTab page row) = Some row
warned_row (StrayBreak page row) = Some row
warned_row (OpenBox page row) = Some row
warned_row _ = None

abbrev pub line_mistake : ℕ → ℕ → desk.Mistake
line_mistake page row = mistake page (part.Line row) 0 Lines

abbrev pub row_place : List ℕ → ℕ → ℕ → ℕ
row_place text page row = place_behind text (line_mistake page row) (known (place_of (mistake_path (line_mistake page row)) text))

-- a row that stands at no key stands in `text`
abbrev pub place_or_row : List ℕ → ℕ → Option ℕ → Option ℕ → ℕ
place_or_row text page row (Some place) = place
place_or_row text page None None = 0
place_or_row text page (Some row) None = row_place text page row

abbrev pub number_of : List Id → Option Id → ℕ
number_of ids None = 0
number_of ids (Some id) = order_of ids id

abbrev pub warning_place : List ℕ → List Id → Warning → ℕ
warning_place text ids w =
    place_or_row text (number_of ids (warned_page w)) (warned_row w) (known (place_of (warning_note ids w).path text))

abbrev pub warning_placed : List ℕ → List Id → Warning → Placed
warning_placed text ids w = placed_at false (warning_place text ids w) (warning_note ids w).words

abbrev pub written : List Warning → List Warning
written found = filter (λ w. not (is_of_code w)) found

abbrev pub service_warned : List ℕ → Members → ServiceFields → List Placed
service_warned text table service =
    map (warning_placed text (ids_of service)) (written (warnings service))
    ++ map (placed text) (stayed_notes service (promises_of (codes "stays") table))

abbrev pub service_placed : List ℕ → Members → Result ServiceFields (Fault × ℕ) → List Placed
service_placed text table (Err fault) = []
service_placed text table (Ok service) = service_warned text table service

abbrev pub placed_in : List ℕ → List desk.Mistake → Members → List Placed
placed_in text found table = map (placed text) (notes_in found table) ++ service_placed text table (service_of table)

unfoldable pub author_placed : List ℕ → Members → List Placed
author_placed text author = placed_in text (mistakes author) (service_table author)
