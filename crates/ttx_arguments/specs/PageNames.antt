-- The names of pages on the command line: MPP for any subpage, MPP/SSSS for one (profile).
--
--   selection_of             the selection that a text names
use Rattle.std.specs.Prelude.{ℕ, List, Option, Some, None, ◌&&◌, ◌==◌, not, length, slice_index, if◌then◌else◌}
use Rattle.ttx_header.specs.Ids.{id_at}
use Rattle.ttx_page.specs.declared.selection.Selection.{Selection}
use Rattle.ttx_page.specs.declared.selection.Selection.TheVariants.{Exact, AnySub}
use Rattle.ttx_digits.specs.Digits.{four_digits}
use Rattle.ttx_digits.specs.PageIds.{first_number}
use Rattle.ttx_source.specs.Values.{is_inside_mask, any_subcode}

-- any subpage of a magazine and a page number
abbrev pub any_of : Option (ℕ × ℕ) → Option Selection
any_of None = None
any_of (Some number) = Some (AnySub number.0 number.1)

-- one subpage, by a subcode inside 3F7F that isn't 3F7F
abbrev pub exact_of : Option (ℕ × ℕ) → Option ℕ → Option Selection
exact_of None sub = None
exact_of (Some number) None = None
exact_of (Some number) (Some sub) =
    if is_inside_mask sub && not (sub == any_subcode) then Some (Exact (id_at number.0 number.1 sub)) else None

-- three characters, or eight of which the fourth is a slash (2F)
unfoldable pub selection_of : List ℕ → Option Selection
selection_of text =
    if length text == 3 then any_of (first_number text)
    else if (length text == 8) && (slice_index text 3 == 47) then exact_of (first_number text) (four_digits text 4)
    else None
