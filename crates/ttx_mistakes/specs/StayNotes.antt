-- The warnings about stays as notes (profile).
--
--   words_in, line_note     the words of the line of a warning; its note
--   short_notes, unkept_notes   numbers whose pages may change before they are read, and stays that no plan keeps
--   stay_notes              both
use Rattle.std.specs.Prelude.{ℕ, zero, suc, ◌+◌, ◌-◌, false, List, [], ◌∷◌, ◌++◌, codes, length, take, drop, slice_get, None}
use Rattle.ttx_page.specs.Pages.{Page}
use Rattle.ttx_places.specs.Paths.{below, page_path}
use Rattle.ttx_source.specs.Promises.{PromiseFields}
use Rattle.ttx_source.specs.Services.{ServiceFields, pages_of}
use Rattle.ttx_stays.specs.ShortNumbers.{short_text}
use Rattle.ttx_stays.specs.UnkeptStays.{stay_text}
use Rattle.ttx_mistakes.specs.Notes.{Note, note}

abbrev pub without_last : List ℕ → List ℕ
without_last text = take (length text - 1) text

-- without `warning ` and the end of the line
abbrev pub words_in : List ℕ → List ℕ
words_in line = without_last (drop 8 line)

abbrev pub line_note : List ℕ → List ℕ → List Note
line_note path [] = []
line_note path (c ∷ line) = note false path None (words_in (c ∷ line)) ∷ []

-- of the page at an index
abbrev pub key_path : ℕ → List ℕ → List ℕ
key_path index key = below (page_path (index + 1)) key

abbrev pub short_note : List Page → List PromiseFields → ℕ → List Note
short_note pages stays n = line_note (key_path n (codes "number")) (short_text pages stays n (slice_get pages n))

-- those of the first n pages
abbrev pub short_notes : List Page → List PromiseFields → ℕ → List Note
short_notes pages stays zero = []
short_notes pages stays (suc n) = short_notes pages stays n ++ short_note pages stays n

abbrev pub unkept_note : ℕ → List Page → PromiseFields → List Note
unkept_note lines pages stay = line_note (key_path stay.page (codes "stays")) (stay_text lines pages stay)

abbrev pub unkept_notes : ℕ → List Page → List PromiseFields → List Note
unkept_notes lines pages [] = []
unkept_notes lines pages (stay ∷ stays) = unkept_note lines pages stay ++ unkept_notes lines pages stays

unfoldable pub stay_notes : ServiceFields → List PromiseFields → List Note
stay_notes service stays =
    short_notes (pages_of service) stays (length (pages_of service)) ++ unkept_notes service.lines (pages_of service) stays
