-- The lines that say how long viewers see the subpages of a number, and how long they wait for each (profile).
--
--   in_tenth                the slots in a tenth of a second: there are five fields, of so many slots each
--   tenths, tenths_up       slots as tenths of a second, rounded down and up
--   tenths_text             tenths of a second as seconds, with one decimal
--   amounts_text, number_wait_line, number_waits_text       the line of a number, and those of each
--   IsNumberWaits           the lines of all numbers with several pages
use Rattle.std.specs.Prelude.{◌≡◌, ℕ, ◌+◌, ◌*◌, ◌-◌, ◌/◌, ◌%◌, List, [], ◌∷◌, ◌++◌, codes, flat_map, Option, Some, None}
use Rattle.std.specs.Fmt.{decimal}
use Rattle.ttx_page.specs.Streams.{repeated}
use Rattle.ttx_source.specs.Services.{ServiceFields, pages_of}
use Rattle.ttx_numbers.specs.Numbers.{number_text}
use Rattle.ttx_subpages.specs.NumberReports.{AreReports}
use Rattle.ttx_subpages.specs.declared.reports.NumberReport.{NumberReport}

abbrev pub in_tenth : ℕ → ℕ
in_tenth lines = 5 * lines

abbrev pub tenths : ℕ → ℕ → ℕ
tenths lines slots = slots / in_tenth lines

abbrev pub tenths_up : ℕ → ℕ → ℕ
tenths_up lines slots = (slots + in_tenth lines - 1) / in_tenth lines

abbrev pub tenths_text : ℕ → List ℕ
tenths_text n = decimal (n / 10) ++ codes "." ++ decimal (n % 10) ++ codes " s"

abbrev pub amounts_text : ℕ → ℕ → Option ℕ → List ℕ
amounts_text lines stay None = codes "not all sent"
amounts_text lines stay (Some interval) =
    codes "each at least " ++ tenths_text (tenths lines stay) ++ codes ", again within " ++ tenths_text (tenths_up lines interval)

abbrev pub number_wait_line : ℕ → NumberReport → List ℕ
number_wait_line lines report =
    number_text report.first ++ codes " " ++ decimal report.pages ++ codes " subpages, " ++ amounts_text lines report.stay report.interval ++ 10 ∷ []

abbrev pub number_waits_text : ℕ → List NumberReport → List ℕ
number_waits_text lines reports = flat_map (number_wait_line lines) reports

pub record IsNumberWaits (cycle : List (List ℕ)) (service : ServiceFields) (text : List ℕ) : Type 0 where
  pub reports : List NumberReport
  pub are : AreReports (repeated cycle) (pages_of service) reports
  pub text_is : text ≡ number_waits_text service.lines reports
