-- How long viewers see the subpages of a number, and how long they wait for each, as JSON objects (profile).
--
--   seconds_text            tenths of a second as seconds, with one decimal
--   never_members, again_members    a number of which not all is sent; for how long each subpage is shown at least, and within how long it
--                           comes again
--   wait_members            either
--   number_wait_record, number_wait_records     the object of a number; those of all
--   IsNumberWaitRecord      the objects of all numbers with several pages
use Rattle.std.specs.Prelude.{◌≡◌, ℕ, ◌/◌, ◌%◌, true, List, [], ◌∷◌, ◌++◌, codes, flat_map, Option, Some, None}
use Rattle.std.specs.Fmt.{decimal}
use Rattle.ttx_page.specs.Streams.{repeated}
use Rattle.ttx_source.specs.Services.{ServiceFields, pages_of}
use Rattle.ttx_subpages.specs.NumberReports.{AreReports}
use Rattle.ttx_subpages.specs.NumberWaits.{tenths, tenths_up}
use Rattle.ttx_subpages.specs.declared.reports.NumberReport.{NumberReport}
use Rattle.ttx_json.specs.Objects.{Member, word, count, flag}
use Rattle.ttx_records.specs.Names.{line}
use Rattle.ttx_records.specs.NumberRecords.{page_number}

abbrev pub seconds_text : ℕ → List ℕ
seconds_text tenths = decimal (tenths / 10) ++ codes "." ++ decimal (tenths % 10)

abbrev pub number_members : NumberReport → List Member → List Member
number_members report members = page_number report.first ∷ count (codes "subpages") report.pages ∷ members

-- a page of the number is not sent
abbrev pub never_members : NumberReport → List Member
never_members report = number_members report (flag (codes "never") true ∷ [])

-- rounded down and up
abbrev pub again_members : ℕ → NumberReport → ℕ → List Member
again_members lines report interval =
    number_members report
    (word (codes "each") (seconds_text (tenths lines report.stay)) ∷ word (codes "again") (seconds_text (tenths_up lines interval)) ∷ [])

abbrev pub wait_members : ℕ → NumberReport → Option ℕ → List Member
wait_members lines report None = never_members report
wait_members lines report (Some interval) = again_members lines report interval

unfoldable pub number_wait_record : ℕ → NumberReport → List ℕ
number_wait_record lines report = line (wait_members lines report report.interval)

abbrev pub number_wait_records : ℕ → List NumberReport → List ℕ
number_wait_records lines = flat_map (number_wait_record lines)

pub record IsNumberWaitRecord (cycle : List (List ℕ)) (service : ServiceFields) (text : List ℕ) : Type 0 where
  pub reports : List NumberReport
  pub are : AreReports (repeated cycle) (pages_of service) reports
  pub text_is : text ≡ number_wait_records service.lines reports
