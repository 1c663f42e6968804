-- Verdicts of `certify --numbers` as JSON objects (profile).
--
--   page_number             the number of a page
--   number_members          how soon the subpages of a number come again, and how long they stay, in slots
--   number_record, number_records   the object of a number; those of all
--   lack_members            a rejection for what is not sent whole
--   at_most                 a number, at most 2 ^ 64 - 1
--   numbers_record          a verdict
use Rattle.std.specs.Prelude.{ℕ, ◌+◌, ◌-◌, ◌^◌, min, List, [], ◌∷◌, ◌++◌, codes, flat_map}
use Rattle.ttx_header.specs.Ids.{Id}
use Rattle.ttx_numbers.specs.Numbers.{number_text}
use Rattle.ttx_page.specs.declared.item.Item.{Item}
use Rattle.ttx_certificate.specs.Entries.{CertificateFields, certificate_at}
use Rattle.ttx_certificate.specs.NamedStarts.{limit}
use Rattle.ttx_subpages.specs.declared.lack.Lack.{Lack}
use Rattle.ttx_subpages.specs.declared.lack.Lack.TheVariants.{Unwhole, Unlisted}
use Rattle.ttx_subpages.specs.declared.reports.NumberReport.{NumberReport}
use Rattle.ttx_subpages.specs.declared.verdict.NumbersVerdict.{NumbersVerdict}
use Rattle.ttx_subpages.specs.declared.verdict.NumbersVerdict.TheVariants.{Yes, No, Lacking}
use Rattle.ttx_json.specs.Objects.{Member, word, count}
use Rattle.ttx_records.specs.LateVerdicts.{late_members, late_record}
use Rattle.ttx_records.specs.Names.{line}
use Rattle.ttx_records.specs.Verdicts.{no_members, at_place}

abbrev pub page_number : Id → Member
page_number page = word (codes "page_number") (number_text page)

abbrev pub number_members : ℕ → NumberReport → List Member
number_members every report =
    page_number report.first ∷ count (codes "pages") report.pages ∷ count (codes "every") every ∷ count (codes "stays") report.stay ∷ []

unfoldable pub number_record : ℕ → NumberReport → List ℕ
number_record every report = line (number_members every report)

abbrev pub number_records : ℕ → List NumberReport → List ℕ
number_records every = flat_map (number_record every)

abbrev pub unwhole : Id → Item → ℕ → List Member
unwhole page item slot = at_place 14 (codes "unwhole") page item (codes "slot") slot

abbrev pub unlisted : Id → ℕ → List Member
unlisted page slot = no_members 15 (codes "unlisted") (page_number page ∷ count (codes "slot") slot ∷ [])

abbrev pub lack_members : Lack → List Member
lack_members (Unwhole page item slot) = unwhole page item slot
lack_members (Unlisted page slot) = unlisted page slot

abbrev pub at_most : ℕ → ℕ
at_most n = min n (2 ^ 64 - 1)

-- the objects of a yes and of each number, seen within the deadline and the gap; or that of a no
abbrev pub numbers_record : CertificateFields → ℕ → List NumberReport → NumbersVerdict → List ℕ
numbers_record w pages reports (Yes gap) = line (late_members w pages gap) ++ number_records (at_most (limit (certificate_at w) + gap)) reports
numbers_record w pages reports (No verdict) = late_record w pages verdict
numbers_record w pages reports (Lacking lack) = line (lack_members lack)
