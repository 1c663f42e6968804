-- The report on each number with several pages, and the lines of a verdict on them (profile).
--
--   IsStayOrNone, IsReport    a number's pages, how long they stay and how soon they come again
--   AreReportsBelow, AreReports   so of the numbers with several pages, and no others
--   amounts_text, number_line, numbers_text     the line of a number, and of each
--   slot_text, unwhole_line, unlisted_line, lack_line   the no lines for what is not sent whole
--   numbers_verdict_text    the text of a verdict
use Rattle.std.specs.Prelude.{◌≡◌, ◌⊎◌, ℕ, ◌+◌, List, [], ◌∷◌, ◌++◌, map, take, filter, codes, flat_map}
use Rattle.std.specs.List.{AllByRecursion}
use Rattle.std.specs.Fmt.{decimal}
use Rattle.ttx_header.specs.Ids.{Id}
use Rattle.ttx_digits.specs.PageIds.{id_text}
use Rattle.ttx_numbers.specs.Numbers.{number_text}
use Rattle.ttx_page.specs.Pages.{Page}
use Rattle.ttx_page.specs.declared.item.Item.{Item}
use Rattle.ttx_page.specs.declared.selection.Selection.{Selection}
use Rattle.ttx_page.specs.declared.selection.Selection.TheVariants.{AnySub}
use Rattle.ttx_page.specs.Streams.{Stream}
use Rattle.ttx_certificate.specs.CertificateTexts.{item_text}
use Rattle.ttx_certificate.specs.Entries.{CertificateFields, certificate_at}
use Rattle.ttx_certificate.specs.NamedStarts.{limit}
use Rattle.ttx_late.specs.LateVerdictLines.{late_text, late_verdict_line}
use Rattle.ttx_subpages.specs.Numbers.{count_of, leads, firsts_of}
use Rattle.ttx_subpages.specs.Stays.{HasNone, IsLeastStay}
use Rattle.ttx_subpages.specs.Intervals.{IsIntervalOf}
use Rattle.ttx_subpages.specs.declared.lack.Lack.{Lack}
use Rattle.ttx_subpages.specs.declared.lack.Lack.TheVariants.{Unwhole, Unlisted}
use Rattle.ttx_subpages.specs.declared.reports.NumberReport.{NumberReport}
use Rattle.ttx_subpages.specs.declared.verdict.NumbersVerdict.{NumbersVerdict}
use Rattle.ttx_subpages.specs.declared.verdict.NumbersVerdict.TheVariants.{Yes, No, Lacking}

-- the least stay of the blocks, 0 where there are none
abbrev pub IsStayOrNone : Stream → Selection → ℕ → Type 0
IsStayOrNone s sel n = (HasNone s sel × (n ≡ 0)) ⊎ IsLeastStay s sel n

-- how many pages have the number of the page with this id, how long each stays at least, and how soon each comes again
pub record IsReport (s : Stream) (pages : List Page) (t : NumberReport) : Type 0 where
  pub count : t.pages ≡ count_of pages t.first.mag t.first.page
  pub stay : IsStayOrNone s (AnySub t.first.mag t.first.page) t.stay
  pub interval : IsIntervalOf s pages t.first.mag t.first.page t.interval

-- of each number whose first page is among the first n of the list
pub record AreReportsBelow (s : Stream) (pages : List Page) (n : ℕ) (reports : List NumberReport) : Type 0 where
  pub firsts : map (λ t. t.first) reports ≡ map (λ p. p.id) (filter (leads pages) (take n pages))
  pub each : AllByRecursion (IsReport s pages) reports

pub record AreReports (s : Stream) (pages : List Page) (reports : List NumberReport) : Type 0 where
  pub firsts : map (λ t. t.first) reports ≡ map (λ p. p.id) (firsts_of pages)
  pub each : AllByRecursion (IsReport s pages) reports

abbrev pub amounts_text : ℕ → ℕ → ℕ → List ℕ
amounts_text most pages stay = codes " pages " ++ decimal pages ++ codes " every " ++ decimal most ++ codes " slots stays " ++ decimal stay ++ 10 ∷ []

abbrev pub number_line : ℕ → NumberReport → List ℕ
number_line most report = codes "number " ++ number_text report.first ++ amounts_text most report.pages report.stay

abbrev pub numbers_text : ℕ → List NumberReport → List ℕ
numbers_text most reports = flat_map (number_line most) reports

abbrev pub slot_text : ℕ → List ℕ
slot_text slot = 32 ∷ decimal slot ++ 10 ∷ []

abbrev pub unwhole_line : Id → Item → ℕ → List ℕ
unwhole_line page item slot = codes "no 14 unwhole " ++ (id_text page ++ item_text item) ++ slot_text slot

abbrev pub unlisted_line : Id → ℕ → List ℕ
unlisted_line page slot = codes "no 15 unlisted " ++ number_text page ++ slot_text slot

abbrev pub lack_line : Lack → List ℕ
lack_line (Unwhole page item slot) = unwhole_line page item slot
lack_line (Unlisted page slot) = unlisted_line page slot

-- the verdict on so many pages: the yes line and a line for each number, seen within the deadline and the gap; or the no line
abbrev pub numbers_verdict_text : CertificateFields → ℕ → List NumberReport → NumbersVerdict → List ℕ
numbers_verdict_text w pages reports (Yes gap) = late_text w pages gap ++ numbers_text (limit (certificate_at w) + gap) reports
numbers_verdict_text w pages reports (No verdict) = late_verdict_line w pages verdict
numbers_verdict_text w pages reports (Lacking lack) = lack_line lack
