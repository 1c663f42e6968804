-- The definitions of `Finding`, for the cycle, pages and numbers of a survey.
--
--   survey_slots, survey_pages      the slots of the survey's cycle, and its pages
--   AreNamedIn              the entries and the least limit after the first items of all pages
--   AreOthersIn             the headers of other subpages of its pages
--   IsFaultIn, AreFaultsIn  the first reason why a page is not sent unchanged; this reason of each page
--   surveyed_page           the page
--   surveyed_starts, surveyed_spread,
--   surveyed_least        the starts of the sure runs of an item of the page, how far apart these are, the least limit
--   surveyed_named, surveyed_limit  the starts named for an item that a viewer of the page sees, and its least limit
use Rattle.std.specs.Prelude.{ℕ, List, Option, map}
use Rattle.ttx_cycle.specs.Cycles.{slots_of}
use Rattle.ttx_page.specs.Pages.{Page}
use Rattle.ttx_page.specs.Views.{page_of}
use Rattle.ttx_page.specs.declared.item.Item.{Item}
use Rattle.ttx_certificate.specs.declared.entries.Entry.{Entry}
use Rattle.ttx_witness.specs.runs.SureStarts.{Spread}
use Rattle.ttx_witness.specs.faults.Faults.{IsPageFault, AreFaults}
use Rattle.ttx_witness.specs.faults.OtherSubpages.{AreOtherSubpages}
use Rattle.ttx_witness.specs.declared.faults.other_subpages.OtherSubpages.{OtherSubpages}
use Rattle.ttx_witness.specs.declared.faults.reason.Reason.{Reason}
use Rattle.ttx_witness.specs.declared.faults.reason.PageFault.{PageFault}
use Rattle.ttx_witness.specs.search.Finding.{starts_of, spread_at, least_limit, starts_for, limit_for, AreNamed}
use Rattle.ttx_witness.specs.declared.search.survey.Survey.{Survey}
use Rattle.ttx_witness.specs.declared.search.survey.SurveyedPage.{SurveyedPage}

abbrev pub survey_slots : Survey → List (List ℕ)
survey_slots s = slots_of s.cycle.now

abbrev pub survey_pages : Survey → List Page
survey_pages s = map page_of s.pages.now

abbrev pub AreNamedIn : Survey → ℕ → List Entry → Option ℕ → Type 0
AreNamedIn s m entries least = AreNamed (survey_slots s) (survey_pages s) s.class s.lines s.repeat m entries least

-- the headers of other subpages of the pages
abbrev pub AreOthersIn : Survey → OtherSubpages → Type 0
AreOthersIn s others = AreOtherSubpages (survey_slots s) (survey_pages s) others

abbrev pub IsFaultIn : Survey → Page → Option Reason → Type 0
IsFaultIn s p answer = IsPageFault (survey_slots s) (survey_pages s) p answer

abbrev pub AreFaultsIn : Survey → List PageFault → Type 0
AreFaultsIn s faults = AreFaults (survey_slots s) (survey_pages s) faults

abbrev pub surveyed_page : SurveyedPage → Page
surveyed_page p = page_of p.page.now

abbrev pub surveyed_starts : SurveyedPage → ℕ → Item → List ℕ
surveyed_starts p repeat item = starts_of (survey_slots p.survey.now) p.survey.now.lines repeat (surveyed_page p).id item

abbrev pub surveyed_spread : SurveyedPage → ℕ → Item → Option Spread
surveyed_spread p repeat item = spread_at (survey_slots p.survey.now) p.survey.now.lines repeat (surveyed_page p).id item

abbrev pub surveyed_least : SurveyedPage → ℕ → Item → Option ℕ
surveyed_least p repeat item = least_limit (survey_slots p.survey.now) p.survey.now.lines repeat (surveyed_page p).id item

abbrev pub surveyed_named : SurveyedPage → Item → List ℕ
surveyed_named p item = starts_for (survey_slots p.survey.now) p.survey.now.class p.survey.now.lines p.survey.now.repeat (surveyed_page p) item

abbrev pub surveyed_limit : SurveyedPage → Item → Option ℕ
surveyed_limit p item = limit_for (survey_slots p.survey.now) p.survey.now.class p.survey.now.lines p.survey.now.repeat (surveyed_page p) item
