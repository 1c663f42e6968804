-- The definitions NAME of waits, as NAMEIn with the cycle, the pages, the class, the repeat count and the lines of a survey.
--
--   IsLongestIn             the longest wait among the first items of a page, from their least limits
--   IsWaitByLimitsIn        the wait for the page that follows from these limits
--   IsWaitIn                how long a viewer of the page waits
--   IsItemWaitIn, AreItemsToldIn    how long a viewer waits for an item of it; the waits for its items below a number
--   AreWaitsIn, AreItemWaitsIn      the waits for all pages of a survey, and for their items
use Rattle.std.specs.Prelude.{ℕ, List}
use Rattle.ttx_page.specs.declared.item.Item.{Item}
use Rattle.ttx_witness.specs.search.Surveys.{survey_slots, survey_pages, surveyed_page}
use Rattle.ttx_witness.specs.wait_times.PageWaits.{IsWait, AreWaits}
use Rattle.ttx_witness.specs.wait_times.ItemLimits.{IsLongest, IsWaitByLimits}
use Rattle.ttx_witness.specs.wait_times.ItemWaits.{IsItemWait, AreItemsTold, AreItemWaits}
use Rattle.ttx_witness.specs.declared.search.survey.Survey.{Survey}
use Rattle.ttx_witness.specs.declared.search.survey.SurveyedPage.{SurveyedPage}
use Rattle.ttx_witness.specs.declared.wait_times.wait.ItemWait.{ItemWait}
use Rattle.ttx_witness.specs.declared.wait_times.wait.OwnWait.{OwnWait}
use Rattle.ttx_witness.specs.declared.wait_times.wait.PageWait.{PageWait}
use Rattle.ttx_witness.specs.declared.wait_times.wait.Wait.{Wait}

abbrev pub IsLongestIn : SurveyedPage → ℕ → ℕ → Item → Type 0
IsLongestIn p m deadline item = let v = p.survey.now in IsLongest (survey_slots v) (surveyed_page p) v.class v.repeat v.lines m deadline item

abbrev pub IsWaitByLimitsIn : SurveyedPage → Wait → Type 0
IsWaitByLimitsIn p wait = let v = p.survey.now in IsWaitByLimits (survey_slots v) (surveyed_page p) v.class v.repeat v.lines wait

abbrev pub IsWaitIn : SurveyedPage → Wait → Type 0
IsWaitIn p wait = let v = p.survey.now in IsWait (survey_slots v) (survey_pages v) (surveyed_page p) v.class v.repeat v.lines wait

abbrev pub IsItemWaitIn : SurveyedPage → Item → OwnWait → Type 0
IsItemWaitIn p item wait = let v = p.survey.now in IsItemWait (survey_slots v) (surveyed_page p) v.class v.repeat v.lines item wait

abbrev pub AreItemsToldIn : SurveyedPage → ℕ → List ItemWait → Type 0
AreItemsToldIn p n told = let v = p.survey.now in AreItemsTold (survey_slots v) (surveyed_page p) v.class v.repeat v.lines n told

abbrev pub AreWaitsIn : Survey → List PageWait → Type 0
AreWaitsIn v told = AreWaits (survey_slots v) (survey_pages v) v.class v.repeat v.lines told

abbrev pub AreItemWaitsIn : Survey → List (List ItemWait) → Type 0
AreItemWaitsIn v all = AreItemWaits (survey_slots v) (survey_pages v) v.class v.repeat v.lines all
