-- The waits for the page of a survey at an index are those for the page in the list.
use Rattle.std.proofs.Common.{◌≡◌, ℕ, Some, slice_get, List, subst}
use Rattle.ttx_page.specs.Pages.{Page}
use Rattle.ttx_witness.specs.search.Surveys.{survey_slots, survey_pages, surveyed_page, AreOthersIn}
use Rattle.ttx_witness.specs.wait_times.PageWaits.{IsWait}
use Rattle.ttx_witness.specs.wait_times.ItemWaits.{AreItemsTold}
use Rattle.ttx_witness.specs.wait_times.SurveyedWaits.{IsWaitIn, AreItemsToldIn}
use Rattle.ttx_witness.specs.declared.faults.other_subpages.OtherSubpages.{OtherSubpages}
use Rattle.ttx_witness.specs.declared.search.survey.Survey.{Survey}
use Rattle.ttx_witness.specs.declared.search.survey.SurveyedPage.{SurveyedPage}
use Rattle.ttx_witness.specs.declared.wait_times.wait.ItemWait.{ItemWait}
use Rattle.ttx_witness.specs.declared.wait_times.wait.Wait.{Wait}
use Rattle.ttx_witness.proofs.lemmas.search.Surveys.{surveyed_here}

-- the page is the one in the list
same_page : (survey : Survey) (index : ℕ) (p : SurveyedPage) → p.survey.now ≡ survey → p.index ≡ index → (q : Page) →
    slice_get (survey_pages survey) index ≡ Some q → surveyed_page p ≡ q
same_page survey index p of is q at = let here = surveyed_here survey index p of is in cc

pub wait_here : (survey : Survey) (index : ℕ) (p : SurveyedPage) → p.survey.now ≡ survey → p.index ≡ index → (q : Page) →
    slice_get (survey_pages survey) index ≡ Some q →
    (others : OtherSubpages) (wait : Wait) → (AreOthersIn p.survey.now others → IsWaitIn p wait) → AreOthersIn survey others →
    IsWait (survey_slots survey) (survey_pages survey) q survey.class survey.repeat survey.lines wait
wait_here survey index p of is q at others wait tells known =
    subst (λ x. IsWait (survey_slots survey) (survey_pages survey) x survey.class survey.repeat survey.lines wait)
    (same_page survey index p of is q at)
    (subst (λ v. AreOthersIn v others → IsWait (survey_slots v) (survey_pages v) (surveyed_page p) v.class v.repeat v.lines wait) of tells known)

pub items_here : (survey : Survey) (index : ℕ) (p : SurveyedPage) → p.survey.now ≡ survey → p.index ≡ index → (q : Page) →
    slice_get (survey_pages survey) index ≡ Some q →
    (n : ℕ) (told : List ItemWait) → AreItemsToldIn p n told → AreItemsTold (survey_slots survey) q survey.class survey.repeat survey.lines n told
items_here survey index p of is q at n told tells =
    subst (λ x. AreItemsTold (survey_slots survey) x survey.class survey.repeat survey.lines n told) (same_page survey index p of is q at)
    (subst (λ v. AreItemsTold (survey_slots v) (surveyed_page p) v.class v.repeat v.lines n told) of tells)
