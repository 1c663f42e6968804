-- The pages of a survey, by index.
use Rattle.std.proofs.Common.{◌≡◌, ℕ, slice_get, Some, subst}
use Rattle.ttx_witness.specs.search.Surveys.{survey_pages, surveyed_page}
use Rattle.ttx_witness.specs.declared.search.survey.Survey.{Survey}
use Rattle.ttx_witness.specs.declared.search.survey.SurveyedPage.{SurveyedPage}

pub surveyed_here : (survey : Survey) (index : ℕ) (p : SurveyedPage) → p.survey.now ≡ survey → p.index ≡ index →
    slice_get (survey_pages survey) index ≡ Some (surveyed_page p)
surveyed_here survey index p of at = subst (λ n. slice_get (survey_pages survey) n ≡ Some (surveyed_page p)) at
    (subst (λ s. slice_get (survey_pages s) p.index ≡ Some (surveyed_page p)) of p.at)
