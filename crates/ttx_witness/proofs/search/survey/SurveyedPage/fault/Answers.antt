use Rattle.ttx_witness.specs.search.Surveys.{survey_slots, survey_pages, surveyed_page}
use Rattle.ttx_witness.proofs.search.survey.SurveyedPage.fault.Goals as goal

pub returns : goal.returns
returns c = λ others.
    let s = c.args.self.now in
    let v = s.survey.now in
    c.fault_of.ensures (survey_pages v) v.lines v.sent s.at
    (c.first-other_subpage.ensures (survey_slots v) (survey_pages v) s.index (surveyed_page s) others s.at c.id.ensures)
