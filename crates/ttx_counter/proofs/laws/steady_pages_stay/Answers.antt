use Rattle.ttx_counter.proofs.UnchangedPageStays.{stays}
use Rattle.ttx_counter.proofs.laws.steady_pages_stay.Goals as goal

pub returns : goal.returns
returns c =
    stays (record {
      shown = c.page_is_shown.ensures;
      scripted = c.scripted_runs.ensures;
      own = c.steady_sends_its_own.ensures;
      kept = c.shown_stays_shown.ensures;
      seen = c.showing_is_seeing.ensures;
    })
