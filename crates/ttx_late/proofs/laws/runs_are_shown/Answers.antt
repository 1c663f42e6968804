use Rattle.ttx_late.proofs.RunsAreShown as L
use Rattle.ttx_late.proofs.laws.runs_are_shown.Goals as goal

pub returns : goal.returns
returns c = L.runs_are_shown c.contents_decide.ensures c.kind_is_kept.ensures c.header_is_kept.ensures c.runs_go_on.ensures c.runs_are_seen.ensures
