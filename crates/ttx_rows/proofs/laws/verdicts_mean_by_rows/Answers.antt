use Rattle.ttx_rows.proofs.Seen as L
use Rattle.ttx_rows.proofs.laws.verdicts_mean_by_rows.Goals as goal

pub returns : goal.returns
returns c =
    let seen = L.means_by_rows c.accepted_is_seen_by_rows.ensures in
    let shown = L.means_late_by_rows c.accepted_is_seen_by_rows.ensures c.accepted_is_shown_by_rows.ensures in
    record { seen = seen; shown = shown; files = L.files_mean_by_rows seen; late_files = L.late_files_mean_by_rows shown }
