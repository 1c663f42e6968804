-- The transmissions of a period, taken one by one.
use Rattle.std.proofs.Common.{◌≡◌, ℕ, suc, ◌+◌, ◌<◌, List, [], ◌∷◌, ◌++◌, length, get_or, take, None, sym, ap, ◌∙◌, arith}
use Rattle.std.proofs.Math.Seq.{take-suc}
use Rattle.ttx_witness.specs.runs.Transmissions.{windows}
use Rattle.ttx_witness.specs.runs.Confirming.{after_runs, not_begun}
use Rattle.ttx_witness.specs.runs.SureStarts.{spread_of, sure_runs}
use Rattle.ttx_witness.specs.runs.Tracks.{held_in, held_in_ring, IsRecent, IsSearch, IsTrack}
use Rattle.ttx_witness.specs.declared.runs.ring.Ring.{Ring}
use Rattle.ttx_witness.specs.declared.runs.sure_starts.SureRuns.{SureRuns}
use Rattle.ttx_witness.specs.declared.runs.named_starts.Track.{Track}

pub take_more : {A : Type 0} (l : List A) (j : ℕ) (d : A) → j < length l → take j l ++ get_or l j d ∷ [] ≡ take (j + 1) l
take_more l j d lt = sym (take-suc l j d lt) ∙ ap (λ n. take n l) (let e : suc j ≡ j + 1 = omega arith in e)

pub search_begins : (k : ℕ) (ring : Ring) (s : SureRuns) → IsRecent k [] (held_in_ring ring) → s.starts.items ≡ [] → s.spread ≡ None →
    IsSearch k [] ring s
unfolding windows spread_of sure_runs
search_begins k ring s r e f = record { recent = r; starts = e; spread = f }

pub track_begins : (k limit : ℕ) (starts : List ℕ) (t : Track) → IsRecent k [] (held_in t.recent) → t.progress ≡ not_begun → IsTrack k limit starts [] t
unfolding windows after_runs
track_begins k limit starts t r e = record { recent = r; progress = e }
