-- The steps of a replay.
use Rattle.std.proofs.Common.{ℕ, List, Ok, Err, Result, refl}
use Rattle.std.specs.Prelude.{⊤}
use Rattle.ttx_send.specs.Airing.{Times}
use Rattle.ttx_press.specs.declared.demand.Demand.{Demand}
use Rattle.ttx_press.specs.declared.house.House.{House}
use Rattle.ttx_logbook.specs.LogTexts.{LogFields}
use Rattle.ttx_archive.specs.Archives.{IsFiled}
use Rattle.ttx_broadcast.specs.declared.recordings.log_newsroom.LogNewsroom.{LogNewsroom}
use Rattle.ttx_broadcast.specs.Replays.{IsDemand, Outs, Opens, Sends, Begun, Replays}
use Rattle.ttx_broadcast.specs.declared.recordings.faults.ReplayFault.{ReplayFault}
use Rattle.ttx_broadcast.specs.declared.recordings.faults.ReplayFault.TheVariants.{Lost, Refused, NoMemory, Air}

module _ (archive : List (List ℕ)) (l : LogFields) (times : Times) where
  pub replays_as : (begun : Begun archive l) (left : LogNewsroom House) (before after : Outs) (result : Result ⊤ ReplayFault) →
      Sends l.settings times begun.house begun.first begun.newsroom left before after result → Replays archive l times before after result
  replays_as begun left before after (Ok done) sends = record { begun = begun; left = left; sent = sends }
  replays_as begun left before after (Err (Air fault)) sends = record { begun = begun; left = left; sent = sends }
  replays_as begun left before after (Err NoMemory) sends = sends
  replays_as begun left before after (Err (Lost digest)) sends = absurd sends
  replays_as begun left before after (Err (Refused words)) sends = absurd sends

  pub refused_as : (text : List ℕ) (d : Demand) (before : Outs) (fault : ReplayFault) → IsFiled archive l.start.digest text →
      IsDemand l.settings.promise d → Opens d text (Err fault) → Replays archive l times before before (Err fault)
  refused_as text d before (Refused words) filed asked refused =
      (record { text = text; filed = filed; demand = d; asked = asked; refused = refused }, refl)
  refused_as text d before NoMemory filed asked refused = refl
  refused_as text d before (Lost digest) filed asked refused = absurd refused
  refused_as text d before (Air fault) filed asked refused = absurd refused
