-- The steps of a broadcast.
use Rattle.std.proofs.Common.{◌≡◌, ℕ, List, Ok, Err, Result, refl, ap}
use Rattle.std.specs.Prelude.{⊤}
use Rattle.ttx_air.specs.Airings.{Written, Logs, scene, Airs}
use Rattle.ttx_air.specs.Newsrooms.{Candidate}
use Rattle.ttx_air.specs.declared.faults.AirFault.{AirFault}
use Rattle.ttx_air.specs.declared.faults.AirFault.TheVariants as air
use Rattle.ttx_playout.specs.declared.faults.StartFault.TheVariants as start
use Rattle.ttx_air.specs.TextNewsrooms.{Reading, IsNew}
use Rattle.ttx_air.specs.declared.text_newsroom.TextNewsroom.{TextNewsroom}
use Rattle.ttx_press.specs.declared.house.House.{House}
use Rattle.ttx_press.specs.Openings.{IsOpening}
use Rattle.ttx_press.specs.Presses.{text_gives}
use Rattle.ttx_broadcast.specs.Broadcasts.{MayEnd, ended, Outs, Wish, airtime_in, line_in, Sends, Begun, Broadcasts}
use Rattle.ttx_broadcast.specs.declared.faults.BroadcastFault.{BroadcastFault}
use Rattle.ttx_broadcast.specs.declared.faults.BroadcastFault.TheVariants.{Unread, Refused, NoMemory, Write}

module _ {S : Type 0} (reads : S → Reading → S → Type 0) (wish : Wish) where
  pub sends_as : (house : House) (first : Candidate) (old new : TextNewsroom S House) (before after : Outs) (log : Written)
      (aired : Result ⊤ AirFault) → MayEnd aired → Logs before.log log (line_in wish first) →
      Airs (text_gives reads) (airtime_in wish house) first (scene old log before.packets) (scene new after.log after.packets) aired →
      Sends reads wish house first old new before after (ended aired)
  sends_as house first old new before after log (Ok done) may settings airs = record { log = log; settings = settings; airs = airs }
  sends_as house first old new before after log (Err (air.Write fault)) may settings airs =
      record { log = log; settings = settings; airs = airs }
  sends_as house first old new before after log (Err (air.Start start.NoMemory)) may settings airs = ap (λ s. s.packets) airs.1
  sends_as house first old new before after log (Err (air.Start (start.Refused reason))) may settings airs = absurd may
  sends_as house first old new before after log (Err (air.Start start.Clearing)) may settings airs = absurd may
  sends_as house first old new before after log (Err (air.NeverShown page slot)) may settings airs = absurd may
  sends_as house first old new before after log (Err (air.TooFar gap)) may settings airs = absurd may

  pub broadcasts_as : (source : S) (begun : Begun reads wish source) (left : TextNewsroom S House) (before after : Outs)
      (result : Result ⊤ BroadcastFault) → Sends reads wish begun.house begun.first begun.newsroom left before after result →
      Broadcasts reads wish source before after result
  broadcasts_as source begun left before after (Ok done) sends = record { begun = begun; left = left; sent = sends }
  broadcasts_as source begun left before after (Err (Write fault)) sends = record { begun = begun; left = left; sent = sends }
  broadcasts_as source begun left before after (Err NoMemory) sends = ((begun.text, begun.next, begun.read), sends)
  broadcasts_as source begun left before after (Err (Unread fault)) sends = absurd sends
  broadcasts_as source begun left before after (Err (Refused words)) sends = absurd sends
