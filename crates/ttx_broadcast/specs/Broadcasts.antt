-- A service on the air from its text (profile).
--
--   fault_of, MayEnd, ended         faults
--   ReadsFirst, Opens       the first text; its house and its edition
--   Outs, outs_of           the log and the packets
--   Wish                    what is asked for, what the clock shows, how it is named, and how many fields are sent
--   airtime_in, line_in     the airing that is asked for; the first line of the log
--   IsSent, Sends           the log has the settings, and the airing follows
--   Begun, IsOnAir          the first text, its opening, and its newsroom; and what is sent
--   Broadcasts              what `broadcast` does: it airs, or nothing is sent, and why
use Rattle.std.specs.declared.alloc.Global.{Global}
use Rattle.std.specs.Prelude.{◌≡◌, ℕ, List, string_bytes, Option, Result, Ok, Err, Vec, ⊤}
use Rattle.ttx_cycle.specs.Counters.{inner_of}
use Rattle.ttx_send.specs.Airing.{Times}
use Rattle.ttx_air.specs.declared.faults.AirFault.{AirFault}
use Rattle.ttx_air.specs.declared.faults.AirFault.TheVariants as air
use Rattle.ttx_air.specs.declared.log.Outputs.{Outputs}
use Rattle.ttx_air.specs.Newsrooms.{Candidate, candidate_of}
use Rattle.ttx_air.specs.Airings.{Written, written_of, Logs, scene, Airtime, Airs}
use Rattle.ttx_air.specs.TextNewsrooms.{Reading, IsNew}
use Rattle.ttx_air.specs.declared.text_newsroom.TextNewsroom.{TextNewsroom}
use Rattle.ttx_press.specs.declared.demand.Demand.{Demand}
use Rattle.ttx_press.specs.declared.house.House.{House}
use Rattle.ttx_playout.specs.declared.faults.StartFault.TheVariants as start
use Rattle.ttx_air.specs.declared.press.PressFault.{PressFault}
use Rattle.ttx_air.specs.declared.press.PressFault.TheVariants as press
use Rattle.ttx_press.specs.declared.opened_air.Opening.{Opening}
use Rattle.ttx_press.specs.Openings.{IsOpening, IsNoOpening}
use Rattle.ttx_press.specs.Presses.{text_gives}
use Rattle.ttx_broadcast.specs.Settings.{settings_line}
use Rattle.ttx_broadcast.specs.declared.faults.BroadcastFault.{BroadcastFault}
use Rattle.ttx_broadcast.specs.declared.faults.BroadcastFault.TheVariants.{Unread, Refused, NoMemory, Write}
use Rattle.ttx_broadcast.specs.declared.request.ClockName.{ClockName}
use Rattle.ttx_broadcast.specs.declared.request.Request.{Request}

abbrev pub fault_of : PressFault → BroadcastFault
fault_of (press.Refused words) = Refused words
fault_of press.NoMemory = NoMemory

-- a first edition with an opening is not refused by the air, but memory may run out
abbrev pub MayEnd : Result ⊤ AirFault → Type 0
MayEnd (Err (air.Start (start.Refused reason))) = ⊥
MayEnd (Err (air.Start start.Clearing)) = ⊥
MayEnd (Err (air.NeverShown page slot)) = ⊥
MayEnd (Err (air.TooFar gap)) = ⊥
MayEnd _ = ⊤

abbrev pub ended : Result ⊤ AirFault → Result ⊤ BroadcastFault
ended (Ok done) = Ok done
ended (Err (air.Write fault)) = Err (Write fault)
ended (Err _) = Err NoMemory

abbrev pub ReadsFirst : {S : Type 0} → (S → Reading → S → Type 0) → S → S → Result (Vec ℕ Global) BroadcastFault → Type 0
ReadsFirst reads old new (Ok text) = reads old (Ok text.items) new
ReadsFirst reads old new (Err (Unread fault)) = reads old (Err fault) new
ReadsFirst reads old new (Err _) = ⊥

abbrev pub Opens : Demand → List ℕ → Result Opening BroadcastFault → Type 0
Opens d text (Ok o) = IsOpening d text o.house (candidate_of o.first)
Opens d text (Err (Refused words)) = IsNoOpening d text (string_bytes words)
Opens d text (Err NoMemory) = ⊤
Opens d text (Err _) = ⊥

pub record Outs : Type 0 where
  pub log : Written
  pub packets : Option (List ℕ)

abbrev pub outs_of : {L W : Type 0} → (L → Option (List ℕ)) → (W → Option (List ℕ)) → Outputs L W → Outs
outs_of log packets o = record { log = written_of log o.log; packets = packets (inner_of o.packets) }

pub record Wish : Type 0 where
  pub demand : Demand
  pub times : Times
  pub clock : ClockName
  pub fields : ℕ

abbrev pub wish_of : {C : Type 0} → (C → Times) → Request C → Wish
wish_of shows r = record { demand = r.demand; times = shows r.clock; clock = r.name; fields = r.fields }

abbrev pub airtime_in : Wish → House → Airtime
airtime_in wish house = record { times = wish.times; fields = wish.fields; receivers = house.receivers }

abbrev pub line_in : Wish → Candidate → List ℕ
line_in wish first = settings_line wish.demand first.edition.certificate.lines wish.fields (wish.times 0) wish.clock

-- the log has the settings, and the airing follows
pub record IsSent {S : Type 0} (reads : S → Reading → S → Type 0) (wish : Wish) (house : House) (first : Candidate)
    (old new : TextNewsroom S House) (before after : Outs) (aired : Result ⊤ AirFault) : Type 0 where
  pub log : Written
  pub settings : Logs before.log log (line_in wish first)
  pub airs : Airs (text_gives reads) (airtime_in wish house) first (scene old log before.packets) (scene new after.log after.packets) aired

abbrev pub Sends : {S : Type 0} → (S → Reading → S → Type 0) → Wish → House → Candidate → TextNewsroom S House → TextNewsroom S House →
    Outs → Outs → Result ⊤ BroadcastFault → Type 0
Sends reads wish house first old new before after (Ok _) = IsSent reads wish house first old new before after (Ok tt)
Sends reads wish house first old new before after (Err (Write fault)) = IsSent reads wish house first old new before after (Err (air.Write fault))
Sends reads wish house first old new before after (Err NoMemory) = after.packets ≡ before.packets
Sends reads wish house first old new before after (Err _) = ⊥

-- the first text, its opening, and its newsroom
pub record Begun {S : Type 0} (reads : S → Reading → S → Type 0) (wish : Wish) (source : S) : Type 0 where
  pub text : List ℕ
  pub next : S
  pub read : reads source (Ok text) next
  pub house : House
  pub first : Candidate
  pub opening : IsOpening wish.demand text house first
  pub newsroom : TextNewsroom S House
  pub is_new : IsNew next house text newsroom

pub record IsOnAir {S : Type 0} (reads : S → Reading → S → Type 0) (wish : Wish) (source : S) (before after : Outs)
    (aired : Result ⊤ AirFault) : Type 0 where
  pub begun : Begun reads wish source
  pub left : TextNewsroom S House
  pub sent : IsSent reads wish begun.house begun.first begun.newsroom left before after aired

abbrev pub Broadcasts : {S : Type 0} → (S → Reading → S → Type 0) → Wish → S → Outs → Outs → Result ⊤ BroadcastFault → Type 0
Broadcasts reads wish source before after (Ok _) = IsOnAir reads wish source before after (Ok tt)
Broadcasts reads wish source before after (Err (Write fault)) = IsOnAir reads wish source before after (Err (air.Write fault))
Broadcasts {S} reads wish source before after (Err (Unread fault)) = ((next : S) × reads source (Err fault) next) × (after ≡ before)
Broadcasts {S} reads wish source before after (Err (Refused words)) =
    ((text : List ℕ) × (next : S) × reads source (Ok text) next × IsNoOpening wish.demand text (string_bytes words)) × (after ≡ before)
Broadcasts {S} reads wish source before after (Err NoMemory) = ((text : List ℕ) × (next : S) × reads source (Ok text) next) × (after.packets ≡ before.packets)
