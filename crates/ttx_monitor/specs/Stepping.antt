-- One step of a monitor.
--
--   BeginsWith              a slot waits first
--   IsPlacedFor             a monitor and what waits, once it is known whether the feed has slipped at a slot
--   IsHeardAs               what is made of a slot at its place
--   IsStep                  what is made of the next slot, or the end of the feed
use Rattle.std.specs.Prelude.{◌≡◌, ℕ, ◌<◌, List, [], ◌∷◌, ◌++◌, length, Option}
use Rattle.ttx_packet.specs.Slots.{IsSlot}
use Rattle.ttx_monitor.specs.Watching.{Watched, sent_at}
use Rattle.ttx_monitor.specs.Breaches.{IsHeard}
use Rattle.ttx_monitor.specs.Standing.{Stands}
use Rattle.ttx_monitor.specs.Waiting.{waiting, IsLeft}
use Rattle.ttx_monitor.specs.Totals.{wrong_in, bits_in}
use Rattle.ttx_monitor.specs.MostWrong.{IsMostWrong}
use Rattle.ttx_monitor.specs.Events.{moved, since, IsShift, IsEvent}
use Rattle.ttx_monitor.specs.declared.ahead.Ahead.{Ahead}
use Rattle.ttx_monitor.specs.declared.event.Event.{Event}
use Rattle.ttx_monitor.specs.declared.monitor.Monitor.{Monitor}
use Rattle.ttx_monitor.specs.declared.step.Step.{Step}
use Rattle.ttx_monitor.specs.declared.step.Step.TheVariants.{Heard, End}

abbrev pub BeginsWith : List ℕ → Ahead → Type 0
BeginsWith slot a = (more : List (List ℕ)) × (waiting a ≡ slot ∷ more)

pub record IsPlacedFor (w : Watched) (slots : List (List ℕ)) (bytes slot : List ℕ) (m : Monitor) (a : Ahead) (remaining : Option (List ℕ))
    (shift : Option ℕ) : Type 0 where
  pub told : IsShift w (length slots) bytes slot shift
  pub stands : Stands m (moved w (length slots) shift) (since slots shift)
  pub left : IsLeft a remaining bytes
  pub begins : BeginsWith slot a

pub record IsHeardAs (w : Watched) (slots : List (List ℕ)) (slot : List ℕ) (shift : Option ℕ) (m : Monitor) (e : Event) : Type 0 where
  pub shift_is : e.shift ≡ shift
  pub breach : IsHeard w slots slot e.breach
  pub wrong : e.wrong ≡ wrong_in (sent_at w (length slots)) slot
  pub bits : e.bits ≡ bits_in (sent_at w (length slots)) slot
  pub streak : IsMostWrong w (slots ++ slot ∷ []) e.streak
  pub stands : Stands m w (slots ++ slot ∷ [])

pub record IsNext (w : Watched) (slots : List (List ℕ)) (bytes : List ℕ) (m : Monitor) (a : Ahead) (remaining : Option (List ℕ)) (e : Event)
    : Type 0 where
  pub slot : List ℕ
  pub after : List ℕ
  pub same : bytes ≡ slot ++ after
  pub is_slot : IsSlot slot
  pub event : IsEvent w slots bytes slot e
  pub stands : Stands m (moved w (length slots) e.shift) (since slots e.shift ++ slot ∷ [])
  pub left : IsLeft a remaining after

abbrev pub IsStep : Watched → List (List ℕ) → List ℕ → Monitor → Ahead → Option (List ℕ) → Step → Type 0
IsStep w slots bytes m a remaining (Heard e) = IsNext w slots bytes m a remaining e
IsStep w slots bytes m a remaining (End rest) = (rest < 42) × (length bytes ≡ rest) × Stands m w slots
