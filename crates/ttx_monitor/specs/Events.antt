-- What a monitor makes of each slot of a feed, one after another (profile).
--
--   moved, since            what is watched from a slip on, and the slots since then
--   IsShift                 whether and by how much the feed has slipped at a slot that cannot have been received
--   IsEvent                 what is made of one slot
--   IsWalk                  what is made of each of some slots, and the bytes that are left
use Rattle.std.specs.Prelude.{◌≡◌, ◌⊎◌, ℕ, ◌+◌, ◌%◌, List, [], ◌∷◌, ◌++◌, length, Option, Some, None}
use Rattle.ttx_packet.specs.Slots.{IsSlot}
use Rattle.ttx_packet.specs.Receptions.{MayBeReceivedAs}
use Rattle.ttx_monitor.specs.Watching.{Watched, watched, sent_at}
use Rattle.ttx_monitor.specs.Breaches.{IsHeard}
use Rattle.ttx_monitor.specs.FirstPeriods.{IsFirstPeriod}
use Rattle.ttx_monitor.specs.Slips.{place_on, IsSlip}
use Rattle.ttx_monitor.specs.Totals.{wrong_in, bits_in}
use Rattle.ttx_monitor.specs.MostWrong.{IsMostWrong}
use Rattle.ttx_monitor.specs.declared.event.Event.{Event}

-- the place in the cycle of slot n of what is watched
abbrev pub place_of : Watched → ℕ → ℕ
place_of w n = (w.start + n) % length w.cycle

abbrev pub moved : Watched → ℕ → Option ℕ → Watched
moved w n None = w
moved w n (Some by) = watched w.cycle w.pages w.repeat (place_on w.cycle (place_of w n) by)

abbrev pub since : List (List ℕ) → Option ℕ → List (List ℕ)
since slots None = slots
since slots (Some by) = []

-- at slot n, which is the first of these bytes; a period of them decides, or what there is of it
abbrev pub IsShift : Watched → ℕ → List ℕ → List ℕ → Option ℕ → Type 0
IsShift w n bytes slot None =
    MayBeReceivedAs (sent_at w n) slot
    ⊎ ((window : List (List ℕ)) × IsFirstPeriod w.cycle bytes window × IsSlip w.cycle window (place_of w n) None)
IsShift w n bytes slot (Some by) =
    (MayBeReceivedAs (sent_at w n) slot → ⊥)
    × ((window : List (List ℕ)) × IsFirstPeriod w.cycle bytes window × IsSlip w.cycle window (place_of w n) (Some by))

-- the slot comes after the slots that were judged since the latest slip
pub record IsEvent (w : Watched) (slots : List (List ℕ)) (bytes slot : List ℕ) (e : Event) : Type 0 where
  pub shift : IsShift w (length slots) bytes slot e.shift
  pub breach : IsHeard (moved w (length slots) e.shift) (since slots e.shift) slot e.breach
  pub wrong : e.wrong ≡ wrong_in (sent_at (moved w (length slots) e.shift) (length (since slots e.shift))) slot
  pub bits : e.bits ≡ bits_in (sent_at (moved w (length slots) e.shift) (length (since slots e.shift))) slot
  pub streak : IsMostWrong (moved w (length slots) e.shift) (since slots e.shift ++ slot ∷ []) e.streak

abbrev pub IsWalk : Watched → List (List ℕ) → List ℕ → List Event → List ℕ → Type 0
IsWalk w slots bytes [] rest = bytes ≡ rest
IsWalk w slots bytes (e ∷ events) rest =
    (slot : List ℕ) × (after : List ℕ) × (bytes ≡ slot ++ after) × IsSlot slot × IsEvent w slots bytes slot e
    × IsWalk (moved w (length slots) e.shift) (since slots e.shift ++ slot ∷ []) after events rest
