-- What is counted of a feed (profile).
--
--   capped                  a count, which stops at 2^64 - 1
--   lost_of                 1 for a packet that was lost
--   is_bad, bad_of          a slot that breaks the rule, or at which the feed has slipped; 1 for it
--   is_last                 such a slot ends the reading, if only the first one is reported
--   nothing_yet, added, tally_of    before the first slot; after one more; after several
use Rattle.std.specs.Prelude.{ℕ, ◌+◌, ◌-◌, ◌^◌, min, max, Bool, ◌||◌, ◌&&◌, not, if◌then◌else◌, List, [], ◌∷◌, Option, Some, is_some}
use Rattle.ttx_monitor.specs.declared.breach.Breach.{Breach}
use Rattle.ttx_monitor.specs.declared.breach.Breach.TheVariants.{Lost}
use Rattle.ttx_monitor.specs.declared.event.Event.{Event}
use Rattle.ttx_monitor.specs.declared.tally.Tally.{Tally}

abbrev pub capped : ℕ → ℕ
capped n = min n (2 ^ 64 - 1)

abbrev pub lost_of : Option Breach → ℕ
lost_of (Some Lost) = 1
lost_of _ = 0

abbrev pub is_bad : Event → Bool
is_bad e = is_some e.shift || is_some e.breach

abbrev pub bad_of : Event → ℕ
bad_of e = if is_bad e then 1 else 0

abbrev pub is_last : Bool → Event → Bool
is_last all e = not all && is_bad e

abbrev pub nothing_yet : Tally
nothing_yet = record { slots = 0; wrong = 0; bits = 0; lost = 0; breaches = 0; streak = 0 }

abbrev pub added : Tally → Event → Tally
added t e = record {
  slots = capped (t.slots + 1);
  wrong = capped (t.wrong + e.wrong);
  bits = capped (t.bits + e.bits);
  lost = capped (t.lost + lost_of e.breach);
  breaches = capped (t.breaches + bad_of e);
  streak = max t.streak e.streak;
}

abbrev pub tally_of : Tally → List Event → Tally
tally_of t [] = t
tally_of t (e ∷ events) = tally_of (added t e) events
