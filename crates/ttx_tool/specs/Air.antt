-- What `air` is asked for, and what it says of a fault.
--
--   fields_in, name_in      how many fields are sent, and how the clock is named
--   Asks                    a broadcast as the words ask for it
--   air_text, air_status    the line of its fault, and the status after it
use Rattle.std.specs.Prelude.{◌≡◌, ℕ, ◌-◌, ◌^◌, pos, ◌*ℤ◌, List, ◌++◌, codes, string_bytes, Option, Some, None}
use Rattle.ttx_arguments.specs.declared.orders.AirOrder.{AirOrder}
use Rattle.ttx_arguments.specs.declared.orders.Clock.{Clock}
use Rattle.ttx_arguments.specs.declared.orders.Clock.TheVariants as asked
use Rattle.ttx_cycle.specs.declared.faults.TextFault.TheVariants as text
use Rattle.ttx_broadcast.specs.declared.faults.BroadcastFault.{BroadcastFault}
use Rattle.ttx_broadcast.specs.declared.faults.BroadcastFault.TheVariants.{Unread, Refused, NoMemory, Write}
use Rattle.ttx_broadcast.specs.declared.request.ClockName.{ClockName}
use Rattle.ttx_broadcast.specs.declared.request.ClockName.TheVariants.{Zone, Ahead}
use Rattle.ttx_broadcast.specs.declared.request.Request.{Request}

-- without a number, as many as a u32 can count
abbrev pub fields_in : Option ℕ → ℕ
fields_in None = 2 ^ 32 - 1
fields_in (Some fields) = fields

abbrev pub name_in : Clock → ClockName
name_in (asked.Ahead half_hours) = Ahead (pos 1800 *ℤ half_hours)
name_in (asked.Zone name) = Zone name

pub record Asks {C : Type 0} (order : AirOrder) (clock : C) (r : Request C) : Type 0 where
  pub within : r.demand.within ≡ order.within
  pub repeat : r.demand.repeat ≡ order.repeat
  pub late : r.demand.late ≡ order.late
  pub spread : r.demand.spread ≡ order.spread
  pub own_clock : r.clock ≡ clock
  pub name : r.name ≡ name_in order.timing.clock
  pub fields : r.fields ≡ fields_in order.fields

abbrev pub air_text : BroadcastFault → List ℕ
air_text (Unread text.Read) = codes "fault: read"
air_text (Unread text.TooLong) = codes "refused: service too-long"
air_text (Unread text.NoMemory) = codes "fault: memory"
air_text (Refused words) = codes "refused: " ++ string_bytes words
air_text NoMemory = codes "fault: memory"
air_text (Write fault) = codes "fault: write"

abbrev pub air_status : BroadcastFault → ℕ
air_status (Unread text.Read) = 3
air_status (Unread text.TooLong) = 2
air_status (Unread text.NoMemory) = 3
air_status (Refused words) = 2
air_status NoMemory = 3
air_status (Write fault) = 3
