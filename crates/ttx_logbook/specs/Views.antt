-- The values of a log as records.
--
--   promise_of, size_of, begin_of, clock_of, settings_of    what was asked for
--   start_of, event_of, entry_of    what happened
use Rattle.ttx_logbook.specs.LogTexts.{PromiseFields, SizeFields, BeginFields, ClockFields, SettingsFields, StartFields, EventFields, EntryFields}
use Rattle.ttx_logbook.specs.LogTexts as fields
use Rattle.ttx_logbook.specs.declared.values.Promise.{Promise}
use Rattle.ttx_logbook.specs.declared.values.Size.{Size}
use Rattle.ttx_logbook.specs.declared.values.Begin.{Begin}
use Rattle.ttx_logbook.specs.declared.values.ClockName.{ClockName}
use Rattle.ttx_logbook.specs.declared.values.ClockName.TheVariants.{Zone, Ahead}
use Rattle.ttx_logbook.specs.declared.values.Settings.{Settings}
use Rattle.ttx_logbook.specs.declared.values.Start.{Start}
use Rattle.ttx_logbook.specs.declared.values.Event.{Event}
use Rattle.ttx_logbook.specs.declared.values.Event.TheVariants.{Changed, Kept, Unread, End}
use Rattle.ttx_logbook.specs.declared.values.Entry.{Entry}

abbrev pub promise_of : Promise → PromiseFields
promise_of p = record { within = p.within; repeat = p.repeat; late = p.late; spread = p.spread }

abbrev pub size_of : Size → SizeFields
size_of s = record { lines = s.lines; fields = s.fields }

abbrev pub begin_of : Begin → BeginFields
begin_of b = record { mjd = b.mjd; second = b.second }

abbrev pub clock_of : ClockName → ClockFields
clock_of (Zone name) = fields.Zone name.now
clock_of (Ahead seconds) = fields.Ahead seconds

abbrev pub settings_of : Settings → SettingsFields
settings_of s = record { promise = promise_of s.promise; size = size_of s.size; begin = begin_of s.begin; clock = clock_of s.clock }

abbrev pub start_of : Start → StartFields
start_of s = record { field = s.field; time = s.time.now; digest = s.digest.now; words = s.words.now }

abbrev pub event_of : Event → EventFields
event_of (Changed digest words) = fields.Changed digest.now words.now
event_of (Kept digest words) = fields.Kept digest.now words.now
event_of (Unread words) = fields.Unread words.now
event_of End = fields.End

abbrev pub entry_of : Entry → EntryFields
entry_of e = record { field = e.field; time = e.time.now; event = event_of e.event }
