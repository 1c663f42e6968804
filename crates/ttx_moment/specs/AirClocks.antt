-- What a clock with one offset shows, and that of a zone: `shown_by`.
use Rattle.std.specs.Prelude.{ℕ}
use Rattle.jiff.specs.Words.{plain_zone}
use Rattle.ttx_send.specs.Times.{Moment, seconds_later}
use Rattle.ttx_moment.specs.Zones.{zone_time}
use Rattle.ttx_moment.specs.declared.zones.AirClock.{AirClock}
use Rattle.ttx_moment.specs.declared.zones.AirClock.TheVariants.{Fixed, Zone}

abbrev pub shown_by : AirClock → ℕ → Moment
shown_by (Fixed start) seconds = seconds_later start seconds
shown_by (Zone clock) seconds = zone_time (plain_zone clock.zone) clock.start seconds
