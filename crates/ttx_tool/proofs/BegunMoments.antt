-- What begins at the instant that a text names.
use Rattle.std.proofs.Common.{List, Option, Some, None, inr}
use Rattle.jiff.specs.Types.{Timestamp, TimeZone}
use Rattle.std.specs.Prelude.{ℕ}
use Rattle.ttx_moment.specs.Texts.{IsRead}
use Rattle.ttx_send.specs.Times.{Moment}
use Rattle.ttx_tool.specs.Beginnings.{BeginsAt, IsMomentAt}

pub begins_at : (zone : TimeZone) (text : List ℕ) (instant : Timestamp) (result : Option Moment) → IsRead zone text (Some instant) →
    IsMomentAt zone instant.nanosecond result → BeginsAt zone text result
begins_at zone text instant (Some moment) read at = (instant, read, at)
begins_at zone text instant None read at = inr (instant, read, at)
