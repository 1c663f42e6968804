-- Instants as texts, as Temporal writes them (ISO 8601, RFC 9557).
--
--   IsInstantText, IsNoInstantText          the text is an instant, in nanoseconds since 1970-01-01; it is not
--   IsDateTimeText, IsNoDateTimeText        the text is a date and a time of day, without an offset; it is not
--   zone_instant            the instant at which the clock of a zone shows a datetime; of two the earlier, and in a gap by the offset before it
--   IsRead                  the instant that a text names: an instant itself, or a datetime by the clock of the zone
use Rattle.std.specs.Prelude.{◌≡◌, ◌⊎◌, ℕ, ℤ, List, Option, Some, None, Ok, IsErr}
use Rattle.jiff.specs.Types.{DateTime, Timestamp, TimeZone}
use Rattle.jiff.specs.Words.{parse_timestamp, parse_datetime, datetime_view, IsTimestampNanos, compatible_offset, instant_of, ambiguous_at}

unfoldable pub IsInstantText : List ℕ → ℤ → Type 0
IsInstantText text nanos = parse_timestamp text ≡ Ok nanos

unfoldable pub IsNoInstantText : List ℕ → Type 0
IsNoInstantText text = IsErr (parse_timestamp text)

unfoldable pub IsDateTimeText : List ℕ → DateTime → Type 0
IsDateTimeText text dt = parse_datetime text ≡ datetime_view (Ok dt)

unfoldable pub IsNoDateTimeText : List ℕ → Type 0
IsNoDateTimeText text = IsErr (parse_datetime text)

abbrev pub zone_instant : TimeZone → DateTime → ℤ
zone_instant zone dt = instant_of dt (compatible_offset (ambiguous_at zone dt))

-- If the text is no instant: it is no datetime either, or its instant is out of range.
abbrev pub IsRead : TimeZone → List ℕ → Option Timestamp → Type 0
IsRead zone text (Some instant) = IsInstantText text instant.nanosecond
    ⊎ (IsNoInstantText text × ((dt : DateTime) × IsDateTimeText text dt × (instant.nanosecond ≡ zone_instant zone dt)))
IsRead zone text None = IsNoInstantText text
    × (IsNoDateTimeText text ⊎ ((dt : DateTime) × IsDateTimeText text dt × (IsTimestampNanos (zone_instant zone dt) → ⊥)))
