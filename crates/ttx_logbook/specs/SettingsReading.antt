-- Reading the first line of a log, piece by piece.
--
--   either                  whether the first of two keys stands here, or the second one; and what follows
--   ranged_number           a number, 1 to the most, after a key and before a space
--   promise_in, size_in     what viewers are promised; the lines of a field, and how many fields are sent; and what follows
--   second_at, second_in, begin_in  the second of the day; the moment of the first field
--   ahead_in, clock_in      seconds ahead of UTC; the clock
--   settings_in             the line
use Rattle.std.specs.Prelude.{ℕ, ◌+◌, ◌*◌, ℤ, pos, neg_ℤ, Bool, true, false, ◌&&◌, ◌==◌, nat_lt, nat_le, List, length, codes, Option, Some, None, if◌then◌else◌}
use Rattle.ttx_digits.specs.Digits.{two_decimals}
use Rattle.ttx_logbook.specs.Cuts.{after, cut}
use Rattle.ttx_logbook.specs.Steps.{◌>>=◌}
use Rattle.ttx_logbook.specs.Numbers.{number_in, keyed_number}
use Rattle.ttx_logbook.specs.LogTexts.{PromiseFields, SizeFields, BeginFields, ClockFields, Zone, Ahead, SettingsFields}

abbrev pub or_second : Option (List ℕ) → Option (List ℕ) → Option (Bool × List ℕ)
or_second (Some rest) second = Some (true, rest)
or_second None None = None
or_second None (Some rest) = Some (false, rest)

unfoldable pub either : List ℕ → List ℕ → List ℕ → Option (Bool × List ℕ)
either first second text = or_second (after first text) (after second text)

unfoldable pub ranged_number : List ℕ → ℕ → List ℕ → Option (ℕ × List ℕ)
ranged_number key most text = do
  p ← keyed_number key 32 text
  if nat_le 1 p.0 && nat_le p.0 most then Some p else None

unfoldable pub promise_in : List ℕ → Option (PromiseFields × List ℕ)
promise_in text = do
  within ← ranged_number (codes "air within ") 1000000 text
  repeat ← ranged_number (codes "repeat ") 8 within.1
  late ← either (codes "late ") (codes "at-once ") repeat.1
  spread ← either (codes "spread ") (codes "plain ") late.1
  Some (record { within = within.0; repeat = repeat.0; late = late.0; spread = spread.0 }, spread.1)

unfoldable pub size_in : List ℕ → Option (SizeFields × List ℕ)
size_in text = do
  lines ← keyed_number (codes "lines ") 32 text
  fields ← keyed_number (codes "fields ") 32 lines.1
  Some (record { lines = lines.0; fields = fields.0 }, fields.1)

unfoldable pub second_at : List ℕ → Option ℕ
second_at word = do
  hours ← two_decimals word 0
  minutes ← two_decimals word 2
  seconds ← two_decimals word 4
  if nat_lt hours 24 && nat_lt minutes 60 && nat_lt seconds 60 then Some (3600 * hours + 60 * minutes + seconds) else None

unfoldable pub second_in : List ℕ → Option ℕ
second_in word = if length word == 6 then second_at word else None

unfoldable pub begin_in : List ℕ → Option (BeginFields × List ℕ)
begin_in text = do
  mjd ← keyed_number (codes "at ") 47 text
  parts ← cut 32 mjd.1
  second ← second_in parts.0
  if nat_lt mjd.0 100000 then Some (record { mjd = mjd.0; second = second }, parts.1) else None

abbrev pub behind : Option ℕ → Option ℤ
behind None = None
behind (Some n) = if nat_lt 0 n && nat_lt n 86400 then Some (neg_ℤ (pos n)) else None

abbrev pub before : Option ℕ → Option ℤ
before None = None
before (Some n) = if nat_lt n 86400 then Some (pos n) else None

abbrev pub ahead_by : Option (List ℕ) → List ℕ → Option ℤ
ahead_by (Some digits) word = behind (number_in digits)
ahead_by None word = before (number_in word)

-- less than a day
unfoldable pub ahead_in : List ℕ → Option ℤ
ahead_in word = ahead_by (after (codes "-") word) word

abbrev pub clock_by : Option (List ℕ) → Option (List ℕ) → Option ClockFields
clock_by (Some name) rest = Some (Zone name)
clock_by None rest = rest >>= (λ word. ahead_in word >>= (λ seconds. Some (Ahead seconds)))

unfoldable pub clock_in : List ℕ → Option ClockFields
clock_in text = clock_by (after (codes "zone ") text) (after (codes "ahead ") text)

unfoldable pub settings_in : List ℕ → Option SettingsFields
settings_in line = do
  promise ← promise_in line
  size ← size_in promise.1
  begin ← begin_in size.1
  clock ← clock_in begin.1
  Some (record { promise = promise.0; size = size.0; begin = begin.0; clock = clock })
