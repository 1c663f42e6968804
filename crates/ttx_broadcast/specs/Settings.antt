-- The first line of a log: what the air was asked for (profile).
--
--   receivers_word, plan_word       for which receivers, and how the service is planned
--   promise_words, size_words       what viewers are promised; the lines of a field, and how many fields are sent
--   clock_words             how the clock is named
--   date_words, second_words, begin_words   the moment of the first field, in UTC, as `--at` takes it
--   settings_line           the line
use Rattle.std.specs.Prelude.{ℕ, ◌/◌, ◌%◌, Bool, if◌then◌else◌, List, [], ◌∷◌, ◌++◌, codes}
use Rattle.std.specs.Fmt.{decimal, signed_decimal}
use Rattle.ttx_send.specs.Times.{Moment}
use Rattle.ttx_send.specs.IsoTexts.{two_digits}
use Rattle.ttx_press.specs.declared.demand.Demand.{Demand}
use Rattle.ttx_broadcast.specs.declared.request.ClockName.{ClockName}
use Rattle.ttx_broadcast.specs.declared.request.ClockName.TheVariants.{Zone, Ahead}

abbrev pub receivers_word : Bool → List ℕ
receivers_word late = if late then codes " late" else codes " at-once"

abbrev pub plan_word : Bool → List ℕ
plan_word spread = if spread then codes " spread" else codes " plain"

unfoldable pub promise_words : Demand → List ℕ
promise_words d = codes "air within " ++ decimal d.within ++ codes " repeat " ++ decimal d.repeat ++ receivers_word d.late ++ plan_word d.spread

unfoldable pub size_words : ℕ → ℕ → List ℕ
size_words lines fields = codes " lines " ++ decimal lines ++ codes " fields " ++ decimal fields

unfoldable pub clock_words : ClockName → List ℕ
clock_words (Zone name) = codes " zone " ++ name.now
clock_words (Ahead seconds) = codes " ahead " ++ signed_decimal seconds

unfoldable pub date_words : ℕ → List ℕ
date_words mjd = codes " at " ++ decimal mjd ++ codes "/"

abbrev pub second_words : ℕ → List ℕ
second_words second = two_digits (second / 3600) ++ two_digits (second / 60 % 60) ++ two_digits (second % 60)

abbrev pub begin_words : Moment → List ℕ
begin_words t = date_words t.mjd ++ second_words t.second

-- numbers are decimal
abbrev pub settings_line : Demand → ℕ → ℕ → Moment → ClockName → List ℕ
settings_line d lines fields begin clock = promise_words d ++ size_words lines fields ++ begin_words begin ++ clock_words clock ++ 10 ∷ []
