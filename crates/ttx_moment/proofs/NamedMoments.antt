-- Moments by a zone's clock.
use Rattle.std.proofs.Common.{ℕ, ◌+◌, ◌/◌, ◌<◌, ℤ, pos, negsuc, Option, Some, None, inr, arith}
use Rattle.std.proofs.lemmas.Int.{ints}
use Rattle.std.specs.Prelude.{SomeIff}
use Rattle.jiff.specs.Types.{DateTime, TimeZone}
use Rattle.jiff.specs.Words.{offset_at, IsTimestampNanos}
use Rattle.ttx_send.specs.Times.{Moment}
use Rattle.ttx_moment.specs.Clocks.{IsShown, IsNamed}
use Rattle.ttx_moment.specs.Instants.{moment_of_instant, IsOnTheAir}
use Rattle.ttx_moment.specs.Texts.{zone_instant}

pub named : (zone : TimeZone) (mjd second : ℕ) (dt : DateTime) (r : Option Moment) → IsShown mjd second dt →
    SomeIff r (IsOnTheAir (zone_instant zone dt) (offset_at zone (zone_instant zone dt)))
    (moment_of_instant (zone_instant zone dt) (offset_at zone (zone_instant zone dt))) → IsNamed zone mjd second r
named zone mjd second dt None shown said = inr (dt, shown, said)
named zone mjd second dt (Some moment) shown said = (dt, shown, (said.0, said.1))

-- what is on the air is an instant in range
pub is_instant : (nanos offset : ℤ) → IsOnTheAir nanos offset → IsTimestampNanos nanos
is_instant (pos k) offset on =
    let few : 40587 + k / 1000000000 / 86400 < 100000 = on.1.mjd in
    (omega (arith, ints), omega (arith, ints, few))
is_instant (negsuc k) offset on = absurd (omega (arith, ints, on.0))
