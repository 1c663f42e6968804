-- Why a first edition is not put on the air.
use Rattle.std.proofs.Common.{◌≡◌}
use Rattle.ttx_page.specs.declared.class.Class.TheVariants.{Any}
use Rattle.ttx_witness.specs.Coverage.{Accepts}
use Rattle.ttx_playout.specs.Schedules.{Edition}
use Rattle.ttx_air.specs.declared.airtime.Receivers.{Receivers}
use Rattle.ttx_air.specs.declared.airtime.Receivers.TheVariants.{AtOnce, Late}
use Rattle.ttx_air.specs.declared.faults.AirFault.{AirFault}
use Rattle.ttx_air.specs.declared.faults.AirFault.TheVariants.{Start, NeverShown, TooFar, Write}
use Rattle.ttx_air.specs.Judgements.{IsUnserved, IsRefused}
