-- Whether a next edition takes over, for the receivers that have to be served (profile).
--
--   is_yes                  the next edition takes over
--   IsAtOnceChange, IsJudgement     the verdict on a change for receivers that show rows as they come; for the receivers that have to be served
--   IsServed                the first edition serves them, once the certifier has accepted it
--   IsRefused               why a first edition is not put on the air
use Rattle.std.specs.Prelude.{◌≡◌, ◌<◌, Bool, true, false, Err}
use Rattle.ttx_page.specs.declared.class.Class.TheVariants.{Any}
use Rattle.ttx_witness.specs.Coverage.{Accepts}
use Rattle.ttx_late.specs.Followed.{AreFollowedWithin, IsGreatestGap}
use Rattle.ttx_late.specs.LateVerdicts.{IsNeverShown}
use Rattle.ttx_proof.specs.declared.verdict.SpliceVerdict.TheVariants as splice
use Rattle.ttx_playout.specs.Schedules.{Edition}
use Rattle.ttx_playout.specs.Takeovers.{IsChangeVerdict, IsStart}
use Rattle.ttx_playout.specs.LateChanges.{IsLateChange}
use Rattle.ttx_playout.specs.declared.late_change.LateChange.{LateChange}
use Rattle.ttx_playout.specs.declared.late_change.LateChange.TheVariants.{Yes, No, NeverShown, TooFar, Unfollowed}
use Rattle.ttx_air.specs.declared.airtime.Receivers.{Receivers}
use Rattle.ttx_air.specs.declared.airtime.Receivers.TheVariants.{AtOnce, Late}
use Rattle.ttx_air.specs.declared.faults.AirFault.{AirFault}
use Rattle.ttx_air.specs.declared.faults.AirFault.TheVariants as fault

abbrev pub is_yes : LateChange → Bool
is_yes Yes = true
is_yes _ = false

-- the splice's verdict
abbrev pub IsAtOnceChange : Edition → Edition → LateChange → Type 0
IsAtOnceChange old new Yes = IsChangeVerdict old new splice.Yes
IsAtOnceChange old new (No reason) = IsChangeVerdict old new (splice.No reason)
IsAtOnceChange old new (NeverShown page slot) = ⊥
IsAtOnceChange old new (TooFar gap) = ⊥
IsAtOnceChange old new (Unfollowed page) = ⊥

abbrev pub IsJudgement : Receivers → Edition → Edition → LateChange → Type 0
IsJudgement AtOnce old new verdict = IsAtOnceChange old new verdict
IsJudgement (Late gap) old new verdict = IsLateChange old new gap verdict

-- for late receivers, each page is followed by another page number in time
abbrev pub IsServed : Receivers → Edition → Type 0
IsServed AtOnce first = Unit {0}
IsServed (Late gap) first = AreFollowedWithin first.cycle first.pages gap

-- why late receivers are not served
abbrev pub IsUnserved : Receivers → Edition → AirFault → Type 0
IsUnserved AtOnce first other = ⊥
IsUnserved (Late gap) first (fault.Start refusal) = ⊥
IsUnserved (Late gap) first (fault.NeverShown page slot) = IsNeverShown first.cycle first.pages page slot
IsUnserved (Late gap) first (fault.TooFar greatest) = IsGreatestGap first.cycle first.pages greatest × (gap < greatest)
IsUnserved (Late gap) first (fault.Write written) = ⊥

-- the certifier refuses it, or it does not serve late receivers
abbrev pub IsRefused : Receivers → Edition → AirFault → Type 0
IsRefused receivers first (fault.Start refusal) = IsStart first (Err refusal)
IsRefused receivers first (fault.Write written) = ⊥
IsRefused receivers first other = Accepts first.cycle first.pages first.certificate × (first.certificate.class ≡ Any) × IsUnserved receivers first other
