-- What a verdict on a change of the edition on the air means for receivers that show a page late, also those that show it only where it ends
-- (profile).
--
--   IsLateYes, IsNotOpen    the verdict for receivers that show a page late, and what is left open, are Yes
--   IsWhole                 what an edition leaves open at a change, as a verdict
--   IsWholeChange           the verdict
use Rattle.std.specs.Prelude.{ℕ}
use Rattle.ttx_proof.specs.Splices.{Splice}
use Rattle.ttx_playout.specs.LateChanges.{IsLateChange}
use Rattle.ttx_playout.specs.Schedules.{Edition, change}
use Rattle.ttx_playout.specs.declared.late_change.LateChange.{LateChange}
use Rattle.ttx_playout.specs.declared.late_change.LateChange.TheVariants as late
use Rattle.ttx_change.specs.LateSplices.{TellsOpen}
use Rattle.ttx_change.specs.declared.verdict.LateSplice.{LateSplice}
use Rattle.ttx_change.specs.declared.verdict.LateSplice.TheVariants as left
use Rattle.ttx_change.specs.declared.verdict.WholeChange.{WholeChange}
use Rattle.ttx_change.specs.declared.verdict.WholeChange.TheVariants.{Yes, No, Open}

abbrev pub IsLateYes : LateChange → Type 0
IsLateYes late.Yes = Unit {0}
IsLateYes (late.No reason) = ⊥
IsLateYes (late.NeverShown page slot) = ⊥
IsLateYes (late.TooFar gap) = ⊥
IsLateYes (late.Unfollowed page) = ⊥

abbrev pub IsNotOpen : LateSplice → Type 0
IsNotOpen left.Yes = Unit {0}
IsNotOpen (left.No verdict) = ⊥
IsNotOpen (left.Amid page slot) = ⊥
IsNotOpen (left.Stored page slot) = ⊥
IsNotOpen (left.Unfollowed page) = ⊥

abbrev pub IsWhole : Splice → WholeChange → Type 0
IsWhole c Yes = TellsOpen c left.Yes
IsWhole c (No verdict) = ⊥
IsWhole c (Open what) = TellsOpen c what × (IsNotOpen what → ⊥)

-- the verdict for receivers that show a page late if it is not yes, otherwise whether something is left open
abbrev pub IsWholeChange : Edition → Edition → ℕ → WholeChange → Type 0
IsWholeChange old new gap (No verdict) = IsLateChange old new gap verdict × (IsLateYes verdict → ⊥)
IsWholeChange old new gap verdict = IsLateChange old new gap late.Yes × IsWhole (change old new) verdict
