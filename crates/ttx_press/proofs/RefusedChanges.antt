-- What a refusal of a change denies.
use Rattle.std.proofs.Common.{◌≢◌, pos, refl}
use Rattle.ttx_change.specs.LateSplices.{TellsOpen}
use Rattle.ttx_change.specs.OldOrNew.{EndsWhole}
use Rattle.ttx_change.specs.declared.verdict.LateSplice.{LateSplice}
use Rattle.ttx_change.specs.declared.verdict.LateSplice.TheVariants as left
use Rattle.ttx_proof.specs.Splices.{Splice}
use Rattle.ttx_proof.specs.Verdicts.{IsSpliceVerdict}
use Rattle.ttx_proof.specs.declared.verdict.SpliceReason.{SpliceReason}
use Rattle.ttx_proof.specs.declared.verdict.SpliceReason.TheVariants.{Old, New, Numbers, Seam, SeamLate}
use Rattle.ttx_proof.specs.declared.verdict.SpliceVerdict.TheVariants.{Yes, No}
use Rattle.ttx_playout.specs.Schedules.{Edition, change}
use Rattle.ttx_air.specs.declared.airtime.Receivers.{Receivers}
use Rattle.ttx_air.specs.declared.airtime.Receivers.TheVariants.{AtOnce, Late}
use Rattle.ttx_press.specs.Successors.{Leaves}

pub not_accepted : (c : Splice) (reason : SpliceReason) → IsSpliceVerdict c (No reason) → IsSpliceVerdict c Yes → ⊥
not_accepted c (Old reason) refused accepted = refused.1 accepted.0.old
not_accepted c (New reason) refused accepted = refused.2 accepted.0.new
not_accepted c Numbers refused accepted = refused.1 accepted.1
not_accepted c (Seam page slot) refused accepted =
    let first = refused.2.2 in
    accepted.2.no_seam refused.2.0 first.common first.here
not_accepted c (SeamLate page item) refused accepted =
    let first = refused.3.2 in
    let late = first.here in
    late.1.2 (accepted.2.bridged refused.3.0 first.common late.0 late.1.1)

not_closed : (c : Splice) (what : LateSplice) → what ≢ left.Yes → TellsOpen c what → EndsWhole c → ⊥
not_closed c left.Yes other is whole = other refl
not_closed c (left.No verdict) other is whole = is
not_closed c (left.Amid page slot) other is whole = whole.none_amid is.index is.first is.listed slot is.here
not_closed c (left.Stored page slot) other is whole =
    let stored = is.1 in whole.none_stored stored.index stored.first stored.listed (pos slot, stored.here.here)
not_closed c (left.Unfollowed page) other is whole = is.2.here (whole.followed is.2.index is.2.first is.2.listed)

pub not_left : (receivers : Receivers) (old new : Edition) (what : LateSplice) → what ≢ left.Yes → Leaves receivers old new what →
    Leaves receivers old new left.Yes → ⊥
not_left AtOnce old new what other is closed = other is
not_left (Late gap) old new what other is closed = not_closed (change old new) what other is closed
