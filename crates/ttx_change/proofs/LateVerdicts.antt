-- What the verdict says, by what the old cycle leaves open.
use Rattle.std.proofs.Common.{ℕ, Option, Some, None}
use Rattle.ttx_proof.specs.Splices.{Splice, JoinedSeen}
use Rattle.ttx_proof.specs.Laws.{IsSplice}
use Rattle.ttx_proof.specs.Verdicts.{IsSpliceVerdict}
use Rattle.ttx_proof.specs.declared.verdict.SpliceVerdict.TheVariants as splice
use Rattle.ttx_proof.specs.declared.sent.SentVerdict.TheVariants as sent
use Rattle.ttx_change.specs.OldOrNew.{ChangesAreWhole}
use Rattle.ttx_change.specs.LateSplices.{IsJudged, TellsOpen, MeansLate}
use Rattle.ttx_change.specs.declared.verdict.LateSplice.{LateSplice}
use Rattle.ttx_change.specs.declared.verdict.LateSplice.TheVariants.{Yes, No, Amid, Stored, Unfollowed}

is_accepted : (c : Splice) (periods : Option ℕ) → IsJudged c periods sent.Yes → IsSpliceVerdict c splice.Yes
is_accepted c (Some n) judged = judged.0
is_accepted c None judged = judged

pub means_with : ChangesAreWhole → (c : Splice) → IsSplice c → (periods : Option ℕ) → IsJudged c periods sent.Yes → JoinedSeen c →
    (verdict : LateSplice) → TellsOpen c verdict → MeansLate c verdict
means_with law c is periods judged seen Yes ends =
    let yes = is_accepted c periods judged in (seen, λ mag number olds news. law c is yes.0 yes.1 ends mag number olds news)
means_with law c is periods judged seen (No verdict) ends = tt
means_with law c is periods judged seen (Amid page slot) ends = tt
means_with law c is periods judged seen (Stored page slot) ends = tt
means_with law c is periods judged seen (Unfollowed page) ends = tt
