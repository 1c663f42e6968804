-- What a verdict on a splice guarantees.
--
--   VerdictsMean            Yes: the joined stream is seen; No: Yes is not right, whatever the reason
--   SpliceVerdictsAreOne    at most one verdict on a splice is right
--   SomeSpliceVerdictIsRight        and one is
use Rattle.std.specs.Prelude.{◌≡◌}
use Rattle.ttx_proof.specs.Splices.{Splice, JoinedSeen}
use Rattle.ttx_proof.specs.Laws.{IsSplice}
use Rattle.ttx_proof.specs.Verdicts.{IsSpliceVerdict}
use Rattle.ttx_proof.specs.declared.verdict.SpliceReason.{SpliceReason}
use Rattle.ttx_proof.specs.declared.verdict.SpliceVerdict.{SpliceVerdict}
use Rattle.ttx_proof.specs.declared.verdict.SpliceVerdict.TheVariants.{Yes, No}

abbrev pub VerdictsMean : Type 0
VerdictsMean = (c : Splice) → IsSplice c →
    (IsSpliceVerdict c Yes → JoinedSeen c) × ((reason : SpliceReason) → IsSpliceVerdict c (No reason) → IsSpliceVerdict c Yes → ⊥)

-- two right verdicts on the same splice are equal
abbrev pub SpliceVerdictsAreOne : Type 0
SpliceVerdictsAreOne = (c : Splice) → IsSplice c → (v w : SpliceVerdict) → IsSpliceVerdict c v → IsSpliceVerdict c w → v ≡ w

-- each splice has a right verdict
abbrev pub SomeSpliceVerdictIsRight : Type 0
SomeSpliceVerdictIsRight = (c : Splice) → IsSplice c → (verdict : SpliceVerdict) × IsSpliceVerdict c verdict
