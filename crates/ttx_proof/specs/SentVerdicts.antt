-- What a verdict on a splice means when the old cycle has been sent for some periods (profile).
--
--   IsSentVerdict           first the splice's own verdict; for an accepted one, whether the old cycle has been sent for a deadline
--   SentMeans               the joined stream is seen, if the verdict is Yes
use Rattle.std.specs.Prelude.{◌≡◌, ℕ, ◌+◌, ◌*◌, ◌<◌, ◌≤◌, length}
use Rattle.ttx_witness.specs.Coverage.{limit}
use Rattle.ttx_proof.specs.Splices.{Splice, JoinedSeen}
use Rattle.ttx_proof.specs.Verdicts.{IsSpliceVerdict}
use Rattle.ttx_proof.specs.declared.verdict.SpliceVerdict.TheVariants as splice
use Rattle.ttx_proof.specs.declared.sent.SentVerdict.{SentVerdict}
use Rattle.ttx_proof.specs.declared.sent.SentVerdict.TheVariants.{Yes, No, TooSoon}

abbrev pub IsSentVerdict : Splice → ℕ → SentVerdict → Type 0
IsSentVerdict c periods Yes = IsSpliceVerdict c splice.Yes × (limit c.old_certificate ≤ periods * length c.old)
IsSentVerdict c periods (No reason) = IsSpliceVerdict c (splice.No reason)
IsSentVerdict c periods (TooSoon left) =
    IsSpliceVerdict c splice.Yes × (0 < left) × (periods * length c.old + left ≡ limit c.old_certificate)

abbrev pub SentMeans : Splice → SentVerdict → Type 0
SentMeans c Yes = JoinedSeen c
SentMeans c (No reason) = Unit {0}
SentMeans c (TooSoon left) = Unit {0}
