-- What a verdict on a splice means for receivers that show a page only where it ends (profile).
--
--   IsJudged                the verdict on a splice, after some periods of the old cycle if their number is known
--   IsYes                   it is yes
--   TellsOpen               what the old cycle leaves open, by the first page in the order of the old list; Yes if nothing
--   IsLateSplice            the verdict for these receivers, too
--   MeansLate               if it is yes, the joined stream is seen, and each number that both cycles send whole is seen through the change
use Rattle.std.specs.Prelude.{ℕ, ◌+◌, length, Option, Some, None}
use Rattle.ttx_proof.specs.Splices.{Splice, JoinedSeen}
use Rattle.ttx_proof.specs.LastBlocks.{NoneIsAmid, IsFirstAmid, NoneHasSeam, IsFirstStored}
use Rattle.ttx_proof.specs.Verdicts.{IsSpliceVerdict}
use Rattle.ttx_proof.specs.SentVerdicts.{IsSentVerdict}
use Rattle.ttx_proof.specs.declared.verdict.SpliceVerdict.TheVariants as splice
use Rattle.ttx_proof.specs.declared.sent.SentVerdict.{SentVerdict}
use Rattle.ttx_proof.specs.declared.sent.SentVerdict.TheVariants as sent
use Rattle.ttx_playout.specs.LateChanges.{IsFirstUnfollowed}
use Rattle.ttx_change.specs.OldOrNew.{SendsNumber, EndsWhole, SeenThrough}
use Rattle.ttx_change.specs.declared.verdict.LateSplice.{LateSplice}
use Rattle.ttx_change.specs.declared.verdict.LateSplice.TheVariants.{Yes, No, Amid, Stored, Unfollowed}

abbrev pub IsJudged : Splice → Option ℕ → SentVerdict → Type 0
IsJudged c (Some periods) verdict = IsSentVerdict c periods verdict
IsJudged c None sent.Yes = IsSpliceVerdict c splice.Yes
IsJudged c None (sent.No reason) = IsSpliceVerdict c (splice.No reason)
IsJudged c None (sent.TooSoon left) = ⊥

abbrev pub IsYes : SentVerdict → Type 0
IsYes sent.Yes = Unit {0}
IsYes (sent.No reason) = ⊥
IsYes (sent.TooSoon left) = ⊥

abbrev pub TellsOpen : Splice → LateSplice → Type 0
TellsOpen c Yes = EndsWhole c
TellsOpen c (No verdict) = ⊥
TellsOpen c (Amid page slot) = IsFirstAmid c.old c.old_pages page slot
TellsOpen c (Stored page slot) = NoneIsAmid c.old c.old_pages × IsFirstStored c c.old_pages page slot
TellsOpen c (Unfollowed page) = NoneIsAmid c.old c.old_pages × NoneHasSeam c c.old_pages
    × IsFirstUnfollowed c.old c.new c.old_pages (length c.old + length c.new) page

-- the splice's own verdict if it is not yes
abbrev pub IsLateSplice : Splice → Option ℕ → LateSplice → Type 0
IsLateSplice c periods (No verdict) = IsJudged c periods verdict × (IsYes verdict → ⊥)
IsLateSplice c periods verdict = IsJudged c periods sent.Yes × TellsOpen c verdict

abbrev pub MeansLate : Splice → LateSplice → Type 0
MeansLate c Yes = JoinedSeen c × ((mag number : ℕ) → SendsNumber c.old c.old_pages c.old_certificate.lines mag number →
    SendsNumber c.new c.new_pages c.new_certificate.lines mag number → SeenThrough c mag number)
MeansLate c (No verdict) = Unit {0}
MeansLate c (Amid page slot) = Unit {0}
MeansLate c (Stored page slot) = Unit {0}
MeansLate c (Unfollowed page) = Unit {0}
