-- The line of a verdict on a splice for receivers that show a page only where it ends (profile): words and numbers separated by one space,
-- ended by 0A.
--
--   late_splice_line        the line
--   IsOpenLine              so it is of each verdict except a rejection of the splice itself
use Rattle.std.specs.Prelude.{◌≡◌, ℕ, List, [], ◌∷◌, ◌++◌, codes}
use Rattle.ttx_certify.specs.VerdictLines.{page_words, slot_words}
use Rattle.ttx_proof.specs.SpliceLines.{sent_line}
use Rattle.ttx_change.specs.declared.verdict.LateSplice.{LateSplice}
use Rattle.ttx_change.specs.declared.verdict.LateSplice.TheVariants.{Yes, No, Amid, Stored, Unfollowed}

abbrev pub late_splice_line : LateSplice → List ℕ
late_splice_line Yes = codes "yes\n"
late_splice_line (No verdict) = sent_line verdict
late_splice_line (Amid page slot) = slot_words (codes "no 7 amid") page slot ++ 10 ∷ []
late_splice_line (Stored page slot) = slot_words (codes "no 8 stored") page slot ++ 10 ∷ []
late_splice_line (Unfollowed page) = page_words (codes "no 9 unfollowed") page ++ 10 ∷ []

abbrev pub IsOpenLine : LateSplice → List ℕ → Type 0
IsOpenLine (No verdict) line = Unit {0}
IsOpenLine verdict line = line ≡ late_splice_line verdict
