-- The verdict on a splice for receivers that show a page only where it ends, with its line.
--
--   IsLateAnswer            the verdict, and its line
use Rattle.std.specs.Prelude.{◌≡◌, ℕ, List, Option}
use Rattle.ttx_proof.specs.Splices.{Splice}
use Rattle.ttx_change.specs.LateSplices.{IsLateSplice, MeansLate}
use Rattle.ttx_change.specs.LateSpliceLines.{late_splice_line}
use Rattle.ttx_change.specs.declared.verdict.LateSplice.{LateSplice}

pub record IsLateAnswer (c : Splice) (periods : Option ℕ) (verdict : LateSplice) (line : List ℕ) : Type 0 where
  pub exact : IsLateSplice c periods verdict
  pub seen : MeansLate c verdict
  pub line_is : line ≡ late_splice_line verdict
