use Rattle.ttx_proof.specs.Splices.{HasSeam}
use Rattle.ttx_proof.specs.Splicing.{splice_between}
use Rattle.ttx_proof.proofs.PlacesOfPages.{AllBefore}
use Rattle.ttx_proof.proofs.first_seam.find_seam.Given as goal

abbrev pub invariant-loop-place : goal.invariant-loop-place
invariant-loop-place l = AllBefore (splice_between l.sides) (λ q. HasSeam (splice_between l.sides) q → ⊥) l.place
