use Rattle.std.proofs.Common.{◌≡◌, pos, ◌-ℤ◌, ◌+ℤ◌, true, sym, ap, ◌∙◌, arith}
use Rattle.std.proofs.lemmas.Int.{ints}
use Rattle.ttx_witness.specs.laws.RunLaws.{OwnedIn, SureIn}
use Rattle.ttx_witness.proofs.lemmas.runs.Neighbours as L
use Rattle.ttx_witness.proofs.laws.run_laws.neighbours_decide.Goals as goal

pub returns : goal.returns
returns c = λ n k limit s law named same first rest l.
    L.neighbours (OwnedIn s) (SureIn s) n k limit law (λ i. named i ≡ true) (λ i h. same i ∙ h)
    (λ i h. let e : (i -ℤ pos n) +ℤ pos n ≡ i = omega (arith, ints) in sym (same (i -ℤ pos n)) ∙ ap named e ∙ h) first rest l
