use Rattle.ttx_proof.proofs.CarriedPages as L
use Rattle.ttx_proof.proofs.laws.agreeing_streams_bring.Goals as goal

pub returns : goal.returns
returns c =
    L.agreeing_streams_bring (record {
      one_owner = c.owners_are_unique.ensures;
      first = c.owners_come_first.ensures;
      fall = c.owners_dont_fall.ensures;
    })
