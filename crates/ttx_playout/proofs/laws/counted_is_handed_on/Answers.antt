use Rattle.ttx_playout.proofs.HandedFurther as L
use Rattle.ttx_playout.proofs.laws.counted_is_handed_on.Goals as goal

pub returns : goal.returns
returns c = L.counted_is_handed_on
