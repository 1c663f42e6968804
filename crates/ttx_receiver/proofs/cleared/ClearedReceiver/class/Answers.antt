use Rattle.std.proofs.Common.{refl}
use Rattle.ttx_receiver.proofs.cleared.ClearedReceiver.class.Goals as goal

pub returns : goal.returns
returns c = refl
