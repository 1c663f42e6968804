use Rattle.std.proofs.Common.{refl}
use Rattle.ttx_certify.proofs.walk_lemmas.PackedTracks.{nothing_is}
use Rattle.ttx_certify.proofs.walks.packed_tracks.nothing_packed.Goals as goal

pub returns : goal.returns
returns c = λ k limit starts. nothing_is k limit starts _ refl refl
