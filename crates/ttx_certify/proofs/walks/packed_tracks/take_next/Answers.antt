use Rattle.std.proofs.Common.{◌≡◌, suc, ◌-◌, ◌++◌, ◌∷◌, [], ap, ◌∙◌, arith}
use Rattle.ttx_certify.specs.walks.PackedTracks.{held_of}
use Rattle.ttx_certify.proofs.walk_lemmas.PackedTracks.{as_track, as_packed, packable}
use Rattle.ttx_certify.proofs.walks.packed_tracks.take_next.Goals as goal

pub returns : goal.returns
returns c = λ ts are small is.
    let k = c.args.repeat - 1 in
    let starts = c.args.starts.now in
    let repeat : c.args.repeat ≡ suc k = omega arith in
    let more = ts ++ c.args.t ∷ [] in
    let old = as_track k c.args.limit starts ts c.args.packed.now c.unpack_track-track.result is
    (c.unpack_track-track.ensures.recent ∙ ap (λ n. held_of n c.args.packed.now) repeat) c.unpack_track-track.ensures.progress in
    let new = c.note.ensures k ts old in
    let fits = packable k c.args.limit starts more c.note.new.track new are small in
    as_packed k c.args.limit starts more c.pack_track.result c.note.new.track new (c.pack_track.ensures.recent fits) (c.pack_track.ensures.progress fits)
