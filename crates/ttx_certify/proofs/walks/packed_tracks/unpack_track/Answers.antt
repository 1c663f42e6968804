use Rattle.std.proofs.Common.{◌≡◌, [], ◌++◌, length, map, take, ap, ◌∙◌, arith}
use Rattle.std.proofs.lemmas.List.{length-take}
use Rattle.std.proofs.Math.Seq.{take-nil, drop-nil}
use Rattle.ttx_certify.specs.walks.PackedTracks.{transmission_of}
use Rattle.ttx_certify.proofs.walk_lemmas.PackedTracks.{same_held}
use Rattle.ttx_certify.proofs.walks.packed_tracks.unpack_track.Goals as goal

pub unpack_all-requires : goal.unpack_all-requires
unpack_all-requires c =
    let r = (c.nothing_confirmed-track.ensures 0 []).recent in
    let none : length c.nothing_confirmed-track.result.recent.window.items ≡ 0 = ap length (r.window ∙ drop-nil _) in
    let l = length-take c.from-count.result c.args.packed.now.window in
    let few = c.args.packed.now.few in
    (omega arith, omega arith)

pub unpack_all-requires-2 : goal.unpack_all-requires-2
unpack_all-requires-2 c =
    let r = (c.nothing_confirmed-track.ensures 0 []).recent in
    let none : length c.nothing_confirmed-track.result.recent.firsts.items ≡ 0 = ap length (r.firsts ∙ take-nil _) in
    let l = length-take c.min-firsts.result c.args.packed.now.firsts in
    (omega arith, omega arith)

pub returns-clause-recent : goal.returns-clause-recent
returns-clause-recent c =
    let r = (c.nothing_confirmed-track.ensures 0 []).recent in
    let p = c.args.packed.now in
    same_held _ _ _ _ _ _ (let e = r.repeat in omega arith)
    (c.unpack_all.ensures ∙ ap (λ x. x ++ map transmission_of (take c.from-count.result p.window)) (r.window ∙ drop-nil _)
    ∙ ap (λ n. map transmission_of (take n p.window)) c.from-count.ensures)
    (c.unpack_all-2.ensures ∙ ap (λ x. x ++ map transmission_of (take c.min-firsts.result p.firsts)) (r.firsts ∙ take-nil _)
    ∙ ap (λ n. map transmission_of (take n p.firsts)) (let m = c.min-firsts.ensures in let n = c.from-count.ensures in omega arith))
