use Rattle.std.proofs.Common.{◌≡◌, ◌∙◌, ℕ, map, replicate, refl, ap, take, length, subst, arith}
use Rattle.std.proofs.lemmas.List.{take_all}
use Rattle.std.proofs.lemmas.Simd.{zip2_of_maps, splat_is_map, chunk-fits, put_chunk_whole, length-zip2}
use lib.Lanes.{Each1, put_chunk, zip2}
use mir.Syntax.{w8}
use mir.Val.{Fits}
use Rattle.ttx_code.specs.Words.{ones, stored}
use Rattle.ttx_code.proofs.Loads.{itself, stored_from_lanes}
use Rattle.ttx_code.proofs.lanes.strip.Goals as goal

pub returns : goal.returns
unfolding ones
returns c =
    let v = c.args.bytes.now in
    let ys = c.args.codes.now in
    let long : length v ≡ 32 = c.requires.bytes in
    let long_codes : length ys ≡ 32 = c.requires.codes in
    let whole : take 32 v ≡ v = take_all 32 v (omega (arith, long)) in
    let whole_codes : take 32 ys ≡ ys = take_all 32 ys (omega (arith, long_codes)) in
    let fits : Each1 (Fits w8) v = subst (Each1 (Fits w8)) whole (chunk-fits w8 0 32 v c.type_inv.bytes) in
    let s : (k : ℕ) → replicate 32 k ≡ map (λ _. k) v = λ k. splat_is_map v 32 k long in
    let size : length ys ≡ length (zip2 stored v (take 32 ys)) =
    omega (arith, long, long_codes, ap (λ x. length (zip2 stored v x)) whole_codes, length-zip2 stored v ys (omega (arith, long, long_codes))) in
    ap (put_chunk 0 ys) (stored_from_lanes _ _ _ _ v (take 32 ys) fits (omega (arith, long, long_codes, ap length whole_codes))
    (zip2_of_maps _ _ _ v c.parities.ensures (s 1))
    (zip2_of_maps _ _ _ v (whole ∙ itself v) (s 127)) refl refl)
    ∙ put_chunk_whole ys (zip2 stored v (take 32 ys)) size
    ∙ ap (zip2 stored v) whole_codes
