use Rattle.std.proofs.Common.{◌≡◌, ◌∙◌, ◌%◌, ℕ, map, replicate, refl, ap, arith}
use Rattle.std.proofs.lemmas.List.{take_all}
use Rattle.std.proofs.lemmas.Simd.{zip2_of_maps, splat_is_map, length-chunk, chunk-fits}
use lib.Lanes.{chunk}
use mir.Syntax.{w8}
use Rattle.ttx_code.specs.Words.{ones}
use Rattle.ttx_code.proofs.Loads.{itself, same_maps}
use Rattle.ttx_code.proofs.lanes.parities.Goals as goal

pub returns : goal.returns
unfolding ones
returns c =
    let v = chunk 0 32 c.args.bytes.now in
    let whole : v ≡ c.args.bytes.now = take_all 32 c.args.bytes.now (omega (arith, c.requires)) in
    let long = length-chunk 0 32 c.args.bytes.now (omega (arith, c.requires)) in
    let s : (k : ℕ) → replicate 32 k ≡ map (λ _. k) v = λ k. splat_is_map v 32 k long in
    (zip2_of_maps _ _ _ v
    (zip2_of_maps _ _ _ v
    (zip2_of_maps _ _ _ v (zip2_of_maps _ _ _ v (itself v) (zip2_of_maps _ _ _ v (itself v) (s 4)))
    (zip2_of_maps _ _ _ v (zip2_of_maps _ _ _ v (itself v) (zip2_of_maps _ _ _ v (itself v) (s 4))) (s 2)))
    (zip2_of_maps _ _ _ v
    (zip2_of_maps _ _ _ v (zip2_of_maps _ _ _ v (itself v) (zip2_of_maps _ _ _ v (itself v) (s 4)))
    (zip2_of_maps _ _ _ v (zip2_of_maps _ _ _ v (itself v) (zip2_of_maps _ _ _ v (itself v) (s 4))) (s 2)))
    (s 1)))
    (s 1))
    ∙ same_maps _ (λ b. ones b % 2) v refl (chunk-fits w8 0 32 c.args.bytes.now c.type_inv.bytes)
    ∙ ap (map (λ b. ones b % 2)) whole
