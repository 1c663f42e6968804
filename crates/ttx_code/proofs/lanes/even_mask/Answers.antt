use Rattle.std.proofs.Common.{◌≡◌, map, replicate, refl, not, take, subst, arith}
use Rattle.std.proofs.lemmas.List.{take_all}
use Rattle.std.proofs.lemmas.Simd.{zip2_of_maps, splat_is_map, chunk-fits}
use lib.Lanes.{Each1}
use mir.Syntax.{w8}
use mir.Val.{Fits}
use Rattle.ttx_code.specs.Words.{is_odd, ones}
use Rattle.ttx_code.proofs.Loads.{mask_from_lanes}
use Rattle.ttx_code.proofs.lanes.even_mask.Goals as goal

pub returns : goal.returns
unfolding ones
returns c =
    let v = c.args.bytes.now in
    let whole : take 32 v ≡ v = take_all 32 v (omega (arith, c.requires)) in
    let fits : Each1 (Fits w8) v = subst (Each1 (Fits w8)) whole (chunk-fits w8 0 32 v c.type_inv.bytes) in
    let s : replicate 32 0 ≡ map (λ _. 0) v = splat_is_map v 32 0 c.requires in
    mask_from_lanes _ _ (λ b. not (is_odd b)) v c.requires fits (zip2_of_maps _ _ _ v c.parities.ensures s) refl
