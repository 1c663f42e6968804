-- From lanes computed from bytes to the test of each byte.
use Rattle.std.proofs.Common.{◌≡◌, ℕ, ◌+◌, ◌%◌, ◌^◌, Bool, true, cond, eqb, ◌*◌, not, ◌&&◌, false, List, [], ◌∷◌, map, length, Fits, w8, refl, ap}
use Rattle.std.proofs.Common.{ap₂, ◌∙◌, arith}
use Rattle.std.proofs.lemmas.Bool.{agree_below, agree_below_at, eqb-true}
use Rattle.std.proofs.lemmas.Simd.{map-map, mask_l-mod}
use Rattle.std.proofs.lemmas.List.{length-map}
use Rattle.std.specs.List.{list_all}
use Rattle.std.proofs.lemmas.Bool.Decides.{nat_tests}
use lib.Lanes.{mask_l, top, Each1, sel_l, zip2}
use Rattle.ttx_code.specs.Words.{is_odd, stored}

pub itself : (v : List ℕ) → v ≡ map (λ x. x) v
itself [] = refl
itself (x ∷ xs) = ap (λ r. x ∷ r) (itself xs)

same_tests : (p q : ℕ → Bool) (v : List ℕ) → agree_below p q 256 ≡ true → Each1 (Fits w8) v → map p v ≡ map q v
same_tests p q [] e fits = refl
same_tests p q (x ∷ xs) e fits = ap₂ (λ b r. b ∷ r) (agree_below_at p q 256 x e fits.0.fits) (same_tests p q xs e fits.1)

pub same_maps : (f g : ℕ → ℕ) (v : List ℕ) → agree_below (λ x. eqb (f x) (g x)) (λ _. true) 256 ≡ true → Each1 (Fits w8) v → map f v ≡ map g v
same_maps f g [] e fits = refl
same_maps f g (x ∷ xs) e fits =
    ap₂ (λ (a : ℕ) (r : List ℕ). a ∷ r) (eqb-true _ _ (agree_below_at (λ x. eqb (f x) (g x)) (λ _. true) 256 x e fits.0.fits))
    (same_maps f g xs e fits.1)

-- the mask of lanes that were computed from the bytes
pub mask_from_lanes : (z : List ℕ) (f : ℕ → ℕ) (q : ℕ → Bool) (v : List ℕ) → length v ≡ 32 → Each1 (Fits w8) v
    → z ≡ map f v → agree_below (λ x. top 7 (f x)) q 256 ≡ true → mask_l (map (top 7) z) % 2 ^ 64 ≡ mask_l (map q v)
mask_from_lanes z f q v long fits lanes same =
    let tests : map (top 7) z ≡ map q v = ap (map (top 7)) lanes ∙ map-map (top 7) f v ∙ same_tests (λ x. top 7 (f x)) q v same fits in
    ap (λ ms. mask_l ms % 2 ^ 64) tests ∙ mask_l-mod (map q v) 64 (omega (arith, length-map v q, long))

pub no_mask : (v : List ℕ) → eqb (mask_l (map (λ b. not (is_odd b)) v)) 0 ≡ list_all is_odd v
no_mask [] = refl
no_mask (x ∷ xs) = go (is_odd x) (mask_l (map (λ b. not (is_odd b)) xs)) (list_all is_odd xs) (no_mask xs)
  where
    go : (odd : Bool) (rest : ℕ) (others : Bool) → eqb rest 0 ≡ others → eqb (cond (not odd) 1 0 + 2 * rest) 0 ≡ (odd && others)
    go true rest others e = grind (arith, nat_tests)
    go false rest others e = grind (arith, nat_tests)

sel_stored : (f g : ℕ → ℕ) (v ys : List ℕ) → agree_below (λ x. top 7 (f x)) is_odd 256 ≡ true →
    agree_below (λ x. eqb (g x) (x % 128)) (λ _. true) 256 ≡ true
    → Each1 (Fits w8) v → length v ≡ length ys → sel_l (map (top 7) (map f v)) (map g v) ys ≡ zip2 stored v ys
sel_stored f g [] ys p q fits len = refl
sel_stored f g (x ∷ xs) [] p q fits len = absurd (omega arith)
sel_stored f g (x ∷ xs) (y ∷ ys) p q fits len =
    let test : top 7 (f x) ≡ is_odd x = agree_below_at (λ x. top 7 (f x)) is_odd 256 x p fits.0.fits in
    let code : g x ≡ x % 128 = eqb-true _ _ (agree_below_at (λ x. eqb (g x) (x % 128)) (λ _. true) 256 x q fits.0.fits) in
    ap₂ (λ (a : ℕ) (r : List ℕ). a ∷ r) (ap₂ (λ (b : Bool) (a : ℕ). cond b a y) test code) (sel_stored f g xs ys p q fits.1 (omega arith))

pub stored_from_lanes : (m z : List ℕ) (f g : ℕ → ℕ) (v ys : List ℕ) → Each1 (Fits w8) v → length v ≡ length ys → m ≡ map f v → z ≡ map g v
    → agree_below (λ x. top 7 (f x)) is_odd 256 ≡ true → agree_below (λ x. eqb (g x) (x % 128)) (λ _. true) 256 ≡ true
    → sel_l (map (top 7) m) z ys ≡ zip2 stored v ys
stored_from_lanes m z f g v ys fits len em ez p q = ap₂ (λ a b. sel_l (map (top 7) a) b ys) em ez ∙ sel_stored f g v ys p q fits len
