-- Lists at their places.
use Rattle.std.proofs.Common.{◌≡◌, ℕ, zero, suc, ◌<◌, ◌==◌, if◌then◌else◌, List, [], ◌∷◌, ◌++◌, map, length, get_or, set, refl, sym, ap}
use Rattle.std.proofs.Common.{◌∙◌, arith, eqb-true, eq-eqb, get_or-set_same, get_or-set_other}
use Rattle.std.proofs.lemmas.List.{length-map, map-set}
use Rattle.std.proofs.lemmas.Bool.{cond_both, both_ways}
use Rattle.smallvec.specs.SmallVec.{SmallVec}
use Rattle.ttx_witness.specs.runs.Transmissions.{Transmission}
use Rattle.ttx_witness.specs.sent.Collected.{held}

abbrev Lists : Type 0
Lists = List (SmallVec Transmission)

pub held_is : (vs : Lists) (n : ℕ) (d : SmallVec Transmission) → n < length vs → held vs n ≡ (get_or vs n d).items
held_is [] n d lt = absurd (omega arith)
held_is (x ∷ vs) zero d lt = refl
held_is (x ∷ vs) (suc n) d lt = held_is vs n d (omega arith)

-- one list is changed
pub held_set : (vs : Lists) (at : ℕ) (v d : SmallVec Transmission) (more : List Transmission) → at < length vs → v.items
    ≡ (get_or vs at d).items ++ more → (n : ℕ) →
    held (set vs at v) n ≡ (if n == at then held vs n ++ more else held vs n)
held_set vs at v d more lt e n = cond_both (n == at) _ _ (λ x. held (set vs at v) n ≡ x)
    (λ q. let p : n ≡ at = eqb-true n at q in
    ap (λ y. get_or y n []) (map-set (λ x. x.items) vs at v) ∙ ap (λ y. get_or (set (map (λ x. x.items) vs) at v.items) y []) p
    ∙ get_or-set_same (map (λ x. x.items) vs) at v.items [] (let l = length-map vs (λ x. x.items) in omega arith)
    ∙ e ∙ ap (λ y. y ++ more) (sym (held_is vs at d lt)) ∙ ap (λ y. held vs y ++ more) (sym p))
    (λ q. ap (λ y. get_or y n []) (map-set (λ x. x.items) vs at v)
    ∙ get_or-set_other (map (λ x. x.items) vs) at n v.items [] (λ p. both_ways _ q (eq-eqb n at p)))
