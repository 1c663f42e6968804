-- The union of bytes, bit by bit, and bit 7 in it.
use Rattle.std.proofs.Common.{◌≡◌, ◌∙◌, ◌↔◌, ℕ, ◌+◌, ◌<◌, true, ◌&&◌, IsTrue, List, nat_lt, get_or, bit_or, inl, inr, refl, ap₂, sym, subst, arith}
use Rattle.std.proofs.Common.{lt-ltb, ltb-true}
use Rattle.std.proofs.lemmas.Bool.{agree_below, agree_below_at, and_parts, cases_Bool}
use Rattle.std.proofs.lemmas.Bool.Decides.{nat_tests}

unions : agree_below (λ a. agree_below (λ b. nat_lt (bit_or a b) 128) (λ b. nat_lt a 128 && nat_lt b 128) 256) (λ _. true) 256 ≡ true
unions = refl

-- bit 7 is clear in a union exactly if it is clear in both parts
small_union : (a b : ℕ) → a < 256 → b < 256 → nat_lt (bit_or a b) 128 ≡ (nat_lt a 128 && nat_lt b 128)
small_union a b la lb =
    agree_below_at (λ b. nat_lt (bit_or a b) 128) (λ b. nat_lt a 128 && nat_lt b 128) 256 b
    (agree_below_at (λ a. agree_below (λ b. nat_lt (bit_or a b) 128) (λ b. nat_lt a 128 && nat_lt b 128) 256) (λ _. true) 256 a unions la) lb

-- one more element
pub one_more : (row : List ℕ) (i union : ℕ) → union < 256 → get_or row i 0 < 256
    → IsTrue (nat_lt union 128) ↔ ((c : ℕ) → c < i → get_or row c 0 < 128)
    → IsTrue (nat_lt (bit_or union (get_or row i 0)) 128) ↔ ((c : ℕ) → c < i + 1 → get_or row c 0 < 128)
one_more row i union lu lb so_far =
    let both = small_union union (get_or row i 0) lu lb in (
      λ t c h.
          let parts = and_parts (nat_lt union 128) (nat_lt (get_or row i 0) 128) (sym both ∙ t) in
          elim (cases_Bool (nat_lt c i)) [
            | inl e ↦ so_far.0 parts.0 c (ltb-true _ _ e)
            | inr e ↦
                let last : c ≡ i = grind (arith, nat_tests) in
                subst (λ n. get_or row n 0 < 128) (sym last) (ltb-true _ _ parts.1)
          ],
      λ all. both ∙ ap₂ (λ a b. a && b) (so_far.1 (λ c h. all c (omega (arith, h)))) (lt-ltb _ _ (all i (omega arith))),
    )
