-- Bytes that are reversed one after another.
use Rattle.std.proofs.Common.{◌≡◌, ℕ, zero, suc, ◌+◌, ◌<◌, List, [], ◌∷◌, ◌++◌, length, map, take, drop, get_or, set, refl, ap, ◌∙◌, arith}

module _ (f : ℕ → ℕ) where
  reversed_suc : (xs : List ℕ) (i : ℕ) → i < length xs →
      set (map f (take i xs) ++ drop i xs) i (f (get_or (map f (take i xs) ++ drop i xs) i 0)) ≡ map f (take (suc i) xs) ++ drop (suc i) xs
  reversed_suc [] i lt = absurd (omega arith)
  reversed_suc (x ∷ xs) zero lt = refl
  reversed_suc (x ∷ xs) (suc i) lt = ap (λ l. f x ∷ l) (reversed_suc xs i (omega arith))

  pub reversed_more : (xs : List ℕ) (i : ℕ) → i < length xs →
      set (map f (take i xs) ++ drop i xs) i (f (get_or (map f (take i xs) ++ drop i xs) i 0)) ≡ map f (take (i + 1) xs) ++ drop (i + 1) xs
  reversed_more xs i lt = let e : suc i ≡ i + 1 = omega arith in reversed_suc xs i lt ∙ ap (λ n. map f (take n xs) ++ drop n xs) e

  pub reversed_all : (xs : List ℕ) (n : ℕ) → length xs ≡ n → map f (take n xs) ++ drop n xs ≡ map f xs
  reversed_all [] zero e = refl
  reversed_all [] (suc n) e = absurd (omega arith)
  reversed_all (x ∷ xs) zero e = absurd (omega arith)
  reversed_all (x ∷ xs) (suc n) e = ap (λ l. f x ∷ l) (reversed_all xs n (omega arith))
