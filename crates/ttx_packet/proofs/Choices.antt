-- Tests and choices.
use Rattle.std.proofs.Common.{◌≡◌, ℕ, suc, ◌<◌, Bool, true, List, [], ◌∷◌, length, get_or, refl, arith}
use Rattle.std.specs.List.{list_all}
use Rattle.std.proofs.lemmas.Bool.{true_from_ne_false, both_ways}
use Rattle.std.proofs.lemmas.List.Folds.{list_all_at}

-- a test that all elements pass is passed by each
pub each_passes : (test : ℕ → Bool) (xs : List ℕ) (k : ℕ) → list_all test xs ≡ true → k < length xs → test (get_or xs k 0) ≡ true
each_passes test xs k h l = true_from_ne_false _ (λ e. both_ways _ (list_all_at test xs k 0 l e) h)

-- two lists of equal length pass a test alike if it gives the same answer for each pair of elements
pub same_list_all : (test : ℕ → Bool) (xs ys : List ℕ) → length xs ≡ length ys →
    ((k : ℕ) → k < length xs → test (get_or ys k 0) ≡ test (get_or xs k 0)) → list_all test ys ≡ list_all test xs
same_list_all test [] [] e h = refl
same_list_all test [] (y ∷ ys) e h = absurd (omega arith)
same_list_all test (x ∷ xs) [] e h = absurd (omega arith)
same_list_all test (x ∷ xs) (y ∷ ys) e h =
    let first : test y ≡ test x = h 0 (omega arith) in
    let rest : list_all test ys ≡ list_all test xs = same_list_all test xs ys (omega arith) (λ k l. h (suc k) (omega arith)) in
    cc
