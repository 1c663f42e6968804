-- The line in which two texts first differ, byte by byte.
use Rattle.std.proofs.Common.{◌≡◌, ℕ, zero, suc, ◌+◌, ◌<◌, ◌≤◌, ◌==◌, List, [], ◌∷◌, length, drop, if◌then◌else◌, refl, sym, ap, ◌∙◌, arith}
use Rattle.std.proofs.Common.{length-drop, eqb-true, eq-eqb}
use Rattle.std.specs.Prelude.{slice_index}
use Rattle.std.proofs.lemmas.Bool.{cond_both, cond-true}
use Rattle.ttx_counter.specs.CounterReading.{line_of}

of_first : (n : ℕ) (xs ys : List ℕ) → length xs ≡ 0 → line_of n xs ys ≡ n
unfolding line_of
of_first n [] ys e = refl
of_first n (x ∷ xs) ys e = absurd (omega arith)

of_none : (n : ℕ) (xs ys : List ℕ) → length ys ≡ 0 → line_of n xs ys ≡ n
unfolding line_of
of_none n [] ys e = refl
of_none n (x ∷ xs) [] e = refl
of_none n (x ∷ xs) (y ∷ ys) e = absurd (omega arith)

of_other : (n x y : ℕ) (text own : List ℕ) → (x ≡ y → ⊥) → line_of n (x ∷ text) (y ∷ own) ≡ n
unfolding line_of
of_other n x y text own ne = cond_both (x == y) _ n (λ z. z ≡ n) (λ e. absurd (ne (eqb-true x y e))) (λ _. refl)

of_same : (n x y : ℕ) (text own : List ℕ) → x ≡ y → line_of n (x ∷ text) (y ∷ own) ≡ line_of (if x == 10 then n + 1 else n) text own
unfolding line_of
of_same n x y text own e = cond-true (x == y) _ n (eq-eqb x y e)

pub done : (n i : ℕ) (text own : List ℕ) → length text ≤ i → line_of n (drop i text) own ≡ n
done n i text own le = of_first n (drop i text) own (length-drop i text ∙ omega arith)

pub ended : (n i : ℕ) (text own : List ℕ) → length own ≤ i → line_of n (drop i text) (drop i own) ≡ n
ended n i text own le = of_none n (drop i text) (drop i own) (length-drop i own ∙ omega arith)

pub differs : (n i : ℕ) (text own : List ℕ) → i < length text → i < length own → (slice_index text i ≡ slice_index own i → ⊥) →
    line_of n (drop i text) (drop i own) ≡ n
differs n zero (x ∷ text) (y ∷ own) lt lo ne = of_other n x y text own ne
differs n zero [] own lt lo ne = absurd (omega arith)
differs n zero (x ∷ text) [] lt lo ne = absurd (omega arith)
differs n (suc i) (x ∷ text) (y ∷ own) lt lo ne = differs n i text own (omega arith) (omega arith) ne
differs n (suc i) [] own lt lo ne = absurd (omega arith)
differs n (suc i) (x ∷ text) [] lt lo ne = absurd (omega arith)

pub same : (n i : ℕ) (text own : List ℕ) → i < length text → i < length own → slice_index text i ≡ slice_index own i →
    line_of n (drop i text) (drop i own) ≡ line_of (if slice_index text i == 10 then n + 1 else n) (drop (i + 1) text) (drop (i + 1) own)
same n zero (x ∷ text) (y ∷ own) lt lo e = of_same n x y text own e
same n zero [] own lt lo e = absurd (omega arith)
same n zero (x ∷ text) [] lt lo e = absurd (omega arith)
same n (suc i) (x ∷ text) (y ∷ own) lt lo e =
    let k : suc i + 1 ≡ suc (i + 1) = omega arith in
    same n i text own (omega arith) (omega arith) e
    ∙ ap (λ j. line_of (if slice_index text i == 10 then n + 1 else n) (drop j (x ∷ text)) (drop j (y ∷ own))) (sym k)
same n (suc i) [] own lt lo e = absurd (omega arith)
same n (suc i) (x ∷ text) [] lt lo e = absurd (omega arith)
