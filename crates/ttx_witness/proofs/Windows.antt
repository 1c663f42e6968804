-- Windows of lists, and what follows round the cycle.
use Rattle.std.proofs.Common.{◌≡◌, ℕ, zero, suc, ◌+◌, ◌-◌, ◌<◌, ◌≤◌, List, [], ◌∷◌, ◌++◌, map, take, drop, length, refl, sym, ap, ◌∙◌, subst, inl}
use Rattle.std.proofs.Common.{inr, arith, nat_le, append_assoc, length-append}
use Rattle.std.proofs.lemmas.List.{take-append-le}
use Rattle.std.proofs.Math.Seq.{take-length}
use Rattle.std.proofs.lemmas.Bool.{cases_lt, cond_both}
use Rattle.std.proofs.lemmas.Bool.Decides.{nat_tests}
use Rattle.ttx_witness.specs.runs.Transmissions.{Transmission, later, further, windows}

pub head_same : {A : Type 0} {x y : A} {xs ys : List A} → x ∷ xs ≡ y ∷ ys → x ≡ y
head_same e = cc

pub tail_same : {A : Type 0} {x y : A} {xs ys : List A} → x ∷ xs ≡ y ∷ ys → xs ≡ ys
tail_same e = cc

-- in a list that repeats, what follows is what the list has there
pub further_is : (n k : ℕ) (ts ys zs : List Transmission) → 1 ≤ length ts → map (later n) (ts ++ ys) ≡ ys ++ zs → k ≤ length ys →
    further n k ts ≡ take k ys
unfolding further
further_is n zero ts ys zs some e le = refl
further_is n (suc k) [] ys zs some e le = absurd (omega arith)
further_is n (suc k) (t ∷ ts) [] zs some e le = absurd (omega arith)
further_is n (suc k) (t ∷ ts) (y ∷ ys) zs some e le =
    let h : later n t ≡ y = head_same e in
    let r : map (later n) (ts ++ y ∷ ys) ≡ ys ++ zs = tail_same e in
    let q : (ts ++ later n t ∷ []) ++ ys ≡ ts ++ y ∷ ys = append_assoc ts (later n t ∷ []) ys ∙ ap (λ x. ts ++ x ∷ ys) h in
    let l : length (ts ++ later n t ∷ []) ≡ length ts + 1 = length-append ts (later n t ∷ []) in
    let i : further n k (ts ++ later n t ∷ []) ≡ take k ys =
    further_is n k (ts ++ later n t ∷ []) ys zs (omega arith) (ap (map (later n)) q ∙ r) (omega arith) in
    cc

-- only the first k matter
further_agree : (n k : ℕ) (as' bs : List Transmission) → k ≤ length as' → k ≤ length bs → take k as' ≡ take k bs → further n k as' ≡ further n k bs
unfolding further
further_agree n zero as' bs le le' e = refl
further_agree n (suc k) [] bs le le' e = absurd (omega arith)
further_agree n (suc k) (t ∷ ts) [] le le' e = absurd (omega arith)
further_agree n (suc k) (t ∷ ts) (u ∷ us) le le' e =
    let h : t ≡ u = head_same e in
    let r : take k ts ≡ take k us = tail_same e in
    let m : length (ts ++ later n t ∷ []) ≡ length ts + 1 = length-append ts (later n t ∷ []) in
    let m' : length (us ++ later n u ∷ []) ≡ length us + 1 = length-append us (later n u ∷ []) in
    let i : further n k (ts ++ later n t ∷ []) ≡ further n k (us ++ later n u ∷ []) =
    further_agree n k (ts ++ later n t ∷ []) (us ++ later n u ∷ []) (omega arith) (omega arith)
    (take-append-le k ts (later n t ∷ []) (omega arith) ∙ r ∙ sym (take-append-le k us (later n u ∷ []) (omega arith))) in
    let g : later n t ≡ later n u = ap (later n) h in
    cc

pub further_few : (n k : ℕ) (ts us : List Transmission) → k ≤ length ts → further n k (ts ++ us) ≡ further n k ts
further_few n k ts us le = let m : length (ts ++ us) ≡ length ts + length us = length-append ts us
    in further_agree n k (ts ++ us) ts (omega arith) le (take-append-le k ts us le)

pub windows_yes : {A : Type 0} (k : ℕ) (t : A) (ts : List A) → k ≤ suc (length ts) → windows k (t ∷ ts) ≡ take k (t ∷ ts) ∷ windows k ts
unfolding windows
windows_yes k t ts le = cond_both (nat_le k (suc (length ts))) _ _ (λ x. x ≡ take k (t ∷ ts) ∷ windows k ts) (λ e. refl)
    (λ e. absurd (let h : k ≤ suc (length ts) = le in grind (arith, nat_tests)))

pub windows_no : {A : Type 0} (k : ℕ) (t : A) (ts : List A) → suc (length ts) < k → windows k (t ∷ ts) ≡ []
unfolding windows
windows_no k t ts lt = cond_both (nat_le k (suc (length ts))) _ _ (λ x. x ≡ [])
    (λ e. absurd (let h : suc (length ts) < k = lt in grind (arith, nat_tests))) (λ e. refl)

pub windows_short : {A : Type 0} (k : ℕ) (ts : List A) → length ts < k → windows k ts ≡ []
unfolding windows
windows_short k [] lt = refl
windows_short k (t ∷ ts) lt = windows_no k t ts (omega arith)

-- if a list is too short, one more element at its end makes no window
pub windows_none : {A : Type 0} (k : ℕ) (ts : List A) (t : A) → suc (length ts) < k → windows k (ts ++ t ∷ []) ≡ []
windows_none k ts t lt = let l = length-append ts (t ∷ []) in windows_short k (ts ++ t ∷ []) (omega arith)

-- otherwise it makes one more, of the last k
pub windows_step : {A : Type 0} (k : ℕ) (ts : List A) (t : A) → 1 ≤ k → k ≤ suc (length ts) →
    windows k (ts ++ t ∷ []) ≡ windows k ts ++ drop (suc (length ts) - k) (ts ++ t ∷ []) ∷ []
unfolding windows
windows_step {A} k [] t h le =
    let e : k ≡ 1 = omega arith in
    subst (λ k. windows k (t ∷ []) ≡ windows k [] ++ drop (1 - k) (t ∷ []) ∷ []) (sym e) refl
windows_step {A} k (x ∷ ts) t h le = elim (cases_lt k (suc (suc (length ts)))) as
    (λ _. windows k (x ∷ (ts ++ t ∷ [])) ≡ windows k (x ∷ ts) ++ drop (suc (suc (length ts)) - k) (x ∷ (ts ++ t ∷ [])) ∷ []) [
      | inl lt ↦
          let l = length-append ts (t ∷ []) in
          let d : suc (suc (length ts)) - k ≡ suc (suc (length ts) - k) = omega arith in
          rw (windows_yes k x (ts ++ t ∷ []) (omega arith), windows_yes k x ts (omega arith), windows_step k ts t h (omega arith), d)
          (ap (λ y. y ∷ (windows k ts ++ drop (suc (length ts) - k) (ts ++ t ∷ []) ∷ []))
          (take-append-le k (x ∷ ts) (t ∷ []) (omega arith)))
      | inr ge ↦
          let l = length-append ts (t ∷ []) in
          let e : k ≡ suc (suc (length ts)) = omega arith in
          let d : suc (suc (length ts)) - k ≡ 0 = omega arith in
          let q : length (ts ++ t ∷ []) < k = omega arith in
          let e2 : k ≡ length (x ∷ (ts ++ t ∷ [])) = omega arith in
          rw (windows_yes k x (ts ++ t ∷ []) (omega arith), windows_no k x ts (omega arith), windows_short k (ts ++ t ∷ []) q, d)
          (ap (λ y. y ∷ []) (ap (λ m. take m (x ∷ (ts ++ t ∷ []))) e2 ∙ take-length (x ∷ (ts ++ t ∷ []))))
    ]
