-- A list of all transmissions between two slots of a stream.
use Rattle.std.proofs.Common.{◌≡◌, ℕ, zero, suc, ℤ, pos, ◌+ℤ◌, ◌-ℤ◌, ◌<ℤ◌, ◌≤ℤ◌, List, [], ◌∷◌, ◌++◌, map, take, length, refl, sym, subst, inl, inr}
use Rattle.std.proofs.Common.{arith}
use Rattle.std.specs.List.{All, AllByRecursion, AllPairs}
use Rattle.std.proofs.lemmas.List.{length-take-le}
use Rattle.std.proofs.lemmas.Int.{ints}
use Rattle.std.proofs.lemmas.Bool.{cases_lt}
use Rattle.ttx_page.proofs.SlotDistances.{cases_ltz}
use Rattle.ttx_witness.specs.runs.Transmissions.{Transmission, slot_of, later, windows}
use Rattle.ttx_witness.specs.runs.Repeating.{Lists, Successive}
use Rattle.ttx_witness.proofs.Windows.{windows_yes, windows_no}

-- two successive lists of equal length from the same slot are equal
pub successive_same : (P : ℤ → Type 0) (i : ℤ) (xs ys : List ℤ) → length xs ≡ length ys → Successive P (i ∷ xs) → Successive P (i ∷ ys) → xs ≡ ys
successive_same P i [] [] e a b = refl
successive_same P i (x ∷ xs) [] e a b = absurd (omega arith)
successive_same P i [] (y ∷ ys) e a b = absurd (omega arith)
successive_same P i (x ∷ xs) (y ∷ ys) e a b =
    let same : x ≡ y = elim (cases_ltz x y) as (λ _. x ≡ y) [
      | inl lt ↦ absurd (b.2 x a.1 lt (holds x xs a.3))
      | inr ge ↦ elim (cases_ltz y x) as (λ _. x ≡ y) [ inl lt ↦ absurd (a.2 y b.1 lt (holds y ys b.3)) | inr le ↦ omega (arith, ints) ]
    ] in
    let r : xs ≡ ys = successive_same P x xs ys (omega arith) a.3 (subst (λ z. Successive P (z ∷ ys)) (sym same) b.3) in
    cc
  where
    holds : (x : ℤ) (xs : List ℤ) → Successive P (x ∷ xs) → P x
    holds x [] a = a
    holds x (y ∷ xs) a = a.0

abbrev pub slots : List Transmission → List ℤ
slots ts = map slot_of ts

module _ {A : Type 0} (at : A → ℤ) (P : ℤ → Type 0) (Is : A → Type 0) (is_p : (t : A) → Is t → P (at t)) where
  -- a window
  pub record IsWindow (k : ℕ) (w : List A) : Type 0 where
    pub count : length w ≡ k
    pub successive : Successive P (map at w)
    pub each : AllByRecursion Is w

  taken : (k : ℕ) (low high : ℤ) (ts : List A) → Lists at P Is low high ts → Successive P (map at (take k ts))
  taken zero low high ts l = tt
  taken (suc k) low high [] l = tt
  taken (suc zero) low high (t ∷ ts) l = is_p t l.0
  taken (suc (suc k)) low high (t ∷ []) l = is_p t l.0
  taken (suc (suc k)) low high (t ∷ u ∷ ts) l = (
    is_p t l.0,
    let g = l.4.1 in omega (arith, ints),
    (λ x a b p. l.4.3 x (omega (arith, ints)) b p),
    taken (suc k) ((at t) +ℤ pos 1) high (u ∷ ts) l.4,
  )

  each_taken : (k : ℕ) (low high : ℤ) (ts : List A) → Lists at P Is low high ts → AllByRecursion Is (take k ts)
  each_taken zero low high ts l = tt
  each_taken (suc k) low high [] l = tt
  each_taken (suc k) low high (t ∷ ts) l = (l.0, each_taken k ((at t) +ℤ pos 1) high ts l.4)

  pub windows_are : (k : ℕ) (low high : ℤ) (ts : List A) → Lists at P Is low high ts → AllByRecursion (IsWindow k) (windows k ts)
  unfolding windows
  windows_are k low high [] l = tt
  windows_are k low high (t ∷ ts) l = elim (cases_lt (suc (length ts)) k) as (λ _. AllByRecursion (IsWindow k) (windows k (t ∷ ts))) [
    | inl lt ↦ rw (windows_no k t ts lt) tt
    | inr ge ↦ rw (windows_yes k t ts ge) (
      record { count = length-take-le k (t ∷ ts) ge; successive = taken k low high (t ∷ ts) l; each = each_taken k low high (t ∷ ts) l },
      windows_are k ((at t) +ℤ pos 1) high ts l.4,
    )
  ]

  -- there is no transmission below the first
  pub lists_lower : (low mid high : ℤ) (bs : List A) → low ≤ℤ mid → mid ≤ℤ high → ((x : ℤ) → low ≤ℤ x → x <ℤ mid → P x → ⊥) →
      Lists at P Is mid high bs → Lists at P Is low high bs
  lists_lower low mid high [] a b none l = λ x c d p. elim (cases_ltz x mid) as (λ _. ⊥) [ inl lt ↦ none x c lt p | inr ge ↦ l x ge d p ]
  lists_lower low mid high (t ∷ ts) a b none l = (
    l.0,
    let g = l.1 in omega (arith, ints),
    l.2,
    (λ x c d p. elim (cases_ltz x mid) as (λ _. ⊥) [ inl lt ↦ none x c lt p | inr ge ↦ l.3 x ge d p ]),
    l.4,
  )

  pub lists_join : (low mid high : ℤ) (ts bs : List A) → low ≤ℤ mid → mid ≤ℤ high → Lists at P Is low mid ts →
      Lists at P Is mid high bs → Lists at P Is low high (ts ++ bs)
  lists_join low mid high [] bs a b l m = lists_lower low mid high bs a b l m
  lists_join low mid high (t ∷ ts) bs a b l m =
      (l.0, l.1, (let g = l.2 in omega (arith, ints)), l.3, lists_join ((at t) +ℤ pos 1) mid high ts bs (let g = l.2 in omega (arith, ints)) b l.4 m)

  -- one more transmission
  pub lists_more : (low here : ℤ) (ts : List A) (t : A) → low ≤ℤ here → (at t) ≡ here → Is t → Lists at P Is low here ts →
      Lists at P Is low (here +ℤ pos 1) (ts ++ t ∷ [])
  lists_more low here ts t a e i l =
      lists_join low here (here +ℤ pos 1) ts (t ∷ []) a (omega (arith, ints)) l
      (i, omega (arith, ints), omega (arith, ints), (λ x c d p. absurd (omega (arith, ints))), (λ x c d p. absurd (omega (arith, ints))))

  -- a slot that is not a transmission
  pub lists_same : (low here : ℤ) (ts : List A) → low ≤ℤ here → (P here → ⊥) → Lists at P Is low here ts → Lists at P Is low (here +ℤ pos 1) ts
  lists_same low here [] a none l = λ x c d p. elim (cases_ltz x here) as (λ _. ⊥)
      [ inl lt ↦ l x c lt p | inr ge ↦ let e : x ≡ here = omega (arith, ints) in none (subst P e p) ]
  lists_same low here (t ∷ ts) a none l =
      (l.0, l.1, (let g = l.2 in omega (arith, ints)), l.3, lists_same ((at t) +ℤ pos 1) here ts (let g = l.2 in omega (arith, ints)) none l.4)

  -- a prefix lists the transmissions up to some slot
  pub lists_prefix : (low high : ℤ) (ts us : List A) → Lists at P Is low high (ts ++ us) → (mid : ℤ) × (low ≤ℤ mid) × Lists at P Is low mid ts
  lists_prefix low high [] us l = (low, omega (arith, ints), λ x a b p. absurd (omega (arith, ints)))
  lists_prefix low high (t ∷ ts) us l =
      let r = lists_prefix ((at t) +ℤ pos 1) high ts us l.4 in
      (r.0, (let a = r.1 in let b = l.1 in omega (arith, ints)), (l.0, l.1, (let a = r.1 in omega (arith, ints)), l.3, r.2))

module _ (P : ℤ → Type 0) (Is : Transmission → Type 0) (is_p : (t : Transmission) → Is t → P t.slot) where
  module _ (n : ℕ) (is_later : (t : Transmission) → Is t → Is (later n t)) (p_earlier : (x : ℤ) → P (x +ℤ pos n) → P x) where
    p_back : (x : ℤ) → P x → P (x -ℤ pos n)
    p_back x p = let e : x ≡ (x -ℤ pos n) +ℤ pos n = omega (arith, ints) in p_earlier (x -ℤ pos n) (subst P e p)

    pub lists_later : (low high : ℤ) (ts : List Transmission) → Lists slot_of P Is low high ts →
        Lists slot_of P Is (low +ℤ pos n) (high +ℤ pos n) (map (later n) ts)
    lists_later low high [] l = λ x a b p. l (x -ℤ pos n) (omega (arith, ints)) (omega (arith, ints)) (p_back x p)
    lists_later low high (t ∷ ts) l = (
      is_later t l.0,
      (let g = l.1 in omega (arith, ints)),
      (let g = l.2 in omega (arith, ints)),
      (λ x a b p. l.3 (x -ℤ pos n) (omega (arith, ints)) (omega (arith, ints)) (p_back x p)),
      (let e : (t.slot +ℤ pos 1) +ℤ pos n ≡ (t.slot +ℤ pos n) +ℤ pos 1 = omega (arith, ints) in
          subst (λ z. Lists slot_of P Is z (high +ℤ pos n) (map (later n) ts)) e (lists_later (t.slot +ℤ pos 1) high ts l.4)),
    )

-- where the elements of a list are
module _ {A : Type 0} (at : A → ℤ) (P : ℤ → Type 0) (Is : A → Type 0) where
  pub lists_low : (low high : ℤ) (ts : List A) → Lists at P Is low high ts → All (λ t. low ≤ℤ at t) ts
  lists_low low high [] l k d lt = absurd (omega arith)
  lists_low low high (t ∷ ts) l zero d lt = l.1
  lists_low low high (t ∷ ts) l (suc k) d lt = let a = l.1 in let i = lists_low ((at t) +ℤ pos 1) high ts l.4 k d (omega arith) in omega (arith, ints)

  pub lists_high : (low high : ℤ) (ts : List A) → Lists at P Is low high ts → All (λ t. at t <ℤ high) ts
  lists_high low high [] l k d lt = absurd (omega arith)
  lists_high low high (t ∷ ts) l zero d lt = l.2
  lists_high low high (t ∷ ts) l (suc k) d lt = lists_high ((at t) +ℤ pos 1) high ts l.4 k d (omega arith)

  pub lists_rise : (low high : ℤ) (ts : List A) → Lists at P Is low high ts → AllPairs (λ t u. at t <ℤ at u) ts
  lists_rise low high [] l i j d lt in_range = absurd (omega arith)
  lists_rise low high (t ∷ ts) l i zero d lt in_range = absurd (omega arith)
  lists_rise low high (t ∷ ts) l zero (suc j) d lt in_range = let i = lists_low ((at t) +ℤ pos 1) high ts l.4 j d (omega arith) in omega (arith, ints)
  lists_rise low high (t ∷ ts) l (suc i) (suc j) d lt in_range = lists_rise ((at t) +ℤ pos 1) high ts l.4 i j d (omega arith) (omega arith)
