-- Streaks below k are equivalent to the rule of k.
use Rattle.std.proofs.Common.{◌≡◌, ◌⊎◌, ◌↔◌, ℕ, zero, suc, ◌+◌, ◌-◌, ◌<◌, ◌≤◌, ℤ, pos, ◌+ℤ◌, ◌-ℤ◌, ◌<ℤ◌, ◌≤ℤ◌, Bool, true, false, List, [], ◌∷◌}
use Rattle.std.proofs.Common.{length, refl, ap, ◌∙◌, subst, inl, inr, arith}
use Rattle.std.specs.List.{AllByRecursion}
use Rattle.std.proofs.lemmas.Int.{ints, by_lt_z}
use Rattle.std.proofs.lemmas.Bool.{cases_lt, both_ways, cases_Bool}
use Rattle.ttx_header.specs.Ids.{Id}
use Rattle.ttx_page.specs.declared.item.Item.{Item}
use Rattle.ttx_page.specs.Streams.{Stream, IsTransmission, AreSuccessive}
use Rattle.ttx_page.specs.Receptions.{OneIs}
use Rattle.ttx_counter.specs.Streaks.{streak_to, IsSentAmong, IsInside, IsAmong, IsRightAmong, StreaksDecide}

by_nat : (d : ℤ) → pos 0 ≤ℤ d → (i : ℕ) × (d ≡ pos i)
by_nat (ℤ.pos i) h = (i, refl)
by_nat (ℤ.negsuc i) h = absurd (omega (arith, ints))

-- the place of a slot among those from tau on
pub nat_place : (tau j : ℤ) → tau ≤ℤ j → (i : ℕ) × (j ≡ tau +ℤ pos i)
nat_place tau j le = let w = by_nat (j -ℤ tau) (omega (arith, ints)) in (w.0, let e = w.1 in omega (arith, ints))

gap : ℕ → ℕ → ℕ
gap i i' = i' - suc i

gap_is : (i i' : ℕ) → suc i ≤ i' → suc i + gap i i' ≡ i'
unfolding gap
gap_is i i' le = omega arith

module _ (s : Stream) (page : Id) (item : Item) (tau : ℤ) (sent wrong : ℕ → Bool) (n : ℕ) (told : IsSentAmong s page item tau n sent) where
  abbrev P : ℤ → Type 0
  P = IsTransmission s page item

  abbrev streak : ℕ → ℕ
  streak m = streak_to sent wrong m

  abbrev IsWrong : ℤ → Type 0
  IsWrong j = IsAmong tau n wrong true j

  -- what one slot does to the streak
  up : (i : ℕ) → sent i ≡ true → wrong i ≡ true → streak (suc i) ≡ suc (streak i)
  unfolding streak_to
  up i a b = rw (a, b) refl

  down : (i : ℕ) → sent i ≡ true → wrong i ≡ false → streak (suc i) ≡ 0
  unfolding streak_to
  down i a b = rw (a, b) refl

  stay : (i : ℕ) → sent i ≡ false → streak (suc i) ≡ streak i
  unfolding streak_to
  stay i a = rw a refl

  unsent : (i : ℕ) → i < n → (P (tau +ℤ pos i) → ⊥) → sent i ≡ false
  unsent i lt none = elim (cases_Bool (sent i)) as (λ _. sent i ≡ false) [ inl e ↦ absurd (none ((told i lt).0 e)) | inr e ↦ e ]

  -- where nothing is sent, the streak stays
  quiet : (d i : ℕ) → i + d ≤ n → ((x : ℕ) → i ≤ x → x < i + d → P (tau +ℤ pos x) → ⊥) → streak (i + d) ≡ streak i
  quiet zero i le none = ap (λ m. streak_to sent wrong m) (let e : i + 0 ≡ i = omega arith in e)
  quiet (suc d) i le none =
      let e : i + suc d ≡ suc (i + d) = omega arith in
      ap (λ m. streak_to sent wrong m) e
      ∙ stay (i + d) (unsent (i + d) (omega arith) (none (i + d) (omega arith) (omega arith)))
      ∙ quiet d i (omega arith) (λ x a b. none x a (omega arith))

  -- all are wrong, or one is right
  split : (slots : List ℤ) → AllByRecursion (IsInside tau n) slots → OneIs (IsRightAmong tau n wrong) slots ⊎ AllByRecursion IsWrong slots
  split [] a = inr tt
  split (j ∷ slots) a =
      let w = nat_place tau j a.0.0 in
      let at = w.1 in
      let below : w.0 < n = let b = a.0.1 in omega (arith, ints) in
      elim (cases_Bool (wrong w.0)) as (λ _. OneIs (IsRightAmong tau n wrong) (j ∷ slots) ⊎ AllByRecursion IsWrong (j ∷ slots)) [
        | inl e ↦ elim (split slots a.1) as (λ _. OneIs (IsRightAmong tau n wrong) (j ∷ slots) ⊎ AllByRecursion IsWrong (j ∷ slots)) [
          | inl one ↦ inl (inr one)
          | inr all ↦ inr (record { index = w.0; below = below; place = at; told = e }, all)
        ]
        | inr e ↦ inl (inl (record { index = w.0; below = below; place = at; told = e }))
      ]

  -- n wrong ones in a row make a streak of n
  climb : (j : ℤ) (rest : List ℤ) → AreSuccessive s page item (j ∷ rest) → AllByRecursion IsWrong (j ∷ rest) → (i : ℕ) → j
      ≡ tau +ℤ pos i → (c : ℕ) → c ≤ streak i →
      (m : ℕ) × (m ≤ n) × (c + length (j ∷ rest) ≤ streak m)
  climb j [] succ all i at c le =
      let w = all.0 in
      let same : w.index ≡ i = let a = w.place in omega (arith, ints) in
      let inside : i < n = omega (arith, w.below) in
      let e = up i ((told i inside).1 (subst P at succ)) (subst (λ x. wrong x ≡ true) same w.told) in
      (suc i, omega arith, omega (arith, e))
  climb j (j' ∷ rest) succ all i at c le =
      let w = all.0 in
      let w' = all.1.0 in
      let at' = w'.place in
      let i' : ℕ = w'.index in
      let same : w.index ≡ i = let a = w.place in omega (arith, ints) in
      let inside : i < n = omega (arith, w.below) in
      let e = up i ((told i inside).1 (subst P at succ.0)) (subst (λ x. wrong x ≡ true) same w.told) in
      let lt : suc i ≤ i' = let a = succ.1 in omega (arith, ints) in
      let sum : suc i + gap i i' ≡ i' = gap_is i i' lt in
      let q = quiet (gap i i') (suc i) (let b = w'.below in omega arith)
      (λ x a b p. succ.2 (tau +ℤ pos x) (omega (arith, ints)) (omega (arith, ints)) p) in
      let here : c + 1 ≤ streak i' = subst (λ m. c + 1 ≤ streak_to sent wrong m) sum (omega (arith, q, e)) in
      let r = climb j' rest succ.3 all.1 i' at' (c + 1) here in
      (r.0, r.1, (let h = r.2 in omega arith))

  keeps : (k : ℕ) → 1 ≤ k → ((m : ℕ) → m ≤ n → streak m < k) → (slots : List ℤ) → length slots ≡ k → AreSuccessive s page item slots →
      AllByRecursion (IsInside tau n) slots →
      OneIs (IsRightAmong tau n wrong) slots
  keeps k some below [] len succ inside = absurd (omega arith)
  keeps k some below (j ∷ rest) len succ inside = elim (split (j ∷ rest) inside) as (λ _. OneIs (IsRightAmong tau n wrong) (j ∷ rest)) [
    | inl one ↦ one
    | inr all ↦
        let w = all.0 in
        let r = climb j rest succ all w.index w.place 0 (omega arith) in
        let b = below r.0 r.1 in
        absurd (let h = r.2 in omega arith)
  ]

  -- slot m or a later one, with no transmission before it
  abbrev Follows : ℕ → List ℤ → Type 0
  Follows m [] = Unit {0}
  Follows m (j ∷ rest) = ((tau +ℤ pos m) ≤ℤ j) × ((x : ℤ) → (tau +ℤ pos m) ≤ℤ x → x <ℤ j → P x → ⊥)

  earlier : (m : ℕ) (acc : List ℤ) → (P (tau +ℤ pos m) → ⊥) → Follows (suc m) acc → Follows m acc
  earlier m [] none f = tt
  earlier m (j ∷ acc) none f = (
    let a = f.0 in omega (arith, ints),
    (λ x low high p. by_lt_z x (tau +ℤ pos (suc m))
        (λ lt. let e : x ≡ tau +ℤ pos m = omega (arith, ints) in none (subst P e p))
        (λ ge. f.1 x ge high p)),
  )

  onto : (m : ℕ) (acc : List ℤ) → P (tau +ℤ pos m) → Follows (suc m) acc → AreSuccessive s page item acc →
      AreSuccessive s page item ((tau +ℤ pos m) ∷ acc)
  onto m [] p f a = p
  onto m (j ∷ acc) p f a = (p, (let b = f.0 in omega (arith, ints)), (λ x low high q. f.1 x (omega (arith, ints)) high q), a)

  -- a streak of d or more ends with d wrong ones in a row
  pub record Streak (k : ℕ) : Type 0 where
    pub slots : List ℤ
    pub count : length slots ≡ k
    pub successive : AreSuccessive s page item slots
    pub wrong_all : AllByRecursion IsWrong slots

  build : (m d : ℕ) (acc : List ℤ) (k : ℕ) → m ≤ n → length acc + d ≡ k → d ≤ streak m → AreSuccessive s page item acc →
      AllByRecursion IsWrong acc → Follows m acc → Streak k
  unfolding streak_to
  build m zero acc k le len low succ all f = record { slots = acc; count = omega arith; successive = succ; wrong_all = all }
  build zero (suc d) acc k le len low succ all f = absurd (omega arith)
  build (suc m) (suc d) acc k le len low succ all f = elim (cases_Bool (sent m)) as (λ _. Streak k) [
    | inl e ↦
        let p = (told m (omega arith)).0 e in
        elim (cases_Bool (wrong m)) as (λ _. Streak k) [
          | inl h ↦ build m d ((tau +ℤ pos m) ∷ acc) k (omega arith) (omega arith) (let u = up m e h in omega arith) (onto m acc p f succ)
              (record { index = m; below = omega arith; place = refl; told = h }, all)
              (omega (arith, ints), (λ x a b q. absurd (omega (arith, ints))))
          | inr h ↦ absurd (let u = down m e h in omega arith)
        ]
    | inr e ↦ build m (suc d) acc k (omega arith) len (let u = stay m e in omega arith) succ all
        (earlier m acc (λ p. both_ways _ e ((told m (omega arith)).1 p)) f)
  ]

  pub streak_is : (k m : ℕ) → m ≤ n → k ≤ streak m → Streak k
  streak_is k m le low = build m k [] k le (omega arith) low tt tt tt

  insides : (slots : List ℤ) → AllByRecursion IsWrong slots → AllByRecursion (IsInside tau n) slots
  insides [] a = tt
  insides (j ∷ slots) a = let e = a.0.place in let b = a.0.below in ((omega (arith, ints), omega (arith, ints)), insides slots a.1)

  no_right : (slots : List ℤ) → AllByRecursion IsWrong slots → OneIs (IsRightAmong tau n wrong) slots → ⊥
  no_right [] a one = one
  no_right (j ∷ slots) a (inl r) =
      let e = a.0.place in let f = r.place in
      let same : a.0.index ≡ r.index = omega (arith, ints) in
      both_ways _ r.told (subst (λ x. wrong x ≡ true) same a.0.told)
  no_right (j ∷ slots) a (inr one) = no_right slots a.1 one

  pub decide : (k : ℕ) → 1 ≤ k → ((m : ℕ) → m ≤ n → streak m < k)
      ↔ ((slots : List ℤ) → length slots ≡ k → AreSuccessive s page item slots → AllByRecursion (IsInside tau n) slots → OneIs
      (IsRightAmong tau n wrong) slots)
  decide k some = (
    keeps k some,
    (λ rule m le. elim (cases_lt (streak m) k) as (λ _. streak m < k) [
      | inl lt ↦ lt
      | inr ge ↦ let w = streak_is k m le ge in absurd
          (no_right w.slots w.wrong_all (rule w.slots w.count w.successive (insides w.slots w.wrong_all)))
    ]),
  )

pub streaks_decide : StreaksDecide
streaks_decide s page item tau sent wrong k n some told = decide s page item tau sent wrong n told k some
