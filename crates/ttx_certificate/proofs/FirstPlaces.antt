-- The first of the places that an iterator of places gives.
use Rattle.std.proofs.Common.{◌≡◌, ℕ, zero, suc, ◌+◌, ◌-◌, ◌≤◌, Bool, true, false, List, [], ◌∷◌, length, slice_index, Option, Some, None, nat_lt, sym, ap, ◌∙◌, subst, inl, inr, arith}
use Rattle.std.proofs.lemmas.Bool.{cases_Bool, true≢false}
use Rattle.std.proofs.lemmas.Bool.Decides.{nat_tests}
use Rattle.memchr.specs.Find.{IsFirst, IsFirstByte, Passes, TakesFirst, places_from, places}

abbrev head_or : ℕ → List ℕ → ℕ
head_or d [] = d
head_or d (x ∷ xs) = x

module _ (p : ℕ → Bool) (xs : List ℕ) where
  here_first : (i n : ℕ) (r : Option ℕ) (later rest : List ℕ) → p (slice_index xs i) ≡ true → TakesFirst (i ∷ later) r rest →
      IsFirst (Passes p xs) i (i + suc n) r
  here_first i n None later rest here is = absurd (let e = is.1 in cc)
  here_first i n (Some k) later rest here is =
      let same : i ≡ k = ap (head_or 0) is in (
        record { low = omega arith; high = omega arith; before = λ m low high. absurd (omega arith) },
        subst (λ k. p (slice_index xs k) ≡ true) same here,
      )

  not_here : (i k : ℕ) → p (slice_index xs i) ≡ false → p (slice_index xs k) ≡ true → i ≤ k → i + 1 ≤ k
  not_here i k other passes low = elim (cases_Bool (nat_lt i k)) [
    | inl above ↦ grind (arith, nat_tests)
    | inr past ↦
        let same : k ≡ i = grind (arith, nat_tests) in
        absurd (true≢false (sym passes ∙ ap (λ k. p (slice_index xs k)) same ∙ other))
  ]

  here_none : (i n : ℕ) (r : Option ℕ) → p (slice_index xs i) ≡ false → IsFirst (Passes p xs) (i + 1) (i + 1 + n) r →
      IsFirst (Passes p xs) i (i + suc n) r
  here_none i n None other more = λ k low high passes. more k (not_here i k other passes low) (omega arith) passes
  here_none i n (Some k) other more =
      let low = more.0.low in
      let high = more.0.high in (
        record {
          low = omega arith;
          high = omega arith;
          before = λ m low high passes. more.0.before m (not_here i m other passes low) (omega arith) passes;
        },
        more.1,
      )

  first_place : (i n : ℕ) (r : Option ℕ) (rest : List ℕ) → TakesFirst (places_from p xs i n) r rest → IsFirst (Passes p xs) i (i + n) r
  unfolding places_from
  first_place i zero None rest is = λ k low high passes. omega arith
  first_place i zero (Some k) rest is = absurd (cc)
  first_place i (suc n) r rest is = elim (cases_Bool (p (slice_index xs i))) [
    | inl here ↦ here_first i n r (places_from p xs (i + 1) n) rest here (rw here at is)
    | inr other ↦ here_none i n r other (first_place (i + 1) n r rest (rw other at is))
  ]

  pub first_of_all : (r : Option ℕ) (rest : List ℕ) → TakesFirst (places p xs) r rest → IsFirstByte p xs r
  first_of_all r rest is =
      let all : length xs - 0 ≡ length xs = omega arith in
      let sum : 0 + length xs ≡ length xs = omega arith in
      subst (λ n. IsFirst (Passes p xs) 0 n r) sum (first_place 0 (length xs) r rest (subst (λ n. TakesFirst (places_from p xs 0 n) r rest) all is))
