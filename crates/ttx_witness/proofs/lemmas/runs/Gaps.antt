-- Gaps between starts cover every tuning slot.
use Rattle.std.proofs.Common.{ℕ, zero, suc, ℤ, pos, ◌+ℤ◌, ◌-ℤ◌, ◌<ℤ◌, ◌≤ℤ◌, nat_abs, inl, inr, arith}
use Rattle.std.proofs.lemmas.Int.{ints}
use Rattle.ttx_page.proofs.SlotDistances.{cases_ltz}

module _ (Start : ℤ → Type 0) (owner last : (i : ℤ) → Start i → ℤ) (period window : ℕ)
    -- a start's owner is at most a period before it
    (near : (i : ℤ) (a : Start i) → i ≤ℤ (owner i a +ℤ pos period)) where
  -- a later start whose run ends at most one window after this start's owner
  pub record HasNext (i : ℤ) (a : Start i) : Type 0 where
    pub next : ℤ
    pub start : Start next
    pub later : i <ℤ next
    pub in_time : last next start ≤ℤ (owner i a +ℤ pos window)

  pub record IsInTime (tau : ℤ) : Type 0 where
    pub at : ℤ
    pub start : Start at
    pub not_before : tau ≤ℤ owner at start
    pub ends : last at start <ℤ (tau +ℤ pos window)

  module _ (gaps : (i : ℤ) (a : Start i) → HasNext i a) (tau : ℤ) where
    from_early : (fuel : ℕ) (i : ℤ) (a : Start i) → owner i a <ℤ tau → (tau +ℤ pos period) ≤ℤ (i +ℤ pos fuel) → IsInTime tau
    from_early zero i a early enough = let n = near i a in absurd (omega (arith, ints))
    from_early (suc fuel) i a early enough =
        let g = gaps i a in
        elim (cases_ltz (owner g.next g.start) tau) as (λ _. IsInTime tau) [
          | inl lt ↦ from_early fuel g.next g.start lt (let k = g.later in omega (arith, ints))
          | inr ge ↦ record { at = g.next; start = g.start; not_before = ge; ends = let k = g.in_time in omega (arith, ints) }
        ]

    -- from an early start on, some start is in time
    pub in_time_from : (i : ℤ) (a : Start i) → owner i a <ℤ tau → IsInTime tau
    in_time_from i a early = from_early (nat_abs ((tau +ℤ pos period) -ℤ i)) i a early (omega (arith, ints))
