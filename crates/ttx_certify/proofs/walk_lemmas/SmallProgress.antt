-- The progress of named starts that are slots has small numbers.
use Rattle.std.proofs.Common.{◌≡◌, ℕ, zero, suc, ◌+◌, ◌-◌, ◌<◌, ◌≤◌, ◌&&◌, ◌==◌, nat_lt, ℤ, pos, ◌+ℤ◌, int_lt, is_none, false, if◌then◌else◌, List, [], ◌∷◌}
use Rattle.std.proofs.Common.{length, slice_index_or, Option, Some, IfSome, inl, inr, arith}
use Rattle.std.proofs.lemmas.Bool.{cases_lt, cond_both, and_parts, ltb-true}
use Rattle.ttx_witness.specs.declared.runs.transmissions.Run.{Run}
use Rattle.ttx_witness.specs.declared.runs.confirmation.Progress.{Progress}
use Rattle.ttx_witness.specs.runs.Confirming.{Rising, same_slot, is_next, late_after, confirmed, after_runs, not_begun}
use Rattle.ttx_certify.specs.walks.PackedTracks.{AreSlots}

-- numbers that rise are not below their places
rising_index : (starts : List ℕ) → Rising starts → (i : ℕ) → i < length starts → i ≤ slice_index_or starts i 0
rising_index starts rising zero lt = omega arith
rising_index starts rising (suc i) lt =
    let step = rising i (suc i) (omega arith) lt in
    let below = rising_index starts rising i (omega arith) in
    omega arith

few_below : (starts : List ℕ) (n : ℕ) → Rising starts → ((i : ℕ) → i < length starts → slice_index_or starts i 0 < n) → length starts ≤ n
few_below starts n rising small = elim (cases_lt n (length starts)) as (λ _. length starts ≤ n) [
  | inl lt ↦ (let low = rising_index starts rising n lt in let high = small n lt in absurd (omega arith))
  | inr le ↦ le
]

abbrev IsSlot : Option ℕ → Type 0
IsSlot late = IfSome late (λ start. start < 65536)

record IsSmall (starts : List ℕ) (m : Progress) : Type 0 where
  pub next : m.next ≤ length starts
  pub late : IsSlot m.late

module _ (limit : ℕ) (starts : List ℕ) (are : AreSlots starts) where
  late_small : (m : Progress) (end : ℤ) → IsSmall starts m → IsSlot (late_after limit starts m end)
  late_small m end s = cond_both (m.next == 0) m.late
      (if is_none m.late && int_lt (m.previous +ℤ pos limit) end then Some (slice_index_or starts (m.next - 1) 0) else m.late) IsSlot
      (λ _. s.late)
      (λ some. cond_both (is_none m.late && int_lt (m.previous +ℤ pos limit) end) (Some (slice_index_or starts (m.next - 1) 0)) m.late IsSlot
      (λ _. are.small (m.next - 1) (let n = s.next in let z = above_zero m.next some in omega arith)) (λ _. s.late))
    where
      above_zero : (n : ℕ) → (n == 0) ≡ false → 0 < n
      above_zero zero e = cc
      above_zero (suc n) e = omega arith

  confirmed_small : (m : Progress) (run : Run) → IsSmall starts m → IsSmall starts (confirmed limit starts m run)
  unfolding confirmed
  confirmed_small m run s = cond_both (is_next starts m.next run) (record {
    next = m.next + 1;
    previous = run.owner;
    first_end = if m.next == 0 then run.end else m.first_end;
    late = late_after limit starts m run.end;
  }) m (IsSmall starts)
      (λ yes.
      let parts = and_parts (nat_lt m.next (length starts) && same_slot (pos (slice_index_or starts m.next 0)) run.start) run.sure yes in
      let first = and_parts (nat_lt m.next (length starts)) (same_slot (pos (slice_index_or starts m.next 0)) run.start) parts.0 in
      let lt : m.next < length starts = ltb-true m.next (length starts) first.0 in
      record { next = omega arith; late = late_small m run.end s })
      (λ _. s)

  runs_small : (m : Progress) (rs : List Run) → IsSmall starts m → IsSmall starts (after_runs limit starts m rs)
  unfolding after_runs
  runs_small m [] s = s
  runs_small m (r ∷ rs) s = runs_small (confirmed limit starts m r) rs (confirmed_small m r s)

  pub progress_small : (rs : List Run) → let m = after_runs limit starts not_begun rs in (m.next ≤ 65536) × IfSome m.late (λ start. start < 65536)
  progress_small rs =
      let s = runs_small not_begun rs (record { next = omega arith; late = tt }) in
      ((let n = s.next in let few = few_below starts 65536 are.rising are.small in omega arith), s.late)
