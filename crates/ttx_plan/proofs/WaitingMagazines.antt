-- How long a magazine still waits.
use Rattle.std.proofs.Common.{◌≡◌, ℕ, zero, suc, ◌-◌, ◌≤◌, Bool, true, false, ◌||◌, cond, List, [], ◌∷◌, take, sym, ap, ◌∙◌, arith, inl, inr, ltb}
use Rattle.std.specs.List.{list_any}
use Rattle.std.proofs.lemmas.Bool.{cond-true, cond-false, cases_Bool, cond_both, lt-ltb, le-ltb, both_ways}
use Rattle.std.proofs.lemmas.Bool.Decides.{nat_tests}
use Rattle.ttx_plan.specs.declared.packet.Slot.{Slot}

-- how many of the next slots come before the field after the latest counted block has passed
abbrev pub until : (Slot → Bool) → ℕ → List Slot → ℕ
until counts lines [] = 0
until counts lines (slot ∷ before) = cond (counts slot) lines (until counts lines before - 1)

pub until_most : (counts : Slot → Bool) (lines : ℕ) (before : List Slot) → until counts lines before ≤ lines
until_most counts lines [] = omega arith
until_most counts lines (slot ∷ before) =
    let h : until counts lines before ≤ lines = until_most counts lines before in
    cond_both (counts slot) lines (until counts lines before - 1) (λ x. x ≤ lines) (λ _. omega arith) (λ _. omega arith)

recent : (counts : Slot → Bool) (lines k : ℕ) (before : List Slot) → k ≤ lines → list_any counts (take k before)
    ≡ ltb (lines - k) (until counts lines before)
recent counts lines zero before le = let h : until counts lines before ≤ lines = until_most counts lines before in sym (le-ltb _ _ (omega arith))
recent counts lines (suc k) [] le = sym (le-ltb _ _ (omega arith))
recent counts lines (suc k) (slot ∷ before) le =
    let h : list_any counts (take k before) ≡ ltb (lines - k) (until counts lines before) = recent counts lines k before (omega arith) in
    step (counts slot) h
  where
    step : (b : Bool) → list_any counts (take k before) ≡ ltb (lines - k) (until counts lines before) →
        (b || list_any counts (take k before)) ≡ ltb (lines - suc k) (cond b lines (until counts lines before - 1))
    step true h = sym (lt-ltb _ _ (omega arith))
    step false h = h ∙ grind (arith, nat_tests)

-- a block in the last field is still waited for
pub recent_until : (counts : Slot → Bool) (lines : ℕ) (before : List Slot) → list_any counts (take lines before) ≡ ltb 0 (until counts lines before)
recent_until counts lines before =
    let e : lines - lines ≡ 0 = omega arith in
    recent counts lines lines before (omega arith) ∙ ap (λ x. ltb x (until counts lines before)) e

-- if fewer count, the wait is shorter
pub until_more : (some all : Slot → Bool) (lines : ℕ) (before : List Slot) → ((slot : Slot) → some slot ≡ true → all slot ≡ true) →
    until some lines before ≤ until all lines before
until_more some all lines [] h = omega arith
until_more some all lines (slot ∷ before) h =
    let m : until some lines before ≤ until all lines before = until_more some all lines before h in
    let most : until some lines before ≤ lines = until_most some lines before in
    elim (cases_Bool (all slot)) as (λ _. cond (some slot) lines (until some lines before - 1) ≤ cond (all slot) lines (until all lines before - 1)) [
      | inl y ↦ rw (cond-true (all slot) lines (until all lines before - 1) y)
          (cond_both (some slot) lines (until some lines before - 1) (λ x. x ≤ lines) (λ _. omega arith) (λ _. omega arith))
      | inr y ↦ rw (cond-false (all slot) lines (until all lines before - 1) y)
          (cond_both (some slot) lines (until some lines before - 1) (λ x. x ≤ until all lines before - 1)
          (λ z. absurd (both_ways (all slot) y (h slot z))) (λ _. omega arith))
    ]
