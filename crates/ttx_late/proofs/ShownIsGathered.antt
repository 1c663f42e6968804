-- What is shown is what was gathered, once storing has ended.
use Rattle.std.proofs.Common.{◌≡◌, ℕ, zero, suc, ◌<◌, ◌≤◌, true, false, List, [], ◌∷◌, length, get_or, take, refl, sym, subst, inl, inr}
use Rattle.std.proofs.Common.{arith}
use Rattle.ttx_page.specs.Packets.{packet_of}
use Rattle.ttx_page.specs.declared.selection.Selection.{Selection}
use Rattle.ttx_page.specs.declared.class.Class.{Class}
use Rattle.ttx_page.specs.Memories.{Memory}
use Rattle.ttx_page.specs.Receivers.{after, older, Step}
use Rattle.ttx_page.specs.Streams.{heads_matched}
use Rattle.ttx_late.specs.LateReceivers.{LateMemory, may_forget, must_show, LateStep, LateRun}
use Rattle.ttx_late.proofs.StoringSteps.{Same, after_matched, after_stopped}
use Rattle.ttx_late.proofs.GatheredMemories.{kept_base}

module _ (class : Class) (lines : ℕ) (sel : Selection) where
  -- the last step of a run
  last_step : (received : List (List ℕ)) (n : ℕ) (d new : LateMemory) → n < length received → LateRun class lines sel d (take (suc n) received) new →
      (mid : LateMemory) × LateRun class lines sel d (take n received) mid × LateStep class lines sel mid (get_or received n []) new
  last_step [] n d new lt run = absurd (omega arith)
  last_step (slot ∷ received) zero d new lt run = (d, refl, subst (LateStep class lines sel d slot) (sym run.2) run.1)
  last_step (slot ∷ received) (suc n) d new lt run =
      let rest = last_step received n run.0 new (omega arith) run.2 in (rest.0, (run.0, run.1, rest.1), rest.2)

  -- what each step keeps holds after a run
  pub run_keeps : (received : List (List ℕ)) (former : LateMemory) (P : ℕ → LateMemory → Type 0) → P 0 former →
      ((n : ℕ) (d new : LateMemory) → n < length received → LateStep class lines sel d (get_or received n []) new → P n d → P (suc n) new) →
      (n : ℕ) (d : LateMemory) → n ≤ length received → LateRun class lines sel former (take n received) d → P n d
  run_keeps received former P start step zero d le run = subst (P 0) (sym run) start
  run_keeps received former P start step (suc n) d le run =
      let last = last_step received n former d (omega arith) run in
      step n last.0 d (omega arith) last.2 (run_keeps received former P start step n last.0 (omega arith) last.1)

  module _ (d new : LateMemory) (slot : List ℕ) (step : LateStep class lines sel d slot new) where
    -- what holds of the memories before and after the slot, and of what was shown if it may stay, holds of what is shown
    pub shown_is : (P : Memory → Type 0) → P d.gathered → P new.gathered →
        (must_show sel d.gathered new.gathered (packet_of slot) ≡ false → P d.shown) → P new.shown
    shown_is P before after stays = elim step.shown as (λ _. P new.shown) [
      | inl e ↦ subst P (sym e) before
      | inr other ↦ elim other as (λ _. P new.shown) [ inl e ↦ subst P (sym e) after | inr left ↦ subst P (sym left.0) (stays left.1) ]
    ]

    -- a matching header begins storing
    pub begins : heads_matched sel (packet_of slot) ≡ true → new.gathered.storing ≡ true
    begins matched = subst (λ x. x.storing ≡ true) (sym step.step.is)
        (after_matched class lines sel step.step.choice (older step.base) (packet_of slot) matched)

    module _ (none : may_forget sel d.gathered (packet_of slot) ≡ false) where
      -- what was gathered takes the slot, if nothing may be forgotten
      pub taken : Step class lines sel d.gathered slot new.gathered
      taken = subst (λ base. Step class lines sel base slot new.gathered) (kept_base class lines sel d.gathered step.base (packet_of slot) none step.from)
          step.step

      -- if nothing is being stored afterwards, what is shown is what was gathered, if it was so before or must be shown
      pub settles : new.gathered.storing ≡ false →
          (must_show sel d.gathered new.gathered (packet_of slot) ≡ false → Same d.shown d.gathered) → Same new.shown new.gathered
      settles idle stays =
          let same = after_stopped class lines sel taken.choice d.gathered new.gathered (packet_of slot) taken.is idle in
          shown_is (λ shown. Same shown new.gathered) same (record { rows = refl; control = refl; links = refl })
          (λ stay. let was = stays stay in record { rows = cc; control = cc; links = cc })
