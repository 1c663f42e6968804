-- A run over a reception, cut at a slot.
use Rattle.std.proofs.Common.{ℕ, zero, suc, ◌<◌, List, [], ◌∷◌, length, get_or, drop, arith}
use Rattle.ttx_packet.specs.Slots.{IsSlot}
use Rattle.ttx_page.specs.declared.selection.Selection.{Selection}
use Rattle.ttx_page.specs.declared.class.Class.{Class}
use Rattle.ttx_page.specs.Memories.{Memory, IsMemory}
use Rattle.ttx_page.specs.Receivers.{Run}
use Rattle.ttx_receiver.specs.Laws.{StepsKeepMemories}

-- after the first n slots a receiver has some memory, and continues from it
pub record GoesOn (class : Class) (lines : ℕ) (sel : Selection) (rest : List (List ℕ)) (m : Memory) : Type 0 where
  pub mid : Memory
  pub is_memory : IsMemory mid
  pub run : Run class lines sel mid rest m

pub run_goes_on : StepsKeepMemories → (class : Class) (lines : ℕ) (sel : Selection) (n : ℕ) (received : List (List ℕ))
    (former m : Memory) → IsMemory former →
    ((i : ℕ) → i < length received → IsSlot (get_or received i [])) → Run class lines sel former received m →
    GoesOn class lines sel (drop n received) m
run_goes_on law class lines sel zero received former m is slots run = record { mid = former; is_memory = is; run = run }
run_goes_on law class lines sel (suc n) [] former m is slots run = record { mid = former; is_memory = is; run = run }
run_goes_on law class lines sel (suc n) (slot ∷ received) former m is slots run =
    run_goes_on law class lines sel n received run.0 m (law class lines sel former run.0 slot (slots 0 (omega arith)) is run.1)
    (λ i lt. slots (suc i) (omega arith)) run.2
