-- What is true of a receiver of a kind, made with nothing received before, is true of what the tuning asks for.
use Rattle.std.proofs.Common.{◌≡◌, ◌∙◌, List, ℕ, sym, ap, subst}
use Rattle.std.specs.Prelude.{fold}
use Rattle.ttx_arguments.specs.declared.orders.ReceiverKind.{ReceiverKind}
use Rattle.ttx_arguments.specs.declared.orders.Tuning.{Tuning as AskedTuning}
use Rattle.ttx_page.specs.Memories.{Memory, blank_memory}
use Rattle.ttx_receiver.specs.Tuning.{Tuned, stepped, tuned_at}
use Rattle.ttx_tool.specs.Receive.{Tuning, tuned_as, tuned_to, held_by, class_of, takes_choices}

-- `P` is said of what a receiver is set to, of what it holds after some slots, and of what it holds at first.
abbrev pub SaysOf : (Tuning → (List (List ℕ) → Memory) → Memory → Type 0) → ReceiverKind → Tuned → Type 0
SaysOf P kind r = P (tuned_as (class_of kind) r.lines r.selection) (λ sent. (fold (stepped (class_of kind) (takes_choices kind)) r sent).memory) r.memory

pub asked_for : (asked : AskedTuning) (P : Tuning → (List (List ℕ) → Memory) → Memory → Type 0) (kind : ReceiverKind) → asked.kind ≡ kind →
    (memory : Memory) → memory ≡ blank_memory → (r : Tuned) → r ≡ tuned_at asked.selection asked.lines memory → SaysOf P kind r →
    P (tuned_to asked) (held_by asked) blank_memory
asked_for asked P kind is memory blank r made h =
    let at = subst (λ x. SaysOf P kind x) (made ∙ ap (λ m. tuned_at asked.selection asked.lines m) blank) h in
    subst (λ k. SaysOf P k (tuned_at asked.selection asked.lines blank_memory)) (sym is) at
