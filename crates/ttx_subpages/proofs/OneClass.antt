-- A receiver that surely clears takes no choice that one of class any could not take.
use Rattle.std.proofs.Common.{◌≡◌, ℕ, List, Bool, true, false, if◌then◌else◌, ◌&&◌, ◌||◌, refl, sym, ap, ◌∙◌, inl, inr}
use Rattle.std.proofs.lemmas.Bool.{cases_Bool}
use Rattle.ttx_header.specs.Control.{c4}
use Rattle.ttx_page.specs.Packets.{Packet, Empty, Unreadable, Header, Row, Links, Info, Other, packet_of}
use Rattle.ttx_page.specs.Pages.{matches}
use Rattle.ttx_page.specs.declared.selection.Selection.{Selection}
use Rattle.ttx_page.specs.declared.class.Class.{Class}
use Rattle.ttx_page.specs.declared.class.Class.TheVariants.{Any, Clearing}
use Rattle.ttx_page.specs.Memories.{Memory, IsMemory, IsFormer}
use Rattle.ttx_page.specs.Receivers.{erased, begun, after, older, Step}

and_true : (b : Bool) → b && true ≡ b
and_true true = refl
and_true false = refl

clearing_after : (lines : ℕ) → (sel : Selection) (choice : Bool) (m : Memory) (pkt : Packet) →
    (c : Bool) × (after Clearing lines sel choice m pkt ≡ after Any lines sel c m pkt)
clearing_after lines sel choice m (Header id control text) =
    elim (cases_Bool (matches sel id)) as
    (λ _. (c : Bool) × (after Clearing lines sel choice m (Header id control text) ≡ after Any lines sel c m (Header id control text))) [
      | inl e ↦ (true, rw e (ap (λ b. begun (if c4 control || b then erased m else m) control text) (sym (and_true m.fresh))))
      | inr e ↦ (choice, rw e refl)
    ]
clearing_after lines sel choice m (Row mag number text) = (choice, refl)
clearing_after lines sel choice m (Links mag content) = (choice, refl)
clearing_after lines sel choice m Empty = (choice, refl)
clearing_after lines sel choice m Unreadable = (choice, refl)
clearing_after lines sel choice m Info = (choice, refl)
clearing_after lines sel choice m Other = (choice, refl)

pub any_step : (class : Class) → (lines : ℕ) (sel : Selection) (m new : Memory) (slot : List ℕ) → Step class lines sel m slot new → Step Any lines sel m slot new
any_step Any lines sel m new slot step = step
any_step Clearing lines sel m new slot step =
    let c = clearing_after lines sel step.choice (older m) (packet_of slot) in record { choice = c.0; is = step.is ∙ c.1 }

pub former_memory : (class : Class) (m : Memory) → IsFormer class m → IsMemory m
former_memory Any m is = is
former_memory Clearing m is = is.0
