-- Headers of a selection and of its page number, and what is gathered after a slot.
use Rattle.std.proofs.Common.{◌≡◌, ◌⊎◌, ℕ, true, false, List, subst, arith}
use Rattle.std.proofs.lemmas.Grind.{common_steps}
use Rattle.ttx_header.specs.Ids.{Id}
use Rattle.ttx_page.specs.Packets.{Packet, packet_of}
use Rattle.ttx_page.specs.Pages.{selected_mag, matches}
use Rattle.ttx_page.specs.declared.selection.Selection.{Selection}
use Rattle.ttx_page.specs.declared.class.Class.{Class}
use Rattle.ttx_page.specs.Memories.{Memory}
use Rattle.ttx_page.specs.Receivers.{older, Step}
use Rattle.ttx_page.specs.Streams.{heads, heads_matched}
use Rattle.ttx_page.specs.Followers.{heads_another}
use Rattle.ttx_late.specs.LateReceivers.{heads_number, may_forget, TakesIn}
use Rattle.ttx_receiver.proofs.StepsOverPage.{after_storing}

-- a header with the page number is one of the magazine
pub number_heads : (sel : Selection) (pkt : Packet) → heads_number sel pkt ≡ true → heads (selected_mag sel) pkt ≡ true
number_heads sel pkt h = grind arith

-- a header that the selection matches has its page number
pub matched_number : (sel : Selection) (pkt : Packet) → heads_matched sel pkt ≡ true → heads_number sel pkt ≡ true
matched_number sel pkt h = grind (arith, common_steps)

-- a selection that matches a page has its magazine, and its page number
pub mag_is : (sel : Selection) (page : Id) → matches sel page ≡ true → selected_mag sel ≡ page.mag
mag_is sel page h = grind (arith, common_steps)

pub another_number : (sel : Selection) (page : Id) → matches sel page ≡ true → (pkt : Packet) → heads_another page pkt ≡ true →
    heads_number sel pkt ≡ false
another_number sel page fits pkt h = grind (arith, common_steps)

pub own_number : (sel : Selection) (page : Id) → matches sel page ≡ true → (pkt : Packet) → heads (selected_mag sel) pkt ≡ true →
    heads_another page pkt ≡ false → heads_number sel pkt ≡ true
own_number sel page fits pkt head other = grind (arith, common_steps)

module _ (class : Class) (lines : ℕ) (sel : Selection) where
  pub step_storing : (m new : Memory) (slot : List ℕ) → Step class lines sel m slot new → new.storing ≡ true →
      (heads_matched sel (packet_of slot) ≡ true) ⊎ ((m.storing ≡ true) × (heads (selected_mag sel) (packet_of slot) ≡ false))
  step_storing m new slot step st = after_storing class lines sel step.choice (older m) (packet_of slot) (subst (λ x. x.storing ≡ true) step.is st)

  -- if nothing may be forgotten, what was gathered takes the slot
  pub kept_base : (m base : Memory) (pkt : Packet) → may_forget sel m pkt ≡ false → TakesIn class sel m pkt base → base ≡ m
  kept_base m base pkt none from = grind arith
