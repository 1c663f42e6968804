-- The laws of receiving. Each is proved by the function of its name in `laws`.
--
--   StepsKeepMemories       a step turns a memory into a memory
--   IsSteadyFrom            from a slot on, a receiver of the page is sent only the page
--   HasHeaderBetween, IsBrought    a header of the page, or an item of it, comes between two slots
--   RunHoldsItsItem         an item that comes is held by every receiver, after every reception within the error rule
use Rattle.std.specs.Prelude.{◌≡◌, ◌⊎◌, ℕ, ◌≤◌, ℤ, pos, ◌+ℤ◌, ◌<ℤ◌, ◌≤ℤ◌, true, List, length}
use Rattle.ttx_packet.specs.Slots.{IsSlot, is_clean}
use Rattle.ttx_page.specs.Packets.{packet_of}
use Rattle.ttx_page.specs.Pages.{Page, IsPage, needed, matches, IsBlank}
use Rattle.ttx_page.specs.declared.selection.Selection.{Selection}
use Rattle.ttx_page.specs.declared.item.Item.{Item}
use Rattle.ttx_page.specs.declared.class.Class.{Class}
use Rattle.ttx_page.specs.declared.class.Class.TheVariants.{Clearing}
use Rattle.ttx_page.specs.Memories.{Memory, IsMemory, IsFormer, Holds}
use Rattle.ttx_page.specs.Receivers.{Step, Run}
use Rattle.ttx_page.specs.Streams.{Stream, IsOwned, IsSent, heads_page, heads_matched}
use Rattle.ttx_page.specs.Receptions.{Received}
use Rattle.ttx_page.specs.Steady.{IsChecked, IsTrueTo}

abbrev pub StepsKeepMemories : Type 0
StepsKeepMemories = (class : Class) (lines : ℕ) (sel : Selection) (m new : Memory) (received : List ℕ) → IsSlot received → IsMemory m →
    Step class lines sel m received new → IsMemory new

-- From slot `begin` on each slot is clean, the headers that the selection matches are the page's, and what follows them is the page's.
pub record IsSteadyFrom (s : Stream) (p : Page) (sel : Selection) (begin : ℤ) : Type 0 where
  pub slots : (j : ℤ) → begin ≤ℤ j → IsSlot (s j)
  pub clean : (j : ℤ) → begin ≤ℤ j → is_clean (s j) ≡ true
  pub selected : (j : ℤ) → begin ≤ℤ j → heads_matched sel (packet_of (s j)) ≡ true → heads_page p.id (packet_of (s j)) ≡ true
  pub items : (item : Item) → IsChecked p item → (h j : ℤ) → begin ≤ℤ h → IsOwned s p.id item h j → IsTrueTo p item (s j)

-- a header of the page at `begin` or later, and before `end`
pub record HasHeaderBetween (s : Stream) (p : Page) (begin end : ℤ) : Type 0 where
  pub slot : ℤ
  pub not_before : begin ≤ℤ slot
  pub before : slot <ℤ end
  pub is_header : heads_page p.id (packet_of (s slot)) ≡ true

-- An item comes between two slots by a sure run; or, if receivers surely clear the page and the item is blank, by a header.
abbrev pub IsBrought : Stream → Page → Class → ℕ → ℕ → Item → ℤ → ℤ → Type 0
IsBrought s p class lines repeat item begin end =
    IsSent s p.id lines repeat item begin end ⊎ ((class ≡ Clearing) × IsBlank p item × HasHeaderBetween s p begin end)

-- An item that comes between two slots is held from the second slot on, together with the page's control bits, whatever the receiver
-- held before, whatever it chooses, and whatever it receives within the error rule.
abbrev pub RunHoldsItsItem : Type 0
RunHoldsItsItem =
    (s : Stream) (p : Page) (sel : Selection) (class : Class) (lines repeat : ℕ) (begin end : ℤ) →
    IsPage p → lines ≤ 32 → matches sel p.id ≡ true → IsSteadyFrom s p sel begin →
    (item : Item) → needed p item ≡ true → IsBrought s p class lines repeat item begin end →
    (former m : Memory) (received : List (List ℕ)) → IsFormer class former → Received s p.id repeat begin received →
    Run class lines sel former received m → end ≤ℤ (begin +ℤ pos (length received)) → (m.control ≡ p.control) × Holds p m item
