-- Receivers that show a page late: they gather it in one memory and show it from another (EN 300 706 leaves open when a page is shown;
-- libzvbi's decoder shows it when storing ends). They may show it at other slots too, so receivers that show each row as it comes
-- also belong to this class.
--
--   LateMemory              what such a receiver gathers, and what it shows
--   selected_number, heads_number           the page number that it listens to, and the headers with this number
--   may_forget, TakesIn     when it may forget what it gathered; the memory that takes the slot
--   must_show, MayShow      when it must show what it gathered; what it may show after a slot
--   LateStep, LateRun       what a slot, and a list of slots, may turn both memories into
use Rattle.std.specs.Prelude.{◌≡◌, ◌⊎◌, ℕ, Bool, true, false, not, ◌&&◌, ◌==◌, List, [], ◌∷◌}
use Rattle.ttx_page.specs.Packets.{Packet, Header, packet_of}
use Rattle.ttx_page.specs.Pages.{selected_mag}
use Rattle.ttx_page.specs.declared.selection.Selection.{Selection}
use Rattle.ttx_page.specs.declared.selection.Selection.TheVariants.{Exact, AnySub}
use Rattle.ttx_page.specs.declared.class.Class.{Class}
use Rattle.ttx_page.specs.Memories.{Memory, IsFormer}
use Rattle.ttx_page.specs.Receivers.{Step}

pub record LateMemory : Type 0 where
  pub gathered : Memory
  pub shown : Memory

-- the page number that the receiver listens to
abbrev pub selected_number : Selection → ℕ
selected_number (Exact id) = id.page
selected_number (AnySub mag page) = page

-- a header with this number: of the page itself, or of another subpage
abbrev pub heads_number : Selection → Packet → Bool
heads_number sel (Header id control text) = (id.mag == selected_mag sel) && (id.page == selected_number sel)
heads_number sel _ = false

-- a header with the page's own number comes while the page is being stored; many receivers then forget what they gathered
abbrev pub may_forget : Selection → Memory → Packet → Bool
may_forget sel m packet = m.storing && heads_number sel packet

-- The memory that takes the slot: what was gathered; or, if this may be forgotten, anything that a receiver may hold before it is
-- tuned (for class any that is any memory: what is shown, a blank page, or what was gathered earlier).
abbrev pub TakesIn : Class → Selection → Memory → Packet → Memory → Type 0
TakesIn class sel gathered packet base = (base ≡ gathered) ⊎ ((may_forget sel gathered packet ≡ true) × IsFormer class base)

-- storing ends, and not by a header with the page's own number
abbrev pub must_show : Selection → Memory → Memory → Packet → Bool
must_show sel before after packet = before.storing && not after.storing && not (heads_number sel packet)

-- What is shown is what was gathered before or after the slot; unless it must be shown, it may also be what was shown before.
abbrev pub MayShow : Selection → LateMemory → Packet → LateMemory → Type 0
MayShow sel d packet new =
    (new.shown ≡ d.gathered) ⊎ ((new.shown ≡ new.gathered) ⊎ ((new.shown ≡ d.shown) × (must_show sel d.gathered new.gathered packet ≡ false)))

-- gathering is a permitted step
pub record LateStep (class : Class) (lines : ℕ) (sel : Selection) (d : LateMemory) (received : List ℕ) (new : LateMemory) : Type 0 where
  pub base : Memory
  pub from : TakesIn class sel d.gathered (packet_of received) base
  pub step : Step class lines sel base received new.gathered
  pub shown : MayShow sel d (packet_of received) new

abbrev pub LateRun : Class → ℕ → Selection → LateMemory → List (List ℕ) → LateMemory → Type 0
LateRun class lines sel d [] new = new ≡ d
LateRun class lines sel d (received ∷ rest) new = (mid : LateMemory) × LateStep class lines sel d received mid × LateRun class lines sel mid rest new
