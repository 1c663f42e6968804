-- A page that a stream sends unchanged, and a receiver that already has it.
--
--   SendsOnly               the headers that a selection matches are the page's, and what follows them is the page's own
--   ShownStaysShown         a receiver that shows the page continues to show it, whatever it chooses
use Rattle.std.specs.Prelude.{◌≡◌, ℕ, ℤ, true, false}
use Rattle.ttx_page.specs.Packets.{packet_of}
use Rattle.ttx_page.specs.Pages.{Page, IsPage, matches}
use Rattle.ttx_page.specs.declared.selection.Selection.{Selection}
use Rattle.ttx_page.specs.declared.item.Item.{Item}
use Rattle.ttx_page.specs.declared.class.Class.{Class}
use Rattle.ttx_page.specs.Memories.{Memory, IsMemory, Shows}
use Rattle.ttx_page.specs.Receivers.{Run}
use Rattle.ttx_page.specs.Streams.{Stream, IsOwned, heads_page, heads_matched}
use Rattle.ttx_page.specs.Steady.{IsChecked, IsTrueTo}
use Rattle.ttx_page.specs.Laws.{sent_from}

pub record SendsOnly (s : Stream) (p : Page) (sel : Selection) : Type 0 where
  pub selected : (j : ℤ) → heads_matched sel (packet_of (s j)) ≡ true → heads_page p.id (packet_of (s j)) ≡ true
  pub items : (item : Item) → IsChecked p item → (h j : ℤ) → IsOwned s p.id item h j → IsTrueTo p item (s j)

-- a receiver that is not storing and not fresh receives what is sent; slots may be bad
abbrev pub ShownStaysShown : Type 0
ShownStaysShown =
    (s : Stream) (p : Page) (sel : Selection) (class : Class) (lines n : ℕ) (tau : ℤ) → IsPage p → matches sel p.id ≡ true → SendsOnly s p sel →
    (former m : Memory) → IsMemory former → former.storing ≡ false → former.fresh ≡ false → Shows p former →
    Run class lines sel former (sent_from s tau n) m → Shows p m
