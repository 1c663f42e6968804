-- When a cycle is accepted with a certificate (profile). Slots are counted from 0, deadlines in fields.
--
--   Certificate, IsCertificate, limit       a certificate as the starts that it names; its ranges; its deadline in slots
--   IsSureStart             a slot of the period from which a sure run of the item begins
--   IsCovered               the named starts bring the item in time from every tuning slot
--   IsLeftOut               a blank item without named starts: each header of the page is followed in time by the next
--   Accepts                 no slot is bad, each page is steady, and each item that a viewer sees is covered or left out
use Rattle.std.specs.Prelude.{◌≡◌, ◌⊎◌, ℕ, ◌<◌, ℤ, pos, ◌+ℤ◌, ◌<ℤ◌, ◌≤ℤ◌, true, List, [], length, slice_get, slice_index_or, Contains, Some}
use Rattle.ttx_packet.specs.Slots.{is_clean}
use Rattle.ttx_header.specs.Ids.{Id}
use Rattle.ttx_page.specs.Packets.{packet_of}
use Rattle.ttx_page.specs.Pages.{Page, IsBlank, needed}
use Rattle.ttx_page.specs.declared.item.Item.{Item}
use Rattle.ttx_page.specs.declared.class.Class.TheVariants.{Clearing}
use Rattle.ttx_page.specs.Streams.{repeated, turned, IsOwned, HasSureRun, EndsBelow, heads_page}
use Rattle.ttx_page.specs.Steady.{Steady}
pub use Rattle.ttx_certificate.specs.NamedStarts.{Certificate, IsCertificate, limit}

abbrev pub IsSureStart : List (List ℕ) → Id → ℕ → ℕ → Item → ℕ → Type 0
IsSureStart cycle page lines repeat item start = (start < length cycle) × HasSureRun (repeated cycle) page lines repeat item (pos start)

-- A start is named, each named start begins a sure run, and for each tuning slot tau one of these runs has its first owner at tau or
-- later and ends before the deadline after tau.
pub record IsCovered (cycle : List (List ℕ)) (p : Page) (w : Certificate) (item : Item) : Type 0 where
  pub named : (start : ℕ) × Contains (w.starts p.id item) start
  pub sure : (start : ℕ) → Contains (w.starts p.id item) start → IsSureStart cycle p.id w.lines w.repeat item start
  pub in_time : (tau : ℤ) → (i h : ℤ) × Contains (w.starts p.id item) (turned (length cycle) i) × IsOwned (repeated cycle) p.id item h i
      × (tau ≤ℤ h) × EndsBelow (repeated cycle) p.id w.repeat item i (tau +ℤ pos (limit w))

-- Receivers surely clear, the item is blank, no start is named for it, and after each tuning slot a header of the page comes in time.
pub record IsLeftOut (cycle : List (List ℕ)) (p : Page) (w : Certificate) (item : Item) : Type 0 where
  pub clearing : w.class ≡ Clearing
  pub blank : IsBlank p item
  pub no_line : w.starts p.id item ≡ []
  pub in_time : (tau : ℤ) → (i : ℤ) × (tau ≤ℤ i) × (i <ℤ (tau +ℤ pos (limit w))) × (heads_page p.id (packet_of (repeated cycle i)) ≡ true)

pub record Accepts (cycle : List (List ℕ)) (pages : List Page) (w : Certificate) : Type 0 where
  pub clean : (n : ℕ) → n < length cycle → is_clean (slice_index_or cycle n []) ≡ true
  pub steady : (n : ℕ) (p : Page) → slice_get pages n ≡ Some p → Steady (repeated cycle) pages p
  pub covered : (n : ℕ) (p : Page) → slice_get pages n ≡ Some p → (item : Item) → needed p item ≡ true →
      IsCovered cycle p w item ⊎ IsLeftOut cycle p w item
