-- Streams of slots: a slot for every whole number; owners, transmissions and runs (EN 300 706 for headers, magazines and serial
-- transmission; sure transmissions and runs: profile).
--
--   Stream, repeated, joined        a cycle sent again and again; one cycle below slot 0 and another from slot 0 on
--   heads, heads_page, heads_matched        headers of a magazine, of a page, of a selection
--   ends_serial             headers that end a page in serial transmission
--   carries                 the packets of an item
--   IsLatestHeader, IsOwned         the header to which a packet belongs
--   IsTransmission, IsSure, IsSureTransmission      an item is sent; no permitted receiver misses it
--   AreSuccessive, IsRun    successive transmissions; as many of them as one of which is received right
--   EndsBelow, HasSureRun, IsSent           where a run ends, and whether it is sure
use Rattle.std.specs.Prelude.{◌≡◌, ℕ, ◌-◌, ◌%◌, ℤ, pos, negsuc, ◌+ℤ◌, ◌<ℤ◌, ◌≤ℤ◌, Bool, true}
use Rattle.std.specs.Prelude.{false, not, ◌&&◌, ◌==◌, List, [], ◌∷◌, length, slice_index_or}
use Rattle.std.specs.List.{AllByRecursion}
use Rattle.ttx_header.specs.Ids.{Id, same_id}
use Rattle.ttx_header.specs.Control.{c11}
use Rattle.ttx_page.specs.Runs.{IsSentAt, IsSureSent, Successive, IsRunFrom, BeginsSureRun, RunEndsBelow}
use Rattle.ttx_page.specs.Packets.{Packet, Header, Row, Links, packet_of}
use Rattle.ttx_page.specs.Pages.{Item, TheHead, TheRow, TheLinks, Selection, matches}

abbrev pub Stream : Type 0
Stream = ℤ → List ℕ

-- the slot of a cycle of n slots at position i: i mod n
abbrev pub turned : ℕ → ℤ → ℕ
turned n (pos i) = i % n
turned n (negsuc i) = n - 1 - i % n

-- a cycle that is sent again and again
abbrev pub repeated : List (List ℕ) → Stream
repeated cycle i = slice_index_or cycle (turned (length cycle) i) []

-- the old cycle below slot 0, the new one from slot 0 on
abbrev pub joined : List (List ℕ) → List (List ℕ) → Stream
joined old new (pos i) = repeated new (pos i)
joined old new (negsuc i) = repeated old (negsuc i)

-- a header of the magazine
abbrev pub heads : ℕ → Packet → Bool
heads mag (Header id control text) = id.mag == mag
heads mag _ = false

-- a header of the page
abbrev pub heads_page : Id → Packet → Bool
heads_page page (Header id control text) = same_id page id
heads_page page _ = false

-- a header that the selection matches
abbrev pub heads_matched : Selection → Packet → Bool
heads_matched sel (Header id control text) = matches sel id
heads_matched sel _ = false

-- a header of another magazine with C11: in serial transmission it ends the page
abbrev pub ends_serial : ℕ → Packet → Bool
ends_serial mag (Header id control text) = not (id.mag == mag) && c11 control
ends_serial mag _ = false

-- the row, or X/27/0, of the magazine
abbrev pub carries : ℕ → Item → Packet → Bool
carries mag (TheRow r) (Row m number text) = (m == mag) && (number == r)
carries mag TheLinks (Links m content) = m == mag
carries mag item packet = false

-- slot h is the latest header of the magazine before slot j
pub record IsLatestHeader (s : Stream) (mag : ℕ) (h j : ℤ) : Type 0 where
  pub earlier : h <ℤ j
  pub is_header : heads mag (packet_of (s h)) ≡ true
  pub none_between : (i : ℤ) → h <ℤ i → i <ℤ j → heads mag (packet_of (s i)) ≡ false

-- slot j sends the item under the page's header at h; a header is its own owner
abbrev pub IsOwned : Stream → Id → Item → ℤ → ℤ → Type 0
IsOwned s page TheHead h j = (h ≡ j) × (heads_page page (packet_of (s j)) ≡ true)
IsOwned s page (TheRow r) h j =
    IsLatestHeader s page.mag h j × (heads_page page (packet_of (s h)) ≡ true) × (carries page.mag (TheRow r) (packet_of (s j)) ≡ true)
IsOwned s page TheLinks h j =
    IsLatestHeader s page.mag h j × (heads_page page (packet_of (s h)) ≡ true) × (carries page.mag TheLinks (packet_of (s j)) ≡ true)

-- slot j is a transmission of the item
abbrev pub IsTransmission : Stream → Id → Item → ℤ → Type 0
IsTransmission s page item = IsSentAt (IsOwned s page item)

-- the slot is more than L slots after its header, and no header in between ends the page
abbrev pub CannotBeMissed : Stream → ℕ → ℕ → ℤ → ℤ → Type 0
CannotBeMissed s lines mag h j = ((h +ℤ pos lines) <ℤ j) × ((i : ℤ) → h <ℤ i → i <ℤ j → ends_serial mag (packet_of (s i)) ≡ false)

-- no permitted receiver misses slot j under the header at h; a header is never missed
abbrev pub IsSure : Stream → ℕ → ℕ → Item → ℤ → ℤ → Type 0
IsSure s lines mag TheHead h j = Unit {0}
IsSure s lines mag (TheRow r) h j = CannotBeMissed s lines mag h j
IsSure s lines mag TheLinks h j = CannotBeMissed s lines mag h j

abbrev pub IsSureTransmission : Stream → Id → ℕ → Item → ℤ → Type 0
IsSureTransmission s page lines item = IsSureSent (IsOwned s page item) (IsSure s lines page.mag item)

-- these slots are transmissions of the item, with no other transmission between two of them
abbrev pub AreSuccessive : Stream → Id → Item → List ℤ → Type 0
AreSuccessive s page item = Successive (IsTransmission s page item)

-- how many transmissions a run has: the repeat count; for links, one
abbrev pub run_length : ℕ → Item → ℕ
run_length repeat TheHead = repeat
run_length repeat (TheRow r) = repeat
run_length repeat TheLinks = 1

-- the run from slot `first`: that many successive transmissions
abbrev pub IsRun : Stream → Id → (repeat : ℕ) → Item → (first : ℤ) (rest : List ℤ) → Type 0
IsRun s page repeat item = IsRunFrom (IsOwned s page item) (run_length repeat item)

-- the run from slot `first` ends below slot `end`
abbrev pub EndsBelow : Stream → Id → (repeat : ℕ) → Item → (first end : ℤ) → Type 0
EndsBelow s page repeat item = RunEndsBelow (IsOwned s page item) (run_length repeat item)

-- each transmission of the run from slot `first` is sure
abbrev pub HasSureRun : Stream → Id → (lines repeat : ℕ) → Item → (first : ℤ) → Type 0
HasSureRun s page lines repeat item = BeginsSureRun (IsOwned s page item) (IsSure s lines page.mag item) (run_length repeat item)

-- a sure run of the item under a header at slot `begin` or later, which ends below slot `end`
pub record IsSent (s : Stream) (page : Id) (lines repeat : ℕ) (item : Item) (begin end : ℤ) : Type 0 where
  pub first : ℤ
  pub rest : List ℤ
  pub owner : ℤ
  pub owned : IsOwned s page item owner first
  pub not_before : begin ≤ℤ owner
  pub run : IsRun s page repeat item first rest
  pub all_sure : AllByRecursion (IsSureTransmission s page lines item) (first ∷ rest)
  pub ends : AllByRecursion (λ j. j <ℤ end) (first ∷ rest)
