-- A receiver that takes every choice and never gets one item of a page right: it misses what it may miss, and of each transmission
-- of the item that it cannot miss, the first character is received with a wrong bit.
--
--   spoilt                  a slot with the lowest bit of a byte wrong
--   is_bound, takes         whether such a receiver takes the item from a packet
--   first_byte, is_received_wrong, heard       how a slot is received
--   careful_after           the memory after one slot, with every choice taken
--   starved_memory, starved_slots       the memory after some slots of a stream, and how these slots are received
--   starved_hits, starved_choices       which slots have a wrong bit; the choices, as a script
--   IsScripted, StarvedIsScripted       hits and script give the slots and the memory
--   other_letter, other_link, other_links, wrong_memory         the former memory: the page's except for one character or one link
--   HoldsWrong                 that character or that link is wrong
--   IsStarved, StarvedStaysWrong        if no sure run comes, the item stays wrong, and all else is the page's
use Rattle.std.specs.Prelude.{◌≡◌, ◌≢◌, ◌<◌, ◌≤◌, ℕ, zero, suc, ℤ, pos, ◌+ℤ◌, Bool, true, false, not, ◌&&◌, ◌==◌, if◌then◌else◌, nat_le, bit_xor}
use Rattle.std.specs.Prelude.{Option, Some, None, List, [], ◌∷◌, ◌++◌, length, slice_index, slice_index_or, slice_set, Contains}
use Rattle.ttx_packet.specs.Slots.{is_empty}
use Rattle.ttx_header.specs.Ids.{Id, id_at}
use Rattle.ttx_links.specs.Sets.{LinkSet}
use Rattle.ttx_page.specs.Packets.{Packet, packet_of}
use Rattle.ttx_page.specs.Pages.{Page, IsPage, selected_mag, matches, needed, page_row}
use Rattle.ttx_page.specs.declared.selection.Selection.{Selection}
use Rattle.ttx_page.specs.declared.item.Item.{Item}
use Rattle.ttx_page.specs.declared.item.Item.TheVariants.{Head as TheHead, Row as TheRow, Links as TheLinks}
use Rattle.ttx_page.specs.declared.class.Class.TheVariants.{Any}
use Rattle.ttx_page.specs.Memories.{Memory, IsFormer, memory_row, char_at, memory_of_page, Holds}
use Rattle.ttx_page.specs.Receivers.{after, older, with_row, Run, has_choice, scripted}
use Rattle.ttx_page.specs.Streams.{Stream, heads_matched, carries, IsSent}
use Rattle.ttx_page.specs.Receptions.{Received}
use Rattle.ttx_receiver.specs.Laws.{IsSteadyFrom}

-- a slot with the lowest bit of byte x wrong
abbrev pub spoilt : List ℕ → ℕ → List ℕ
spoilt slot x = slice_set slot x (bit_xor (slice_index slot x) 1)

-- the receiver is storing and cannot miss a packet; its age has already grown
abbrev pub is_bound : ℕ → Memory → Bool
is_bound lines m = m.storing && not (nat_le m.age lines)

-- a receiver that misses what it may miss takes the item from the packet
abbrev pub takes : ℕ → Selection → Item → Memory → Packet → Bool
takes lines sel TheHead m packet = heads_matched sel packet
takes lines sel (TheRow r) m packet = carries (selected_mag sel) (TheRow r) packet && is_bound lines m
takes lines sel TheLinks m packet = carries (selected_mag sel) TheLinks packet && is_bound lines m

-- the byte of the item's first character; links are not received wrong
abbrev pub first_byte : Item → ℕ
first_byte TheHead = 10
first_byte (TheRow r) = 2
first_byte TheLinks = 0

-- whether a slot is received with a wrong bit
abbrev pub is_received_wrong : ℕ → Selection → Item → Memory → List ℕ → Bool
is_received_wrong lines sel TheHead m slot = takes lines sel TheHead (older m) (packet_of slot)
is_received_wrong lines sel (TheRow r) m slot = takes lines sel (TheRow r) (older m) (packet_of slot)
is_received_wrong lines sel TheLinks m slot = false

-- how a slot is received: the item's first character with a wrong bit where it would be taken; links as they are sent
abbrev pub heard : ℕ → Selection → Item → Memory → List ℕ → List ℕ
heard lines sel item m slot = if is_received_wrong lines sel item m slot then spoilt slot (first_byte item) else slot

-- the memory after one slot, with every choice taken
abbrev pub careful_after : ℕ → Selection → Memory → List ℕ → Memory
careful_after lines sel m slot = after Any lines sel true (older m) (packet_of slot)

-- the memory after n slots from slot tau on
unfoldable pub starved_memory : ℕ → Selection → Item → Stream → ℤ → Memory → ℕ → Memory
starved_memory lines sel item s tau former zero = former
starved_memory lines sel item s tau former (suc n) =
    let m = starved_memory lines sel item s tau former n in
    careful_after lines sel m (heard lines sel item m (s (tau +ℤ pos n)))

-- how these slots are received
unfoldable pub starved_slots : ℕ → Selection → Item → Stream → ℤ → Memory → ℕ → List (List ℕ)
starved_slots lines sel item s tau former zero = []
starved_slots lines sel item s tau former (suc n) =
    starved_slots lines sel item s tau former n ++ heard lines sel item (starved_memory lines sel item s tau former n) (s (tau +ℤ pos n)) ∷ []

-- which of n slots are received with a wrong bit
unfoldable pub starved_hits : ℕ → Selection → Item → Stream → ℤ → Memory → ℕ → List ℕ
starved_hits lines sel item s tau former zero = []
starved_hits lines sel item s tau former (suc n) =
    if is_received_wrong lines sel item (starved_memory lines sel item s tau former n) (s (tau +ℤ pos n))
    then starved_hits lines sel item s tau former n ++ n ∷ [] else starved_hits lines sel item s tau former n

-- a bit for each choice that is taken
unfoldable pub starved_choices : ℕ → Selection → Item → Stream → ℤ → Memory → ℕ → List Bool
starved_choices lines sel item s tau former zero = []
starved_choices lines sel item s tau former (suc n) =
    let m = starved_memory lines sel item s tau former n in
    if has_choice Any lines sel (older m) (packet_of (heard lines sel item m (s (tau +ℤ pos n))))
    then starved_choices lines sel item s tau former n ++ true ∷ [] else starved_choices lines sel item s tau former n

-- The slots received are those of the stream, with the item's first byte wrong in the slots that are hit, none of which is empty. A
-- receiver that takes its choices from the script ends with this memory.
pub record IsScripted (lines : ℕ) (sel : Selection) (item : Item) (s : Stream) (tau : ℤ) (former m : Memory) (n : ℕ)
    (received : List (List ℕ)) (hits : List ℕ) (choices : List Bool) : Type 0 where
  pub inside : (t : ℕ) → Contains hits t → t < n
  pub some : (t : ℕ) → Contains hits t → is_empty (s (tau +ℤ pos t)) ≡ false
  pub hit : (t : ℕ) → Contains hits t → slice_index_or received t [] ≡ spoilt (s (tau +ℤ pos t)) (first_byte item)
  pub other : (t : ℕ) → t < n → (Contains hits t → ⊥) → slice_index_or received t [] ≡ s (tau +ℤ pos t)
  pub rising : (i j : ℕ) → i < j → j < length hits → slice_index hits i < slice_index hits j
  pub script : scripted Any lines sel choices former received ≡ m

abbrev pub StarvedIsScripted : Type 0
StarvedIsScripted =
    (lines : ℕ) (sel : Selection) (item : Item) (s : Stream) (tau : ℤ) (former : Memory) (n : ℕ) →
    IsScripted lines sel item s tau former (starved_memory lines sel item s tau former n) n (starved_slots lines sel item s tau former n)
    (starved_hits lines sel item s tau former n) (starved_choices lines sel item s tau former n)

-- A, or B in place of A
abbrev pub other_letter : ℕ → ℕ
other_letter c = if c == 0x41 then 0x42 else 0x41

-- no link in place of a link, and a link to page 00 of magazine 1 in place of no link
abbrev pub other_link : Option Id → Option Id
other_link None = Some (id_at 1 0 0x3f7f)
other_link (Some id) = None

abbrev pub other_six : List (Option Id) → List (Option Id)
other_six [] = None ∷ []
other_six (link ∷ rest) = other_link link ∷ rest

abbrev pub other_links : LinkSet → LinkSet
other_links links = record { six = other_six links.six; show24 = links.show24 }

-- the memory with another letter at a place
abbrev pub with_letter : Memory → ℕ → ℕ → Memory
with_letter m r c = with_row m r (slice_set (memory_row m r) c (other_letter (char_at m r c)))

-- the memory of the page, except for the first character of a row or the first link
abbrev pub wrong_memory : Page → Item → Memory
wrong_memory p TheHead = with_letter (memory_of_page p) 0 8
wrong_memory p (TheRow r) = with_letter (memory_of_page p) r 0
wrong_memory p TheLinks = record (memory_of_page p) { links = other_links p.links }

abbrev pub HoldsWrong : Page → Memory → Item → Type 0
HoldsWrong p m TheHead = char_at m 0 8 ≡ other_letter (slice_index p.head 0)
HoldsWrong p m (TheRow r) = char_at m r 0 ≡ other_letter (slice_index (page_row p r) 0)
HoldsWrong p m TheLinks = m.links ≡ other_links p.links

-- The n slots from slot tau on are received within the error rule, and the receiver's memory is the page's except for the item.
pub record IsStarved (s : Stream) (p : Page) (sel : Selection) (lines repeat : ℕ) (item : Item) (tau : ℤ) (n : ℕ)
    (former m : Memory) (received : List (List ℕ)) : Type 0 where
  pub is_former : IsFormer Any former
  pub size : length received ≡ n
  pub permitted : Received s p.id repeat tau received
  pub run : Run Any lines sel former received m
  pub control : m.control ≡ p.control
  pub others : (other : Item) → other ≢ item → needed p other ≡ true → Holds p m other
  pub wrong : HoldsWrong p m item

-- If no sure run of an item comes between slot tau and n slots later, a receiver that has the item wrong once is starved of it.
abbrev pub StarvedStaysWrong : Type 0
StarvedStaysWrong =
    (s : Stream) (p : Page) (sel : Selection) (lines repeat : ℕ) (item : Item) (tau : ℤ) (n : ℕ) →
    IsPage p → lines ≤ 32 → 1 ≤ repeat → matches sel p.id ≡ true → IsSteadyFrom s p sel tau → needed p item ≡ true →
    (IsSent s p.id lines repeat item tau (tau +ℤ pos n) → ⊥) →
    let former = wrong_memory p item in
    IsStarved s p sel lines repeat item tau n former (starved_memory lines sel item s tau former n) (starved_slots lines sel item s tau former n)
