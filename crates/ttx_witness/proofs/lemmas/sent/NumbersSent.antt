-- Which item of a page a packet sends.
use Rattle.std.proofs.Common.{◌≡◌, ℕ, ℤ, pos, ◌+ℤ◌, int_lt, Bool, true, false, not, ◌&&◌, ◌==◌, if◌then◌else◌, List, [], ◌∷◌, Option, Some, None}
use Rattle.std.proofs.Common.{refl, sym, ap, ◌∙◌, eqb-true}
use Rattle.std.proofs.lemmas.Bool.{and_parts}
use Rattle.ttx_header.specs.Ids.{Id}
use Rattle.ttx_packet.specs.Slots.{Kind, kind_of}
use Rattle.ttx_page.specs.Packets.{Packet, Empty, Unreadable, Header, Row, Links, Info, Other, packet_of}
use Rattle.ttx_page.specs.declared.item.Item.{Item}
use Rattle.ttx_page.specs.declared.item.Item.TheVariants.{Head as TheHead, Row as TheRow, Links as TheLinks}
use Rattle.ttx_page.specs.Streams.{heads_page, carries}
use Rattle.ttx_witness.specs.declared.runs.transmissions.Transmission.{Transmission}
use Rattle.ttx_witness.specs.sent.Collected.{item_number}
use Rattle.ttx_witness.specs.sent.ItemTransmissions.{PageOwner, sent_under, sent_at}
use Rattle.ttx_witness.specs.faults.Comparing.{is_mine, sends}
use Rattle.ttx_witness.proofs.lemmas.sent.OneSlot.{IsSilent, silent}

abbrev pub some_of : List Transmission → Bool
some_of [] = false
some_of (t ∷ ts) = true

one_if : (t : Transmission) (b : Bool) → some_of (if b then t ∷ [] else []) ≡ b
one_if t true = refl
one_if t false = refl

under_some : (lines : ℕ) (j : ℤ) (o : Option PageOwner) → some_of (sent_under lines j o) ≡ is_mine o
under_some lines j None = refl
under_some lines j (Some o) = one_if (record { slot = j; owner = o.slot; sure = int_lt (o.slot +ℤ pos lines) j && not o.tainted }) o.mine

carried_some : (c : Bool) (ts : List Transmission) (mine : Bool) → some_of ts ≡ mine → some_of (if c then ts else []) ≡ (c && mine)
carried_some true ts mine e = e
carried_some false ts mine e = refl

pub sends_some : (id : Id) (lines : ℕ) (item : Item) (j : ℤ) (packet : Packet) (o : Option PageOwner) →
    some_of (sent_at id lines item j packet o) ≡ sends id item packet (is_mine o)
sends_some id lines TheHead j packet o = go (heads_page id packet)
  where
    go : (b : Bool) → some_of (if b then record { slot = j; owner = j; sure = true } ∷ [] else []) ≡ b
    go true = refl
    go false = refl
sends_some id lines (TheRow r) j packet o = carried_some (carries id.mag (TheRow r) packet) (sent_under lines j o) (is_mine o) (under_some lines j o)
sends_some id lines TheLinks j packet o = carried_some (carries id.mag TheLinks packet) (sent_under lines j o) (is_mine o) (under_some lines j o)

-- a packet of another kind sends nothing
pub silent_number : (slot : List ℕ) (k : Kind) → kind_of slot ≡ k → IsSilent k → (page : Id) (item : Item) (mine : Bool) →
    sends page item (packet_of slot) mine ≡ false
silent_number slot k e s page item mine =
    let o : Option PageOwner = Some (record { slot = pos 0; mine = mine; tainted = false }) in
    sym (sends_some page 0 item (pos 0) (packet_of slot) o) ∙ ap some_of (sym (silent slot k e s [] page 0 item (pos 0) o))

-- the item that is sent has the packet's number
abbrev pub Numbers : Packet → ℕ → Type 0
Numbers (Header id control text) n = n ≡ 0
Numbers (Row mag number text) n = n ≡ number
Numbers (Links mag content) n = n ≡ 25
Numbers packet n = ⊥

pub number_told : (packet : Packet) (n : ℕ) → Numbers packet n → (page : Id) (item : Item) (mine : Bool) → sends page item packet mine ≡ true →
    n ≡ item_number item
number_told (Header id control text) n is page TheHead mine e = is
number_told (Header id control text) n is page (TheRow r) mine e = cc
number_told (Header id control text) n is page TheLinks mine e = cc
number_told (Row mag number text) n is page TheHead mine e = cc
number_told (Row mag number text) n is page (TheRow r) mine e =
    is ∙ eqb-true number r ((and_parts (mag == page.mag) _ (and_parts ((mag == page.mag) && (number == r)) _ e).0).1)
number_told (Row mag number text) n is page TheLinks mine e = cc
number_told (Links mag content) n is page TheHead mine e = cc
number_told (Links mag content) n is page (TheRow r) mine e = cc
number_told (Links mag content) n is page TheLinks mine e = is
number_told Empty n is page item mine e = absurd is
number_told Unreadable n is page item mine e = absurd is
number_told Info n is page item mine e = absurd is
number_told Other n is page item mine e = absurd is
