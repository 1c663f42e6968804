-- The owner of a page's magazine, slot by slot, and the transmissions of an item that follow from it.
--
--   PageOwner               the latest header of a magazine: its slot, whether it is the page's, and whether a later header has ended its page
--   owner_after, owner_scan the owner after one slot, and after a number of slots
--   owner_moved             the same owner, some slots later
--   sent_at, sent_scan      the transmission in one slot, if there is one, and those in a number of slots
--   sent_after, sent_in     those in the first period of a cycle after another one; those in one period of a cycle
use Rattle.std.specs.Prelude.{ℕ, zero, suc, ℤ, pos, ◌+ℤ◌, ◌-ℤ◌, Bool, true, false, not, ◌&&◌, ◌||◌, if◌then◌else◌, int_lt, List, [], ◌∷◌}
use Rattle.std.specs.Prelude.{◌++◌, length, Option, Some, None}
use Rattle.ttx_header.specs.Ids.{Id}
use Rattle.ttx_page.specs.Packets.{Packet, packet_of}
use Rattle.ttx_page.specs.declared.item.Item.{Item}
use Rattle.ttx_page.specs.declared.item.Item.TheVariants.{Head as TheHead, Row as TheRow, Links as TheLinks}
use Rattle.ttx_page.specs.Streams.{Stream, repeated, heads, heads_page, ends_serial, carries}
use Rattle.ttx_witness.specs.runs.Transmissions.{Transmission}

pub record PageOwner : Type 0 where
  pub slot : ℤ
  pub mine : Bool
  pub tainted : Bool

abbrev pub tainted_by : Bool → Option PageOwner → Option PageOwner
tainted_by ends None = None
tainted_by ends (Some o) = Some (record { slot = o.slot; mine = o.mine; tainted = o.tainted || ends })

-- the owner of the page's magazine after the packet in slot j, and whether it is the page's
abbrev pub owner_after : Id → ℤ → Packet → Option PageOwner → Option PageOwner
owner_after page j packet o =
    if heads page.mag packet then Some (record { slot = j; mine = heads_page page packet; tainted = false })
    else tainted_by (ends_serial page.mag packet) o

unfoldable pub owner_scan : Id → Stream → Option PageOwner → ℕ → Option PageOwner
owner_scan page s entry zero = entry
owner_scan page s entry (suc n) = owner_after page (pos n) (packet_of (s (pos n))) (owner_scan page s entry n)

abbrev pub owner_moved : ℤ → Option PageOwner → Option PageOwner
owner_moved d None = None
owner_moved d (Some o) = Some (record { slot = o.slot +ℤ d; mine = o.mine; tainted = o.tainted })

abbrev pub sent_under : ℕ → ℤ → Option PageOwner → List Transmission
sent_under lines j None = []
sent_under lines j (Some o) = if o.mine then record { slot = j; owner = o.slot; sure = int_lt (o.slot +ℤ pos lines) j && not o.tainted } ∷ [] else []

abbrev pub sent_at : Id → ℕ → Item → ℤ → Packet → Option PageOwner → List Transmission
sent_at page lines TheHead j packet o = if heads_page page packet then record { slot = j; owner = j; sure = true } ∷ [] else []
sent_at page lines (TheRow r) j packet o = if carries page.mag (TheRow r) packet then sent_under lines j o else []
sent_at page lines TheLinks j packet o = if carries page.mag TheLinks packet then sent_under lines j o else []

unfoldable pub sent_scan : Id → ℕ → Item → Stream → Option PageOwner → ℕ → List Transmission
sent_scan page lines item s entry zero = []
sent_scan page lines item s entry (suc n) =
    sent_scan page lines item s entry n ++ sent_at page lines item (pos n) (packet_of (s (pos n))) (owner_scan page s entry n)

-- the owner before slot 0: the one at the end of the period, one period earlier
abbrev pub entry_owner : List (List ℕ) → Id → Option PageOwner
entry_owner cycle page = owner_moved (pos 0 -ℤ pos (length cycle)) (owner_scan page (repeated cycle) None (length cycle))

-- before slot 0 another cycle is sent, or the same one
abbrev pub sent_after : List (List ℕ) → List (List ℕ) → Id → ℕ → Item → List Transmission
sent_after before cycle page lines item = sent_scan page lines item (repeated cycle) (entry_owner before page) (length cycle)

abbrev pub sent_in : List (List ℕ) → Id → ℕ → Item → List Transmission
sent_in cycle page lines item = sent_after cycle cycle page lines item
