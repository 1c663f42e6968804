-- Laws of packets X/27/0, for the layers above. Each is proved by the function of its name in `laws`.
--
--   LinksAreKept            wrong bits leave the links and show24 of an exact packet unchanged
--   SaidLinkIsRead, ReadLinkIsSaid, WrittenLinkIsSaid       one link, wherever it is placed
--   SaidLinksAreRead        the packet that 42 bytes encode is the one that is read
--   ReadLinksAreSaid        the packet that is read is one that the 42 bytes encode
--   WrittenLinksAreRead     a written packet is read as the same packet
use Rattle.std.specs.Prelude.{◌≡◌, ℕ, ◌+◌, ◌<◌, ◌≤◌, List, ◌++◌, Option, true, Some, length, slice_index, slice_range}
use Rattle.ttx_code.specs.Words.{Near}
use Rattle.ttx_packet.specs.Slots.{IsSlot, IsLinks, are_readable, kind_of, is_clean}
use Rattle.ttx_header.specs.Ids.{Id}
use Rattle.ttx_links.specs.Sets.{LinkSet, LinksFields, IsLinksFields, IsLink, AreLinks, link_at, link_bytes}
use Rattle.ttx_links.specs.Sets.{SaysLink, SaysLinks, links_of, links_fields, is_exact, links_bytes}

-- a packet X/27/0 whose bytes 3 to 39 are code words keeps its links and show24 if each of them is received with at most one wrong bit
abbrev pub LinksAreKept : Type 0
LinksAreKept =
    (sent received : List ℕ) (mag : ℕ) → IsSlot sent → IsSlot received → is_exact sent ≡ true →
    ((x : ℕ) → 3 ≤ x → x < 40 → Near (slice_index sent x) (slice_index received x)) → links_of mag received ≡ links_of mag sent

-- six readable bytes that encode a link are read as that link
abbrev pub SaidLinkIsRead : Type 0
SaidLinkIsRead =
    (mag : ℕ) (link : Option Id) (s : List ℕ) (k : ℕ) → IsLink link → SaysLink mag link s k → k + 6 ≤ length s →
    (link_at mag s k ≡ link) × (are_readable (slice_range s k (k + 6)) ≡ true)

-- six readable bytes encode the link that is read from them, and it leads nowhere or to a target in range
abbrev pub ReadLinkIsSaid : Type 0
ReadLinkIsSaid =
    (mag : ℕ) (s : List ℕ) (k : ℕ) → IsSlot s → k + 6 ≤ 42 → are_readable (slice_range s k (k + 6)) ≡ true →
    IsLink (link_at mag s k) × SaysLink mag (link_at mag s k) s k

-- the bytes written for a link encode that link, wherever they are placed
abbrev pub WrittenLinkIsSaid : Type 0
WrittenLinkIsSaid =
    (mag : ℕ) (link : Option Id) (before after : List ℕ) → IsLink link → SaysLink mag link (before ++ (link_bytes mag link ++ after)) (length before)

-- 42 bytes that encode a packet of the magazine are read as that packet
abbrev pub SaidLinksAreRead : Type 0
SaidLinksAreRead =
    (mag : ℕ) (f : LinksFields) (s : List ℕ) → IsLinksFields f → AreLinks f.set.six → IsSlot s → SaysLinks mag f s →
    (links_of mag s ≡ Some f.set) × (slice_range s 40 42 ≡ f.crc)

-- a packet whose bytes 3 to 39 are readable encodes what is read from it, and its links lead nowhere or to targets in range
abbrev pub ReadLinksAreSaid : Type 0
ReadLinksAreSaid =
    (mag : ℕ) (s : List ℕ) (set : LinkSet) → IsSlot s → links_of mag s ≡ Some set →
    ((links_fields mag s).set ≡ set) × IsLinksFields (links_fields mag s) × AreLinks set.six × SaysLinks mag (links_fields mag s) s

-- the bytes written for a packet are clean and exact, have the kind links, encode the packet, and are read as the same packet
pub record IsLinksWritten (mag : ℕ) (f : LinksFields) : Type 0 where
  pub kind : kind_of (links_bytes mag f) ≡ IsLinks mag
  pub clean : is_clean (links_bytes mag f) ≡ true
  pub exact : is_exact (links_bytes mag f) ≡ true
  pub says : SaysLinks mag f (links_bytes mag f)
  pub set : links_of mag (links_bytes mag f) ≡ Some f.set

abbrev pub WrittenLinksAreRead : Type 0
WrittenLinksAreRead = (mag : ℕ) (f : LinksFields) → 1 ≤ mag → mag ≤ 8 → IsLinksFields f → AreLinks f.set.six → IsLinksWritten mag f
