-- The headers that follow those of a page in its magazine. Many receivers show what they have stored of a page only when a header
-- of another page number ends it (EN 300 706 leaves open when a page is shown).
--
--   heads_another           a header of the page's magazine with another page number
--   IsFollowed              the next header of the magazine after a header of the page is one of these
--   IsFollowedByAnother     this holds after every header of the page
--   IsFollowedWithin        and the next header comes at most so many slots later
--   IsNeverFollowed         this holds after no header of the page
use Rattle.std.specs.Prelude.{◌≡◌, ℕ, ℤ, pos, ◌+ℤ◌, ◌≤ℤ◌, Bool, true, false, not, ◌&&◌, ◌==◌}
use Rattle.ttx_header.specs.Ids.{Id}
use Rattle.ttx_page.specs.Packets.{Packet, Header, packet_of}
use Rattle.ttx_page.specs.Streams.{Stream, IsLatestHeader, heads_page}

-- a header of the page's magazine with another page number, page FF included
abbrev pub heads_another : Id → Packet → Bool
heads_another page (Header id control text) = (id.mag == page.mag) && not (id.page == page.page)
heads_another page _ = false

-- the next header of the magazine after slot h has another page number
pub record IsFollowed (s : Stream) (page : Id) (h : ℤ) : Type 0 where
  pub slot : ℤ
  pub next : IsLatestHeader s page.mag h slot
  pub another : heads_another page (packet_of (s slot)) ≡ true

-- after each header of the page, the next header of its magazine has another page number
abbrev pub IsFollowedByAnother : Stream → Id → Type 0
IsFollowedByAnother s page = (h : ℤ) → heads_page page (packet_of (s h)) ≡ true → IsFollowed s page h

-- and that header comes at most `gap` slots later
abbrev pub IsFollowedWithin : Stream → Id → ℕ → Type 0
IsFollowedWithin s page gap = (h : ℤ) → heads_page page (packet_of (s h)) ≡ true → (f : IsFollowed s page h) × (f.slot ≤ℤ (h +ℤ pos gap))

-- after no header of the page has the next header of its magazine another page number
abbrev pub IsNeverFollowed : Stream → Id → Type 0
IsNeverFollowed s page = (h : ℤ) → heads_page page (packet_of (s h)) ≡ true → IsFollowed s page h → ⊥
