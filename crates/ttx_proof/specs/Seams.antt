-- How the seam of a page is found: only if the old cycle leaves its magazine to the page, and before the new cycle's first header of it.
--
--   IsLeftTo                the latest header of the magazine before slot 0 is one of the page
--   TellsLatest, AreLatest  the place of the latest header of a magazine in the old cycle; of all eight
--   IsWrongAs, IsWrongSlot  a slot that carries a needed item and differs from the page
--   StandsFirst             a slot of a kind before the first header of a magazine
--   HangsOver, TellsOver    such a slot before the first new header of the magazine; the first of them
--   SeamsAreLeft            this is the seam of a page
use Rattle.std.specs.Prelude.{◌≡◌, ◌↔◌, ℕ, ◌-◌, ◌<◌, ◌≤◌, List, length, get_or, Option, Some, None, ℤ, pos, negsuc, ◌<ℤ◌, ◌≤ℤ◌, true, false}
use Rattle.ttx_header.specs.Ids.{Id}
use Rattle.ttx_page.specs.Packets.{packet_of}
use Rattle.ttx_page.specs.Pages.{Page, needed}
use Rattle.ttx_page.specs.declared.item.Item.{Item}
use Rattle.ttx_page.specs.Streams.{Stream, repeated, heads, heads_page, carries, IsLatestHeader}
use Rattle.ttx_page.specs.Steady.{IsTrueTo}
use Rattle.ttx_proof.specs.Splices.{Splice, SeamAt}

pub record IsLeftTo (old : Stream) (page : Id) : Type 0 where
  pub owner : ℤ
  pub latest : IsLatestHeader old page.mag owner (pos 0)
  pub mine : heads_page page (packet_of (old owner)) ≡ true

-- the number of slots before the last one of the period; None if the cycle has no header of the magazine
abbrev pub TellsLatest : List (List ℕ) → ℕ → Option ℕ → Type 0
TellsLatest cycle mag None = (h : ℤ) → IsLatestHeader (repeated cycle) mag h (pos 0) → ⊥
TellsLatest cycle mag (Some back) = (back < length cycle) × IsLatestHeader (repeated cycle) mag (negsuc back) (pos 0)

abbrev pub AreLatest : List (List ℕ) → List (Option ℕ) → Type 0
AreLatest cycle latest = (mag : ℕ) → 1 ≤ mag → mag ≤ 8 → TellsLatest cycle mag (get_or latest (mag - 1) None)

-- the slot carries the item, a viewer sees the item, and the slot differs from the page
abbrev pub IsWrongAs : Page → List ℕ → Item → Type 0
IsWrongAs p slot item = (needed p item ≡ true) × (carries p.id.mag item (packet_of slot) ≡ true) × (IsTrueTo p item slot → ⊥)

abbrev pub IsWrongSlot : Page → List ℕ → Type 0
IsWrongSlot p slot = (item : Item) × IsWrongAs p slot item

-- slot j is such, from slot 0 on, and no header of the magazine stands before it
pub record StandsFirst (t : Stream) (mag : ℕ) (Is : List ℕ → Type 0) (j : ℤ) : Type 0 where
  pub not_before : pos 0 ≤ℤ j
  pub no_header : (i : ℤ) → pos 0 ≤ℤ i → i <ℤ j → heads mag (packet_of (t i)) ≡ false
  pub such : Is (t j)

abbrev pub HangsOver : Stream → Page → ℤ → Type 0
HangsOver new p j = StandsFirst new p.id.mag (IsWrongSlot p) j

-- the first such slot; None if there is none
abbrev pub TellsOver : Stream → Page → Option ℕ → Type 0
TellsOver new p None = (j : ℤ) → HangsOver new p j → ⊥
TellsOver new p (Some slot) = HangsOver new p (pos slot) × ((i : ℕ) → i < slot → HangsOver new p (pos i) → ⊥)

abbrev pub SeamsAreLeft : Type 0
SeamsAreLeft = (c : Splice) (p : Page) (j : ℤ) → SeamAt c p j ↔ (IsLeftTo (repeated c.old) p.id × HangsOver (repeated c.new) p j)
