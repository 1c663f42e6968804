-- Laws of planned cycles: the clauses of `laws::planned_cycles_keep_their_rules`.
--
--   IsSaid                  the fields of packet 8/30 are in their ranges
--   PlannedIsClean          one wrong bit in each byte makes no other packet of a slot
--   IsOwnHeader, IsHeadOf, PlannedHeadersAreOwn     each header is of a page of the service, or a time-filling one
--   IsOwnRow, PlannedRowsAreOwn     each row is under the header of its own page
--   PlannedIsSure           each transmission of a planned cycle is sure
use Rattle.std.specs.Prelude.{◌≡◌, ◌⊎◌, ℕ, ◌+◌, ◌<◌, ℤ, Bool, true, false, List, [], length, map, take, slice_get, slice_index_or, Option, Some, None}
use Rattle.ttx_code.specs.Words.{odd_byte}
use Rattle.ttx_header.specs.Ids.{Id, is_time_filling}
use Rattle.ttx_info.specs.Infos.{InfoFields, IsInfoFields}
use Rattle.ttx_links.specs.Sets.{IsLink}
use Rattle.ttx_packet.specs.Slots.{is_clean}
use Rattle.ttx_page.specs.declared.class.Class.{Class}
use Rattle.ttx_page.specs.declared.item.Item.{Item}
use Rattle.ttx_page.specs.Pages.{page_row}
use Rattle.ttx_page.specs.Packets.{Header, Row, packet_of}
use Rattle.ttx_page.specs.Streams.{repeated, heads, heads_page, IsOwned, IsSure}
use Rattle.ttx_plan.specs.Carries.{CarriesAt}
use Rattle.ttx_source.specs.Services.{Authored, ServiceFields, IsService}

-- packet 8/30, if there is one, is in its ranges
abbrev pub IsSaid : Option InfoFields → Type 0
IsSaid None = Unit {0}
IsSaid (Some info) = IsInfoFields info × IsLink info.initial

-- each slot of a cycle that carries a service is clean
abbrev pub PlannedIsClean : Type 0
PlannedIsClean =
    (places : List ℕ) (late : Bool) (class : Class) (service : ServiceFields) (cycle : List (List ℕ)) → IsService service → IsSaid service.info →
    CarriesAt places late class service cycle →
    (n : ℕ) → n < length cycle → is_clean (slice_index_or cycle n []) ≡ true

-- a header of a page of the list, with the page's control bits and characters
pub record IsOwnHeader (pages : List Authored) (id : Id) (control : ℕ) (text : List ℕ) : Type 0 where
  pub index : ℕ
  pub authored : Authored
  pub listed : slice_get pages index ≡ Some authored
  pub id_is : id ≡ authored.page.id
  pub control_is : control ≡ authored.page.control
  pub text_is : take 24 text ≡ map odd_byte authored.page.head

abbrev pub IsHeadOf : List Authored → Id → ℕ → List ℕ → Type 0
IsHeadOf pages id control text = (is_time_filling id ≡ true) ⊎ IsOwnHeader pages id control text

-- each header in a cycle that carries a service is of one of its pages, or a time-filling one
abbrev pub PlannedHeadersAreOwn : Type 0
PlannedHeadersAreOwn =
    (places : List ℕ) (late : Bool) (class : Class) (service : ServiceFields) (cycle : List (List ℕ)) → IsService service → IsSaid service.info →
    CarriesAt places late class service cycle →
    (n : ℕ) → n < length cycle → (id : Id) (control : ℕ) (text : List ℕ) → packet_of (slice_index_or cycle n []) ≡ Header id control text →
    IsHeadOf service.pages id control text

-- The row in slot n is that of a page of the list. The page's header is the latest of the magazine, more than a field before slot n.
pub record IsOwnRow (pages : List Authored) (cycle : List (List ℕ)) (lines n mag number : ℕ) (text : List ℕ) : Type 0 where
  pub index : ℕ
  pub authored : Authored
  pub listed : slice_get pages index ≡ Some authored
  pub mag_is : mag ≡ authored.page.id.mag
  pub text_is : text ≡ map odd_byte (page_row authored.page number)
  pub header : ℕ
  pub later : header + lines < n
  pub is_header : heads_page authored.page.id (packet_of (slice_index_or cycle header [])) ≡ true
  pub none_between : (i : ℕ) → header < i → i < n → heads mag (packet_of (slice_index_or cycle i [])) ≡ false

-- this holds for each row in a cycle that carries a service
abbrev pub PlannedRowsAreOwn : Type 0
PlannedRowsAreOwn =
    (places : List ℕ) (late : Bool) (class : Class) (service : ServiceFields) (cycle : List (List ℕ)) → IsService service → IsSaid service.info →
    CarriesAt places late class service cycle →
    (n : ℕ) → n < length cycle → (mag number : ℕ) (text : List ℕ) → packet_of (slice_index_or cycle n []) ≡ Row mag number text →
    IsOwnRow service.pages cycle service.lines n mag number text

-- When a cycle that carries a service repeats, each row and each X/27/0 comes more than a field after its header, and no header between
-- them ends the page.
abbrev pub PlannedIsSure : Type 0
PlannedIsSure =
    (places : List ℕ) (late : Bool) (class : Class) (service : ServiceFields) (cycle : List (List ℕ)) → IsService service → IsSaid service.info →
    CarriesAt places late class service cycle → 0 < length cycle →
    (page : Id) (item : Item) (h j : ℤ) → IsOwned (repeated cycle) page item h j → IsSure (repeated cycle) service.lines page.mag item h j
