-- The laws that planned cycles have accepted certificates.
--
--   AreLinked, IsPlanned    pages with six links that lead to targets; a cycle that carries a service in its ranges
--   IsOwnLinks, PlannedLinksAreOwn      each X/27/0 is under the header of its own page
--   PlannedItemsAreSent     each page has a header, and each item that is sent to receivers of the class is transmitted
--   PlannedIsSteady         each page is sent unchanged
--   IsAcceptedForEach, PlannedIsAccepted    for each repeat count some certificate is accepted
--   PlannedIsFound          and the search finds the least deadline
use Rattle.std.specs.Prelude.{◌≡◌, ℕ, ◌+◌, ◌<◌, ◌≤◌, ℤ, Bool, true, false, List, [], length, slice_get, slice_index_or, Option, Some}
use Rattle.ttx_links.specs.Sets.{LinkSet, is_exact}
use Rattle.ttx_page.specs.declared.class.Class.{Class}
use Rattle.ttx_page.specs.declared.item.Item.{Item}
use Rattle.ttx_page.specs.PageLinks.{HasLinks}
use Rattle.ttx_page.specs.Pages.{Page}
use Rattle.ttx_page.specs.Packets.{Links, packet_of}
use Rattle.ttx_page.specs.Steady.{HasHeader, Steady}
use Rattle.ttx_page.specs.Streams.{repeated, heads, heads_page, IsTransmission}
use Rattle.ttx_plan.specs.Carries.{CarriesAt}
use Rattle.ttx_plan.specs.Contents.{is_sent_to}
use Rattle.ttx_plan.specs.Laws.{IsSaid}
use Rattle.ttx_plan.specs.Ranges.{ArePlaces}
use Rattle.ttx_source.specs.Services.{Authored, ServiceFields, pages_of, IsService}
use Rattle.ttx_witness.specs.Coverage.{Certificate, Accepts}
use Rattle.ttx_witness.specs.search.Finding.{CanBeAccepted, IsFoundFor}

-- each page has six links, which lead to targets
abbrev pub AreLinked : List Authored → Type 0
AreLinked pages = (i : ℕ) (authored : Authored) → slice_get pages i ≡ Some authored → HasLinks authored.page

-- 1 to 65,536 slots that carry a service in its ranges, each page at a place in range
pub record IsPlanned (late : Bool) (class : Class) (service : ServiceFields) (cycle : List (List ℕ)) : Type 0 where
  pub service_is : IsService service
  pub said : IsSaid service.info
  pub linked : AreLinked service.pages
  pub places : List ℕ
  pub in_range : ArePlaces places service.pages
  pub carries : CarriesAt places late class service cycle
  pub some : 1 ≤ length cycle
  pub few : length cycle ≤ 65536

-- The X/27/0 in slot n has the links of a page of the list, in code words. The page's header is the latest of the magazine, more than a
-- field before slot n.
pub record IsOwnLinks (pages : List Authored) (cycle : List (List ℕ)) (lines n mag : ℕ) (content : Option LinkSet) : Type 0 where
  pub index : ℕ
  pub authored : Authored
  pub listed : slice_get pages index ≡ Some authored
  pub mag_is : mag ≡ authored.page.id.mag
  pub content_is : content ≡ Some authored.page.links
  pub exact : is_exact (slice_index_or cycle n []) ≡ true
  pub header : ℕ
  pub later : header + lines < n
  pub is_header : heads_page authored.page.id (packet_of (slice_index_or cycle header [])) ≡ true
  pub none_between : (i : ℕ) → header < i → i < n → heads mag (packet_of (slice_index_or cycle i [])) ≡ false

-- this holds for each X/27/0 in a planned cycle
abbrev pub PlannedLinksAreOwn : Type 0
PlannedLinksAreOwn = (late : Bool) (class : Class) (service : ServiceFields) (cycle : List (List ℕ)) → IsPlanned late class service cycle →
    (n : ℕ) → n < length cycle → (mag : ℕ) (content : Option LinkSet) → packet_of (slice_index_or cycle n []) ≡ Links mag content →
    IsOwnLinks service.pages cycle service.lines n mag content

-- the page has a header, and each item that is sent to receivers of the class is transmitted under it
pub record IsTransmitted (class : Class) (cycle : List (List ℕ)) (p : Page) : Type 0 where
  pub header : HasHeader (repeated cycle) p.id
  pub items : (item : Item) → is_sent_to class p item ≡ true → (j : ℤ) × IsTransmission (repeated cycle) p.id item j

abbrev pub PlannedItemsAreSent : Type 0
PlannedItemsAreSent = (late : Bool) (class : Class) (service : ServiceFields) (cycle : List (List ℕ)) → IsPlanned late class service cycle →
    (n : ℕ) (p : Page) → slice_get (pages_of service) n ≡ Some p → IsTransmitted class cycle p

abbrev pub PlannedIsSteady : Type 0
PlannedIsSteady = (late : Bool) (class : Class) (service : ServiceFields) (cycle : List (List ℕ)) → IsPlanned late class service cycle →
    (n : ℕ) (p : Page) → slice_get (pages_of service) n ≡ Some p → Steady (repeated cycle) (pages_of service) p

-- some certificate for receivers of the class, with the service's lines, is accepted for each repeat count
abbrev pub IsAcceptedForEach : Class → ServiceFields → List (List ℕ) → Type 0
IsAcceptedForEach class service cycle = (repeat : ℕ) → 1 ≤ repeat → repeat ≤ 8 →
    CanBeAccepted cycle (pages_of service) class service.lines repeat 1000000

abbrev pub PlannedIsAccepted : Type 0
PlannedIsAccepted = (late : Bool) (class : Class) (service : ServiceFields) (cycle : List (List ℕ)) → IsPlanned late class service cycle →
    IsAcceptedForEach class service cycle

-- the certificate that is found is accepted, and none with a smaller deadline is
pub record IsLeastFound (cycle : List (List ℕ)) (pages : List Page) (w : Certificate) (answer : Option ℕ) : Type 0 where
  pub deadline : ℕ
  pub is : answer ≡ Some deadline
  pub same : w.deadline ≡ deadline
  pub accepted : Accepts cycle pages w
  pub least : (e : ℕ) → CanBeAccepted cycle pages w.class w.lines w.repeat e → deadline ≤ e

abbrev pub PlannedIsFound : Type 0
PlannedIsFound = (late : Bool) (class : Class) (service : ServiceFields) (cycle : List (List ℕ)) → IsPlanned late class service cycle →
    (repeat : ℕ) → 1 ≤ repeat → repeat ≤ 8 → (w : Certificate) (deadline : Option ℕ) →
    IsFoundFor cycle (pages_of service) repeat service.lines class w deadline → IsLeastFound cycle (pages_of service) w deadline
