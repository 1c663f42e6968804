-- The service of a cycle (profile), and why a cycle has no service text.
--
--   IsOfPages, AreOfPages    a header is a listed page's, or a time-filling one; each header is
--   IsSentOften    how often a page is sent that has so many headers
--   IsSentService           the service says what the cycle sends first
--   AreSteady, IsExtract    its pages are sent unchanged; the service of the cycle's text
--   IsFirstReason           the reason of the first page that isn't sent unchanged
--   UnlikeHeads, UnlikeRows, UnlikeLinks, Differs   two packets of an item with different contents
--   IsUnlikeFirst           an item's first slot, and one that differs from it
--   NamesItem, IsConflict   the item of a reason; the same for the reason of the first page that isn't sent unchanged
--   IsBlamed                that reason, if no two slots differ
--   IsMinusZero, HasOffset  the first packet 8/30 has an offset that no text can have; it has none such
--   IsWritten, IsSaid       the offset and the ids are such as a service has; the text of what the cycle sends says just that
--   IsNotSaid               why the text does not
--   Blames, AnswersFault    why pages aren't sent unchanged; why there is no text
--   Extracts                what is returned for a cycle and lines of a field
use Rattle.std.specs.Prelude.{◌≡◌, ◌⊎◌, ℕ, ◌<◌, ◌≤◌, pos, unsigned_abs, true, List, [], take, length, Contains, slice_get, slice_index_or}
use Rattle.std.specs.Prelude.{string_bytes, ⊤, Some, None, Result, Ok, Err}
use Rattle.ttx_header.specs.Ids.{Id}
use Rattle.ttx_info.specs.Infos.{InfoFields}
use Rattle.ttx_page.specs.Packets.{Packet, Header, Row, Links, packet_of}
use Rattle.ttx_page.specs.Pages.{Page}
use Rattle.ttx_page.specs.declared.item.Item.{Item}
use Rattle.ttx_page.specs.declared.item.Item.TheVariants.{Head as TheHead, Row as TheRow, Links as TheLinks}
use Rattle.ttx_page.specs.Streams.{repeated, IsTransmission}
use Rattle.ttx_page.specs.Steady.{Steady}
use Rattle.ttx_source.specs.Services.{ServiceFields, Authored, IsService, pages_of, authored_ids}
use Rattle.ttx_witness.specs.sent.ItemTransmissions.{sent_in}
use Rattle.ttx_witness.specs.faults.Faults.{IsPageFault}
use Rattle.ttx_witness.specs.declared.runs.transmissions.Transmission.{Transmission}
use Rattle.ttx_witness.specs.declared.faults.reason.Reason.{Reason as WitnessReason}
use Rattle.ttx_witness.specs.declared.faults.reason.Reason.TheVariants.{HeadDiffers, RowDiffers, LinksDiffer}
use Rattle.ttx_certify.specs.CertifyingFiles.{IsServiceText}
use Rattle.ttx_extract.specs.Often.{often_for}
use Rattle.ttx_extract.specs.FirstPackets.{slot_info, first_info, first_serial}
use Rattle.ttx_extract.specs.FirstSent.{IsSentPage, AreInOrder}
use Rattle.ttx_extract.specs.NamedPages.{named}
use Rattle.ttx_extract.specs.Naming.{IsNamingFault}
use Rattle.ttx_extract.specs.Drafts.{sent_draft}
use Rattle.ttx_extract.specs.Made.{IsNotMade}
use Rattle.ttx_extract.specs.ServiceTexts.{service_text}
use Rattle.ttx_extract.specs.declared.extraction.Extracted.{Extracted}
use Rattle.ttx_extract.specs.declared.faults.ExtractFault.{ExtractFault}
use Rattle.ttx_extract.specs.declared.faults.ExtractFault.TheVariants.{Conflict, Reason, Info, Service, TooLong, Unsaid, NoMemory}

-- page number FF is time-filling (EN 300 706, 9.3.1)
abbrev pub IsOfPages : List Id → Packet → Type 0
IsOfPages ids (Header id control text) = (id.page ≡ 255) ⊎ Contains ids id
IsOfPages ids packet = ⊤

abbrev pub AreOfPages : List Id → List (List ℕ) → Type 0
AreOfPages ids slots = (n : ℕ) (slot : List ℕ) → slice_get slots n ≡ Some slot → IsOfPages ids (packet_of slot)

abbrev pub AreSteady : List (List ℕ) → ServiceFields → Type 0
AreSteady slots service = (n : ℕ) (p : Page) → slice_get (pages_of service) n ≡ Some p → Steady (repeated slots) (pages_of service) p

-- as often as it has headers in a period
abbrev pub IsSentOften : List (List ℕ) → ℕ → Authored → Type 0
IsSentOften slots lines a = a.often ≡ often_for (length (sent_in slots a.page.id lines TheHead))

-- The service says what the cycle sends first: these lines, C11 of the first header, the first packet 8/30, and the pages that headers
-- name, in the order of their first headers; each page has the first transmission of each item, and as many headers as `often` says.
pub record IsSentService (slots : List (List ℕ)) (lines : ℕ) (service : ServiceFields) : Type 0 where
  pub ranges : IsService service
  pub lines_are : service.lines ≡ lines
  pub serial : service.serial ≡ first_serial slots
  pub info : service.info ≡ first_info slots
  pub listed : AreOfPages (authored_ids service.pages) slots
  pub in_order : AreInOrder slots lines (pages_of service)
  pub pages : (n : ℕ) (p : Page) → slice_get (pages_of service) n ≡ Some p → IsSentPage slots lines p
  pub often : (n : ℕ) (a : Authored) → slice_get service.pages n ≡ Some a → IsSentOften slots lines a

-- and each of its pages is sent unchanged
pub record IsExtract (slots : List (List ℕ)) (lines : ℕ) (service : ServiceFields) : Type 0 where
  pub sent : IsSentService slots lines service
  pub steady : AreSteady slots service

-- headers with other control bits or characters 8 to 31
abbrev pub UnlikeHeads : Packet → Packet → Type 0
UnlikeHeads (Header a control text) (Header b other bytes) = (control ≡ other) × (take 24 text ≡ take 24 bytes) → ⊥
UnlikeHeads a b = ⊥

-- rows with other characters
abbrev pub UnlikeRows : Packet → Packet → Type 0
UnlikeRows (Row a m text) (Row b n bytes) = text ≡ bytes → ⊥
UnlikeRows a b = ⊥

-- X/27/0 with other links, or one of them has a byte that can't be read
abbrev pub UnlikeLinks : Packet → Packet → Type 0
UnlikeLinks (Links a content) (Links b other) = content ≡ other → ⊥
UnlikeLinks a b = ⊥

abbrev pub Differs : Packet → Packet → Type 0
Differs a b = UnlikeHeads a b ⊎ UnlikeRows a b ⊎ UnlikeLinks a b

-- The service that says what is sent first has a page with this reason, and each page before it is sent unchanged.
pub record IsFirstReason (slots : List (List ℕ)) (lines : ℕ) (page : Id) (reason : WitnessReason) : Type 0 where
  pub service : ServiceFields
  pub sent : IsSentService slots lines service
  pub place : ℕ
  pub fields : Page
  pub here : slice_get (pages_of service) place ≡ Some fields
  pub page_is : page ≡ fields.id
  pub fault : IsPageFault slots (pages_of service) fields (Some reason)
  pub earlier : (n : ℕ) (p : Page) → n < place → slice_get (pages_of service) n ≡ Some p → Steady (repeated slots) (pages_of service) p

-- the reason names a slot of this item
abbrev pub NamesItem : WitnessReason → Item → ℕ → Type 0
NamesItem (HeadDiffers page slot) item other = (item ≡ TheHead) × (slot ≡ other)
NamesItem (RowDiffers page slot) (TheRow r) other = slot ≡ other
NamesItem (LinksDiffer page slot) item other = (item ≡ TheLinks) × (slot ≡ other)
NamesItem reason item other = ⊥

-- slot a is the item's first in the period, and slot b sends something else
pub record IsUnlikeFirst (slots : List (List ℕ)) (lines : ℕ) (page : Id) (item : Item) (a b : ℕ) : Type 0 where
  pub transmission : Transmission
  pub is_first : slice_get (sent_in slots page lines item) 0 ≡ Some transmission
  pub slot_is : a ≡ unsigned_abs transmission.slot
  pub sent : IsTransmission (repeated slots) page item (pos a)
  pub first_within : a < length slots
  pub second_within : b < length slots
  pub differ : Differs (packet_of (repeated slots (pos a))) (packet_of (repeated slots (pos b)))

-- the first page that isn't sent unchanged, and the item and the slot b of its reason, which differs from the item's first slot a
pub record IsConflict (slots : List (List ℕ)) (lines : ℕ) (page : Id) (item : Item) (a b : ℕ) : Type 0 where
  pub reason : WitnessReason
  pub blamed : IsFirstReason slots lines page reason
  pub names : NamesItem reason item b
  pub second : IsTransmission (repeated slots) page item (pos b)
  pub unlike : IsUnlikeFirst slots lines page item a b

-- the first page that isn't sent unchanged, and its reason; a slot of this reason says what the item's first slot says
pub record IsBlamed (slots : List (List ℕ)) (lines : ℕ) (reason : WitnessReason) : Type 0 where
  pub page : Id
  pub blamed : IsFirstReason slots lines page reason
  pub alike : (item : Item) (a b : ℕ) → NamesItem reason item b → IsTransmission (repeated slots) page item (pos b) →
      IsUnlikeFirst slots lines page item a b → ⊥

-- the slot has the first packet 8/30 format 1, with a negative offset of no half-hours
pub record IsMinusZero (slots : List (List ℕ)) (slot : ℕ) : Type 0 where
  pub fields : InfoFields
  pub within : slot < length slots
  pub here : slot_info (slice_index_or slots slot []) ≡ Some fields
  pub none_before : (n : ℕ) → n < slot → slot_info (slice_index_or slots n []) ≡ None
  pub none : fields.halves ≡ 0
  pub negative : fields.west ≡ true

-- the offset of the first packet 8/30, if there is one, is no minus zero
abbrev pub HasOffset : List (List ℕ) → Type 0
HasOffset slots = (fields : InfoFields) → first_info slots ≡ Some fields → fields.halves ≡ 0 → fields.west ≡ true → ⊥

-- the pages that headers name can be those of a service, and so can the offset
pub record IsWritten (slots : List (List ℕ)) : Type 0 where
  pub offset : HasOffset slots
  pub few : length (named slots) ≤ 2000
  pub subs : (n : ℕ) (id : Id) → slice_get (named slots) n ≡ Some id → id.sub ≡ 0x3f7f → ⊥

-- the text of what the cycle sends says just that
pub record IsSaid (slots : List (List ℕ)) (lines : ℕ) : Type 0 where
  pub written : IsWritten slots
  pub says : IsServiceText (service_text (sent_draft slots lines)) (sent_draft slots lines)

-- the text of what the cycle sends is too long, or no service definition, or says something else
abbrev pub IsNotSaid : List (List ℕ) → ℕ → ExtractFault → Type 0
IsNotSaid slots lines fault = IsWritten slots × IsNotMade (sent_draft slots lines) fault

-- the first page that isn't sent unchanged: two slots that differ, or its reason
abbrev pub Blames : List (List ℕ) → ℕ → ExtractFault → Type 0
Blames slots lines (Conflict page item first second) = IsConflict slots lines page item first second
Blames slots lines (Reason reason) = IsBlamed slots lines reason
Blames slots lines fault = ⊥

-- why there is no text; of these answers, except lack of memory, at most one is true, and none if there is a text
abbrev pub AnswersFault : List (List ℕ) → ℕ → ExtractFault → Type 0
AnswersFault slots lines (Info slot) = IsMinusZero slots slot
AnswersFault slots lines (Service error) = (HasOffset slots × IsNamingFault (named slots) (Service error)) ⊎ IsNotSaid slots lines (Service error)
AnswersFault slots lines TooLong = IsNotSaid slots lines TooLong
AnswersFault slots lines Unsaid = IsNotSaid slots lines Unsaid
AnswersFault slots lines NoMemory = ⊤
AnswersFault slots lines fault = IsSaid slots lines × Blames slots lines fault

abbrev pub Extracts : List (List ℕ) → ℕ → Result Extracted ExtractFault → Type 0
Extracts slots lines (Ok extracted) = IsServiceText (string_bytes extracted.text) extracted.service × IsExtract slots lines extracted.service
Extracts slots lines (Err fault) = AnswersFault slots lines fault
