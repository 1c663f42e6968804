-- Laws of pages, receivers and streams, for the layers above. Each is proved by the function of its name in `laws`.
--
--   PagesKeepTheirRules, PagesHaveSixLinks, PagesHaveLinks, MemoriesKeepTheirRules          the values of the program are in range
--   BlankIsFormer, PageIsShown, ErasedHoldsBlank, BlankIsTested             blank memories, the memory of a page, cleared memories
--   EachListRuns, RunsGoOn, ScriptedRuns, ChoicesAreChoices         receivers have runs; where a choice matters
--   ExactIsReceived         reception without errors is within the error rule
--   IsSameOn, Turn, CyclesRepeat, EachSlotTurns, JoinedIsOldThenNew         the period of a cycle's stream
--   Moves, StreamsMove      owners, transmissions and runs of a stream that is the same a number of slots on
--   OwnersAreUnique, OwnersComeFirst, OwnersAreNear, OwnersDontFall         owners of packets
--   RunsAreUnique, RunsRise         runs from a slot
--   NoHeaderIsNone          reason 2 is true if and only if there is no header of the page
--   SteadySendsItsOwn       no reason is true if and only if the page's own contents are sent
use Rattle.std.specs.Prelude.{◌≡◌, ◌↔◌, ℕ, zero, suc, ◌<◌, ◌≤◌, ℤ, pos, ◌+ℤ◌, ◌-ℤ◌, ◌<ℤ◌, ◌≤ℤ◌, Bool, true, false, List, [], ◌∷◌, ◌++◌, length}
use Rattle.std.specs.List.{AllByRecursion}
use Rattle.ttx_packet.specs.Slots.{IsSlot}
use Rattle.ttx_header.specs.Ids.{Id}
use Rattle.ttx_page.specs.declared.page.Page.{Page as PageValue}
use Rattle.ttx_page.specs.declared.memory.PageMemory.{PageMemory}
use Rattle.ttx_page.specs.Packets.{Packet}
use Rattle.ttx_page.specs.PageLinks.{HasLinks}
use Rattle.ttx_page.specs.Pages.{Page, IsPage, Selection, Class, Item, needed, IsBlank, is_blank}
use Rattle.ttx_page.specs.Memories.{Memory, IsMemory, IsFormer, blank_memory, memory_of_page, Holds, Shows}
use Rattle.ttx_page.specs.Receivers.{after, erased, Step, Run, has_choice, scripted}
use Rattle.ttx_page.specs.Streams.{Stream, turned, repeated, joined, IsLatestHeader, IsOwned, IsTransmission}
use Rattle.ttx_page.specs.Streams.{IsSure, IsRun, EndsBelow, HasSureRun, IsSent}
use Rattle.ttx_page.specs.Receptions.{Received}
use Rattle.ttx_page.specs.Steady.{HasHeader, HasNoHeader, Steady, SendsItsOwn}
use Rattle.ttx_page.specs.Views.{page_of, memory_of}

-- the fields of every page and every memory of the program are in their ranges
abbrev pub PagesKeepTheirRules : Type 0
PagesKeepTheirRules = (p : PageValue) → IsPage (page_of p)

abbrev pub PagesHaveSixLinks : Type 0
PagesHaveSixLinks = (p : PageValue) → length (page_of p).links.six ≡ 6

abbrev pub PagesHaveLinks : Type 0
PagesHaveLinks = (p : PageValue) → HasLinks (page_of p)

abbrev pub MemoriesKeepTheirRules : Type 0
MemoriesKeepTheirRules = (m : PageMemory) → IsMemory (memory_of m)

-- a blank memory is a former memory for both classes
abbrev pub BlankIsFormer : Type 0
BlankIsFormer = (class : Class) → IsFormer class blank_memory

-- the memory of a page that was received whole shows that page
abbrev pub PageIsShown : Type 0
PageIsShown = (p : Page) → IsPage p → Shows p (memory_of_page p)

-- a cleared memory holds the blank items
abbrev pub ErasedHoldsBlank : Type 0
ErasedHoldsBlank = (p : Page) (m : Memory) (item : Item) → IsMemory m → needed p item ≡ true → IsBlank p item → Holds p (erased m) item

-- the test for blank items is true exactly for blank items
abbrev pub BlankIsTested : Type 0
BlankIsTested = (p : Page) (item : Item) → IsPage p → length p.links.six ≡ 6 → needed p item ≡ true → is_blank p item ≡ true ↔ IsBlank p item

-- over every list of slots a receiver has a run
abbrev pub EachListRuns : Type 0
EachListRuns = (class : Class) (lines : ℕ) (sel : Selection) (m : Memory) (received : List (List ℕ)) →
    (new : Memory) × Run class lines sel m received new

-- a run can be extended by one slot, by a step with the same settings
abbrev pub RunsGoOn : Type 0
RunsGoOn = (class class' : Class) (lines lines' : ℕ) (sel sel' : Selection) (m mid new : Memory) (received : List (List ℕ)) (slot : List ℕ) →
    class' ≡ class → lines' ≡ lines → sel' ≡ sel → Run class lines sel m received mid → Step class' lines' sel' mid slot new →
    Run class lines sel m (received ++ slot ∷ []) new

-- a receiver that takes its choices from a script makes a run
abbrev pub ScriptedRuns : Type 0
ScriptedRuns = (class : Class) (lines : ℕ) (sel : Selection) (script : List Bool) (m : Memory) (received : List (List ℕ)) →
    Run class lines sel m received (scripted class lines sel script m received)

-- where a receiver has no choice, its answer makes no difference
abbrev pub ChoicesAreChoices : Type 0
ChoicesAreChoices = (class : Class) (lines : ℕ) (sel : Selection) (m : Memory) (packet : Packet) → has_choice class lines sel m packet ≡ false →
    after class lines sel true m packet ≡ after class lines sel false m packet

-- n slots as they are sent, from slot tau on
abbrev pub sent_from : Stream → ℤ → ℕ → List (List ℕ)
sent_from s tau zero = []
sent_from s tau (suc n) = s tau ∷ sent_from s (tau +ℤ pos 1) n

-- what is sent may be received as sent, whatever the repeat count
abbrev pub ExactIsReceived : Type 0
ExactIsReceived = (s : Stream) (page : Id) (repeat : ℕ) (tau : ℤ) (n : ℕ) → ((j : ℤ) → IsSlot (s j)) → 1 ≤ repeat →
    Received s page repeat tau (sent_from s tau n)

-- the stream is the same d slots on
abbrev pub IsSameOn : Stream → ℤ → Type 0
IsSameOn s d = (i : ℤ) → s (i +ℤ d) ≡ s i

abbrev pub CyclesRepeat : Type 0
CyclesRepeat = (cycle : List (List ℕ)) → 0 < length cycle → IsSameOn (repeated cycle) (pos (length cycle))

-- slot i of a stream of period n is a whole number of periods after its place in the first period
pub record Turn (n : ℕ) (i : ℤ) : Type 0 where
  pub inside : turned n i < n
  pub by : ℤ
  pub place : i ≡ pos (turned n i) +ℤ by
  pub same : (j : ℤ) → turned n (j +ℤ by) ≡ turned n j

abbrev pub EachSlotTurns : Type 0
EachSlotTurns = (n : ℕ) (i : ℤ) → 0 < n → Turn n i

-- a joined stream is the old cycle below slot 0 and the new cycle from slot 0 on
abbrev pub JoinedIsOldThenNew : Type 0
JoinedIsOldThenNew = (old new : List (List ℕ)) (i : ℤ) →
    (i <ℤ pos 0 → joined old new i ≡ repeated old i) × (pos 0 ≤ℤ i → joined old new i ≡ repeated new i)

-- if a stream is the same d slots on, then so are its owners, transmissions and runs
pub record Moves (s : Stream) (d : ℤ) : Type 0 where
  pub back : IsSameOn s (pos 0 -ℤ d)
  pub latest : (mag : ℕ) (h j : ℤ) → IsLatestHeader s mag h j → IsLatestHeader s mag (h +ℤ d) (j +ℤ d)
  pub owned : (page : Id) (item : Item) (h j : ℤ) → IsOwned s page item h j → IsOwned s page item (h +ℤ d) (j +ℤ d)
  pub sure : (lines mag : ℕ) (item : Item) (h j : ℤ) → IsSure s lines mag item h j → IsSure s lines mag item (h +ℤ d) (j +ℤ d)
  pub transmission : (page : Id) (item : Item) (j : ℤ) → IsTransmission s page item j → IsTransmission s page item (j +ℤ d)
  pub run : (page : Id) (lines repeat : ℕ) (item : Item) (first : ℤ) →
      HasSureRun s page lines repeat item first → HasSureRun s page lines repeat item (first +ℤ d)
  pub ends : (page : Id) (repeat : ℕ) (item : Item) (first end : ℤ) →
      EndsBelow s page repeat item first end → EndsBelow s page repeat item (first +ℤ d) (end +ℤ d)
  pub sent : (page : Id) (lines repeat : ℕ) (item : Item) (begin end : ℤ) →
      IsSent s page lines repeat item begin end → IsSent s page lines repeat item (begin +ℤ d) (end +ℤ d)

abbrev pub StreamsMove : Type 0
StreamsMove = (s : Stream) (d : ℤ) → IsSameOn s d → Moves s d

-- a slot has one owner
abbrev pub OwnersAreUnique : Type 0
OwnersAreUnique = (s : Stream) (page : Id) (item : Item) (h k j : ℤ) → IsOwned s page item h j → IsOwned s page item k j → h ≡ k

-- an owner is not later than its slot
abbrev pub OwnersComeFirst : Type 0
OwnersComeFirst = (s : Stream) (page : Id) (item : Item) (h j : ℤ) → IsOwned s page item h j → h ≤ℤ j

-- in a stream of period n it is less than one period before its slot
abbrev pub OwnersAreNear : Type 0
OwnersAreNear = (s : Stream) (n : ℕ) → 0 < n → IsSameOn s (pos n) → (page : Id) (item : Item) (h j : ℤ) → IsOwned s page item h j → j <ℤ (h +ℤ pos n)

-- a later slot does not have an earlier owner
abbrev pub OwnersDontFall : Type 0
OwnersDontFall = (s : Stream) (page : Id) (item other : Item) (h k i j : ℤ) → i <ℤ j → IsOwned s page item h i → IsOwned s page other k j → h ≤ℤ k

-- there is only one run from a slot
abbrev pub RunsAreUnique : Type 0
RunsAreUnique = (s : Stream) (page : Id) (repeat : ℕ) (item : Item) (first : ℤ) (a b : List ℤ) →
    IsRun s page repeat item first a → IsRun s page repeat item first b → a ≡ b

-- of two runs of an item, the one that starts earlier ends earlier
abbrev pub RunsRise : Type 0
RunsRise = (s : Stream) (page : Id) (repeat : ℕ) (item : Item) (i j : ℤ) (a b : List ℤ) → i <ℤ j →
    IsRun s page repeat item i a → IsRun s page repeat item j b → (end : ℤ) →
    AllByRecursion (λ x. x <ℤ (end +ℤ pos 1)) (j ∷ b) → AllByRecursion (λ x. x <ℤ end) (i ∷ a)

-- no slot is a header of the page if and only if the stream has no such header
abbrev pub NoHeaderIsNone : Type 0
NoHeaderIsNone = (s : Stream) (p : Page) → HasNoHeader s p ↔ (HasHeader s p.id → ⊥)

-- no reason is true if and only if the page's own contents are sent
abbrev pub SteadySendsItsOwn : Type 0
SteadySendsItsOwn = (s : Stream) (pages : List Page) (p : Page) → IsPage p → Steady s pages p ↔ SendsItsOwn s pages p
