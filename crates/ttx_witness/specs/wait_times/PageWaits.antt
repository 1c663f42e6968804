-- How long a viewer of a page of a list waits at most, and why there is no deadline (profile). The page is taken alone: the other
-- pages of the list only decide whether it is the only page of its number.
--
--   IsFor                   a certificate with this class, repeat count, lines and deadline
--   ShowsItem, AcceptsPage  an item is covered or left out; the page is steady, and each item that a viewer sees is shown
--   CanShow, CanAccept      some certificate with these numbers shows the item; some accepts the page
--   IsLeast                 the least number for which a property holds, None if there is none
--   Needs                   an item that a viewer sees, and for which no smaller deadline is enough
--   HasNoSureStart          an item that a viewer sees, that a receiver of the class does not hold already, and that has no sure run
--   is_near, is_cut         a transmission at most L slots after its header; a later one that a header of another magazine cuts off
--   AreLosses               how many transmissions a period has, how many of them are near, and how many are cut off
--   IsWait, AreWaits        the wait for a page, and for each page of the list
use Rattle.std.specs.Prelude.{◌≡◌, ◌⊎◌, ℕ, ◌≤◌, pos, ◌+ℤ◌, int_lt, Bool, true, not, ◌&&◌, List, length, filter, slice_get, Option, Some, None}
use Rattle.ttx_header.specs.Ids.{Id}
use Rattle.ttx_page.specs.Pages.{Page, needed}
use Rattle.ttx_page.specs.declared.item.Item.{Item}
use Rattle.ttx_page.specs.declared.class.Class.{Class}
use Rattle.ttx_page.specs.Streams.{repeated}
use Rattle.ttx_page.specs.Steady.{Steady}
use Rattle.ttx_witness.specs.runs.Transmissions.{Transmission}
use Rattle.ttx_witness.specs.sent.ItemTransmissions.{sent_in}
use Rattle.ttx_witness.specs.Coverage.{Certificate, IsCertificate, IsSureStart, IsCovered, IsLeftOut}
use Rattle.ttx_witness.specs.faults.Faults.{IsFirstItem, IsPageFault}
use Rattle.ttx_witness.specs.search.Finding.{is_due}
use Rattle.ttx_witness.specs.declared.wait_times.wait.Losses.{Losses}
use Rattle.ttx_witness.specs.declared.wait_times.wait.PageWait.{PageWait}
use Rattle.ttx_witness.specs.declared.wait_times.wait.Wait.{Wait}
use Rattle.ttx_witness.specs.declared.wait_times.wait.Wait.TheVariants.{Fields, Faulty, Unsure}

pub record IsFor (class : Class) (repeat lines deadline : ℕ) (w : Certificate) : Type 0 where
  pub is : IsCertificate w
  pub same_class : w.class ≡ class
  pub same_repeat : w.repeat ≡ repeat
  pub same_lines : w.lines ≡ lines
  pub same_deadline : w.deadline ≡ deadline

abbrev pub ShowsItem : List (List ℕ) → Page → Certificate → Item → Type 0
ShowsItem cycle p w item = IsCovered cycle p w item ⊎ IsLeftOut cycle p w item

-- what `Accepts` requires of one page
pub record AcceptsPage (cycle : List (List ℕ)) (pages : List Page) (p : Page) (w : Certificate) : Type 0 where
  pub steady : Steady (repeated cycle) pages p
  pub shows : (item : Item) → needed p item ≡ true → ShowsItem cycle p w item

pub record CanShow (cycle : List (List ℕ)) (p : Page) (class : Class) (repeat lines : ℕ) (item : Item) (deadline : ℕ) : Type 0 where
  pub w : Certificate
  pub is : IsFor class repeat lines deadline w
  pub shows : ShowsItem cycle p w item

pub record CanAccept (cycle : List (List ℕ)) (pages : List Page) (p : Page) (class : Class) (repeat lines deadline : ℕ) : Type 0 where
  pub w : Certificate
  pub is : IsFor class repeat lines deadline w
  pub accepts : AcceptsPage cycle pages p w

abbrev pub IsLeast : (ℕ → Type 0) → Option ℕ → Type 0
IsLeast P None = (d : ℕ) → P d → ⊥
IsLeast P (Some d) = P d × ((e : ℕ) → P e → d ≤ e)

pub record Needs (cycle : List (List ℕ)) (p : Page) (class : Class) (repeat lines deadline : ℕ) (item : Item) : Type 0 where
  pub seen : needed p item ≡ true
  pub least : (e : ℕ) → CanShow cycle p class repeat lines item e → deadline ≤ e

pub record HasNoSureStart (cycle : List (List ℕ)) (p : Page) (class : Class) (repeat lines : ℕ) (item : Item) : Type 0 where
  pub due : is_due class p item ≡ true
  pub none : (start : ℕ) → IsSureStart cycle p.id lines repeat item start → ⊥

abbrev pub is_near : ℕ → Transmission → Bool
is_near lines t = not (int_lt (t.owner +ℤ pos lines) t.slot)

abbrev pub is_cut : ℕ → Transmission → Bool
is_cut lines t = int_lt (t.owner +ℤ pos lines) t.slot && not t.sure

pub record AreLosses (cycle : List (List ℕ)) (page : Id) (lines : ℕ) (item : Item) (c : Losses) : Type 0 where
  pub sent : c.sent ≡ length (sent_in cycle page lines item)
  pub near : c.near ≡ length (filter (is_near lines) (sent_in cycle page lines item))
  pub cut : c.cut ≡ length (filter (is_cut lines) (sent_in cycle page lines item))

-- the least deadline with which the page alone is accepted
abbrev pub fields_told : Wait → Option ℕ
fields_told (Fields deadline item) = Some deadline
fields_told wait = None

abbrev pub IsReason : List (List ℕ) → List Page → Page → Class → ℕ → ℕ → Wait → Type 0
IsReason cycle pages p class repeat lines (Fields deadline item) = IsFirstItem (Needs cycle p class repeat lines deadline) item
IsReason cycle pages p class repeat lines (Faulty reason) = IsPageFault cycle pages p (Some reason)
IsReason cycle pages p class repeat lines (Unsure item losses) =
    Steady (repeated cycle) pages p × IsFirstItem (HasNoSureStart cycle p class repeat lines) item × AreLosses cycle p.id lines item losses

-- the least deadline, and the item or the reason
pub record IsWait (cycle : List (List ℕ)) (pages : List Page) (p : Page) (class : Class) (repeat lines : ℕ) (wait : Wait) : Type 0 where
  pub least : IsLeast (CanAccept cycle pages p class repeat lines) (fields_told wait)
  pub reason : IsReason cycle pages p class repeat lines wait

-- the wait for the page at the index
pub record IsPageTold (cycle : List (List ℕ)) (pages : List Page) (class : Class) (repeat lines index : ℕ)
    (p : Page) (told : List PageWait) : Type 0 where
  pub answer : PageWait
  pub at : slice_get told index ≡ Some answer
  pub page : answer.page ≡ p.id
  pub wait : IsWait cycle pages p class repeat lines answer.wait

pub record AreWaits (cycle : List (List ℕ)) (pages : List Page) (class : Class) (repeat lines : ℕ) (told : List PageWait) : Type 0 where
  pub count : length told ≡ length pages
  pub each : (index : ℕ) (p : Page) → slice_get pages index ≡ Some p → IsPageTold cycle pages class repeat lines index p told
