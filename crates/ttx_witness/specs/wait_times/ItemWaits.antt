-- How long a viewer of one item of a page waits at most.
--
--   item_at, seen_below     the item with a number; the items below a number that a viewer of the page sees, in order
--   least_of                the least deadline of an item, if it has one
--   IsItemWait              the least deadline with which some certificate shows the item; if there is none, what happens to its transmissions
--   AreItemsTold            the waits for all items of a page below a number
--   AreItemWaits            the waits for all items of each page of a list
--   IsToldOf, IsGreatest    an item has this deadline, or none; the greatest deadline, None if an item has none
--   PageIsGreatest          the deadline of a page that is sent unchanged is the greatest of its items' deadlines
use Rattle.std.specs.Prelude.{◌≡◌, ℕ, zero, suc, ◌≤◌, true, if◌then◌else◌, List, [], ◌∷◌, ◌++◌, ◌==◌, length, map, slice_get, Option, Some, None, ⊤}
use Rattle.std.specs.List.{AllByRecursion}
use Rattle.ttx_page.specs.Pages.{Page, needed}
use Rattle.ttx_page.specs.Views.{page_of}
use Rattle.ttx_page.specs.declared.page.Page.{Page as PageValue}
use Rattle.ttx_page.specs.declared.item.Item.{Item}
use Rattle.ttx_page.specs.declared.item.Item.TheVariants.{Head as TheHead, Row as TheRow, Links as TheLinks}
use Rattle.ttx_page.specs.declared.class.Class.{Class}
use Rattle.ttx_witness.specs.Elements.{HoldsAt}
use Rattle.ttx_witness.specs.wait_times.PageWaits.{IsLeast, CanShow, AreLosses, fields_told, IsWait}
use Rattle.ttx_witness.specs.declared.faults.reason.Reason.{Reason}
use Rattle.ttx_witness.specs.declared.wait_times.wait.ItemWait.{ItemWait}
use Rattle.ttx_witness.specs.declared.wait_times.wait.OwnWait.{OwnWait}
use Rattle.ttx_witness.specs.declared.wait_times.wait.OwnWait.TheVariants.{Least, Never}
use Rattle.ttx_witness.specs.declared.wait_times.wait.Wait.{Wait}
use Rattle.ttx_witness.specs.declared.wait_times.wait.Wait.TheVariants.{Faulty}

abbrev pub item_at : ℕ → Item
item_at zero = TheHead
item_at (suc n) = if n == 24 then TheLinks else TheRow (suc n)

unfoldable pub seen_below : Page → ℕ → List Item
seen_below p zero = []
seen_below p (suc n) = seen_below p n ++ (if needed p (item_at n) then item_at n ∷ [] else [])

abbrev pub least_of : OwnWait → Option ℕ
least_of (Least deadline) = Some deadline
least_of (Never losses) = None

abbrev pub AreItsLosses : List (List ℕ) → Page → ℕ → Item → OwnWait → Type 0
AreItsLosses cycle p lines item (Least deadline) = ⊤
AreItsLosses cycle p lines item (Never losses) = AreLosses cycle p.id lines item losses

pub record IsItemWait (cycle : List (List ℕ)) (p : Page) (class : Class) (repeat lines : ℕ) (item : Item) (wait : OwnWait) : Type 0 where
  pub seen : needed p item ≡ true
  pub least : IsLeast (CanShow cycle p class repeat lines item) (least_of wait)
  pub losses : AreItsLosses cycle p lines item wait

pub record AreItemsTold (cycle : List (List ℕ)) (p : Page) (class : Class) (repeat lines n : ℕ) (told : List ItemWait) : Type 0 where
  pub items : map (λ one. one.item) told ≡ seen_below p n
  pub each : AllByRecursion (λ one. IsItemWait cycle p class repeat lines one.item one.wait) told

pub record AreItemWaits (cycle : List (List ℕ)) (pages : List Page) (class : Class) (repeat lines : ℕ) (all : List (List ItemWait)) : Type 0 where
  pub count : length all ≡ length pages
  pub each : (index : ℕ) (p : Page) → slice_get pages index ≡ Some p → HoldsAt (List ItemWait) all index (AreItemsTold cycle p class repeat lines 26)

-- one item has this deadline, or none
pub record IsToldOf (told : List ItemWait) (least : Option ℕ) : Type 0 where
  pub index : ℕ
  pub one : ItemWait
  pub here : slice_get told index ≡ Some one
  pub is : least_of one.wait ≡ least

abbrev pub IsUpTo : ℕ → OwnWait → Type 0
IsUpTo deadline (Least own) = own ≤ deadline
IsUpTo deadline (Never losses) = ⊥

abbrev pub IsGreatest : List ItemWait → Option ℕ → Type 0
IsGreatest told None = IsToldOf told None
IsGreatest told (Some deadline) = IsToldOf told (Some deadline) × AllByRecursion (λ one. IsUpTo deadline one.wait) told

abbrev pub PageIsGreatest : Type 0
PageIsGreatest = (cycle : List (List ℕ)) → 1 ≤ length cycle → length cycle ≤ 65536 → (pages : List Page) (page : PageValue) →
    (class : Class) (repeat lines : ℕ) → 1 ≤ repeat → repeat ≤ 8 → 1 ≤ lines → lines ≤ 32 →
    (wait : Wait) → IsWait cycle pages (page_of page) class repeat lines wait → ((reason : Reason) → wait ≡ Faulty reason → ⊥) →
    (told : List ItemWait) → AreItemsTold cycle (page_of page) class repeat lines 26 told → IsGreatest told (fields_told wait)
