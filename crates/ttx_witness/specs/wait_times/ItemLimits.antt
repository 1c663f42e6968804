-- The longest wait among the items of a page, from their least limits, item by item.
--
--   IsOwnDeadline           the least deadline of an item by itself
--   IsBelow                 an item whose own least deadline is below a number
--   AllBelow                all items before the m-th that a viewer sees are below a number
--   IsFirstLongest          an item before the m-th that a viewer sees, and whose deadline is above those of all items before it
--   IsLongest               the greatest deadline among the first m items that a viewer sees, and the first item that has it
--   IsWaitByLimits          the wait that follows for the page: the longest of its 26 items, or the first item that has no least limit
use Rattle.std.specs.Prelude.{◌≡◌, ◌⊎◌, ℕ, ◌+◌, ◌<◌, true, List, Some, None}
use Rattle.ttx_page.specs.Pages.{Page, needed}
use Rattle.ttx_page.specs.declared.item.Item.{Item}
use Rattle.ttx_page.specs.declared.class.Class.{Class}
use Rattle.ttx_witness.specs.sent.Collected.{item_number}
use Rattle.ttx_witness.specs.search.Finding.{limit_for, IsLeastField}
use Rattle.ttx_witness.specs.wait_times.PageWaits.{AreLosses}
use Rattle.ttx_witness.specs.declared.wait_times.wait.Wait.{Wait}
use Rattle.ttx_witness.specs.declared.wait_times.wait.Wait.TheVariants.{Fields, Faulty, Unsure}

pub record IsOwnDeadline (cycle : List (List ℕ)) (p : Page) (class : Class) (repeat lines : ℕ) (item : Item) (deadline : ℕ) : Type 0 where
  pub limit : ℕ
  pub is : limit_for cycle class lines repeat p item ≡ Some limit
  pub least : IsLeastField limit lines (Some deadline)

pub record IsBelow (cycle : List (List ℕ)) (p : Page) (class : Class) (repeat lines : ℕ) (item : Item) (bound : ℕ) : Type 0 where
  pub deadline : ℕ
  pub own : IsOwnDeadline cycle p class repeat lines item deadline
  pub below : deadline < bound

abbrev pub AllBelow : List (List ℕ) → Page → Class → ℕ → ℕ → ℕ → ℕ → Type 0
AllBelow cycle p class repeat lines m bound = (other : Item) → needed p other ≡ true → item_number other < m →
    IsBelow cycle p class repeat lines other bound

-- no item before it that a viewer sees waits as long
pub record IsFirstLongest (cycle : List (List ℕ)) (p : Page) (class : Class) (repeat lines m deadline : ℕ) (item : Item) : Type 0 where
  pub seen : needed p item ≡ true
  pub before : item_number item < m
  pub own : IsOwnDeadline cycle p class repeat lines item deadline
  pub first : AllBelow cycle p class repeat lines (item_number item) deadline

-- none of the first m items is seen, or this one is the first that needs the most fields
pub record IsLongest (cycle : List (List ℕ)) (p : Page) (class : Class) (repeat lines m deadline : ℕ) (item : Item) : Type 0 where
  pub all : AllBelow cycle p class repeat lines m (deadline + 1)
  pub first : (deadline ≡ 0) ⊎ IsFirstLongest cycle p class repeat lines m deadline item

abbrev pub IsWaitByLimits : List (List ℕ) → Page → Class → ℕ → ℕ → Wait → Type 0
IsWaitByLimits cycle p class repeat lines (Fields deadline item) = IsLongest cycle p class repeat lines 26 deadline item
IsWaitByLimits cycle p class repeat lines (Faulty reason) = ⊥
IsWaitByLimits cycle p class repeat lines (Unsure item losses) =
    (needed p item ≡ true) × (limit_for cycle class lines repeat p item ≡ None)
    × ((bound : ℕ) × AllBelow cycle p class repeat lines (item_number item) bound)
    × AreLosses cycle p.id lines item losses
