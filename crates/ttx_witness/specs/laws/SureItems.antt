-- A cycle is accepted if each item has a sure run: laws for those who lay out cycles.
--
--   HasSureStart            a sure run of the item begins in a slot of the period
--   AllSureHaveStarts       an item that is sent, and that a receiver never may miss, has one
--   IsLongEnough            a deadline in fields that holds nine periods
--   SureItemsAreAccepted    if all is sent unchanged and each item has a sure run, some certificate is accepted
use Rattle.std.specs.Prelude.{◌≡◌, ◌⊎◌, ℕ, ◌*◌, ◌≤◌, ℤ, true, List, length, slice_get, Some}
use Rattle.ttx_header.specs.Ids.{Id}
use Rattle.ttx_page.specs.Pages.{Page, needed, IsBlank}
use Rattle.ttx_page.specs.declared.item.Item.{Item}
use Rattle.ttx_page.specs.declared.class.Class.{Class}
use Rattle.ttx_page.specs.declared.class.Class.TheVariants.{Clearing}
use Rattle.ttx_page.specs.Streams.{repeated, IsOwned, IsSure}
use Rattle.ttx_witness.specs.Coverage.{IsSureStart}
use Rattle.ttx_witness.specs.search.Finding.{IsSentUnchanged, CanBeAccepted}

abbrev pub HasSureStart : List (List ℕ) → Id → ℕ → ℕ → Item → Type 0
HasSureStart cycle page lines repeat item = (start : ℕ) × IsSureStart cycle page lines repeat item start

abbrev pub AllSureHaveStarts : Type 0
AllSureHaveStarts = (cycle : List (List ℕ)) → 1 ≤ length cycle → (page : Id) (lines repeat : ℕ) (item : Item) → 1 ≤ repeat →
    (h j : ℤ) → IsOwned (repeated cycle) page item h j →
    ((h j : ℤ) → IsOwned (repeated cycle) page item h j → IsSure (repeated cycle) lines page.mag item h j) →
    HasSureStart cycle page lines repeat item

-- a sure run of at most eight transmissions ends within nine periods after each slot
abbrev pub IsLongEnough : List (List ℕ) → ℕ → ℕ → Type 0
IsLongEnough cycle lines deadline = 9 * length cycle ≤ deadline * lines

-- each item that a viewer sees has a sure run, or receivers surely clear and the item is blank
abbrev pub SureItemsAreAccepted : Type 0
SureItemsAreAccepted = (cycle : List (List ℕ)) (pages : List Page) (class : Class) (lines repeat deadline : ℕ) → 1 ≤ length cycle →
    length cycle ≤ 65536 → 1 ≤ lines → lines ≤ 32 → 1 ≤ repeat → repeat ≤ 8 → 1 ≤ deadline → deadline ≤ 1000000 →
    IsLongEnough cycle lines deadline → IsSentUnchanged cycle pages →
    ((n : ℕ) (p : Page) → slice_get pages n ≡ Some p → (item : Item) → needed p item ≡ true →
    HasSureStart cycle p.id lines repeat item ⊎ ((class ≡ Clearing) × IsBlank p item)) →
    CanBeAccepted cycle pages class lines repeat deadline
