-- A row that a viewer sees is one of rows 1 to 24.
use Rattle.std.proofs.Common.{◌≡◌, ℕ, ◌≤◌, true, rules}
use Rattle.ttx_page.specs.Pages.{Page, needed}
use Rattle.ttx_page.specs.declared.item.Item.TheVariants.{Row as TheRow}

pub row_range : (p : Page) (r : ℕ) → needed p (TheRow r) ≡ true → (1 ≤ r) × (r ≤ 24)
row_range p r e = (search rules, search rules)
