-- The values of `lines` with which the pages of a cycle have a deadline (profile).
--
--   HasDeadline             with these lines of a field some certificate of class any with the repeat count 1 is accepted
--   NoneHas                 none of the values 1 to 32 has one
--   IsFirst, IsLast         the least value that has one; the last of those that follow without a gap
--   AreFirst                both
use Rattle.std.specs.Prelude.{◌≡◌, ◌⊎◌, ℕ, ◌+◌, ◌<◌, ◌≤◌, List}
use Rattle.ttx_page.specs.Pages.{Page}
use Rattle.ttx_page.specs.declared.class.Class.TheVariants.{Any}
use Rattle.ttx_witness.specs.search.Finding.{CanBeAccepted}
use Rattle.ttx_possible.specs.declared.line_values.Values.{Values}

pub record HasDeadline (slots : List (List ℕ)) (pages : List Page) (lines : ℕ) : Type 0 where
  pub deadline : ℕ
  pub accepted : CanBeAccepted slots pages Any lines 1 deadline

abbrev pub NoneHas : List (List ℕ) → List Page → Type 0
NoneHas slots pages = (lines : ℕ) → 1 ≤ lines → lines ≤ 32 → HasDeadline slots pages lines → ⊥

pub record IsFirst (slots : List (List ℕ)) (pages : List Page) (first : ℕ) : Type 0 where
  pub low : 1 ≤ first
  pub high : first ≤ 32
  pub has : HasDeadline slots pages first
  pub least : (lines : ℕ) → 1 ≤ lines → lines < first → HasDeadline slots pages lines → ⊥

-- 32 is the greatest value of all
pub record IsLast (slots : List (List ℕ)) (pages : List Page) (first last : ℕ) : Type 0 where
  pub low : first ≤ last
  pub high : last ≤ 32
  pub each : (lines : ℕ) → first ≤ lines → lines ≤ last → HasDeadline slots pages lines
  pub stops : (last ≡ 32) ⊎ (HasDeadline slots pages (last + 1) → ⊥)

abbrev pub AreFirst : List (List ℕ) → List Page → Values → Type 0
AreFirst slots pages v = IsFirst slots pages v.first × IsLast slots pages v.first v.last
