-- The law of cycles that are planned for receivers that show a page late.
--
--   AreFollowed             each of these pages is followed by another page number
--   PlannedIsFollowed       each page of a service that is planned for such receivers is
use Rattle.std.specs.Prelude.{◌≡◌, ℕ, true, List, slice_get, Some}
use Rattle.ttx_page.specs.declared.class.Class.{Class}
use Rattle.ttx_page.specs.Followers.{IsFollowedByAnother}
use Rattle.ttx_page.specs.Pages.{Page}
use Rattle.ttx_page.specs.Streams.{repeated}
use Rattle.ttx_plan.specs.Acceptance.{IsPlanned}
use Rattle.ttx_source.specs.Services.{ServiceFields, pages_of}

-- When the cycle repeats, the next header of the magazine after each header of one of these pages has another page number.
abbrev pub AreFollowed : List (List ℕ) → List Page → Type 0
AreFollowed cycle pages = (n : ℕ) (p : Page) → slice_get pages n ≡ Some p → IsFollowedByAnother (repeated cycle) p.id

abbrev pub PlannedIsFollowed : Type 0
PlannedIsFollowed = (class : Class) (service : ServiceFields) (cycle : List (List ℕ)) → IsPlanned true class service cycle →
    AreFollowed cycle (pages_of service)
