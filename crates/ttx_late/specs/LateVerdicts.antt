-- What a verdict means for receivers that may show pages late (profile).
--
--   IsNeverShown            a header of a listed page that is not followed by another page number, the first in the cycle
--   IsFollowedVerdict       the verdict on a cycle that is accepted
--   IsLateVerdict           the verdict on a cycle, pages and a certificate
--   MeansLate               if the verdict is Yes, each page is seen on both kinds of receivers
use Rattle.std.specs.Prelude.{◌≡◌, ℕ, List, slice_get, Some}
use Rattle.ttx_header.specs.Ids.{Id}
use Rattle.ttx_page.specs.Pages.{Page}
use Rattle.ttx_witness.specs.Coverage.{Certificate, Accepts}
use Rattle.ttx_certify.specs.Verdicts.{IsRefusal}
use Rattle.ttx_certify.specs.Seen.{Seen}
use Rattle.ttx_late.specs.Followed.{AllAreFollowed, IsGreatestGap, IsFirstUnshown}
use Rattle.ttx_late.specs.SeenLate.{SeenLate}
use Rattle.ttx_late.specs.declared.verdict.LateVerdict.{LateVerdict}
use Rattle.ttx_late.specs.declared.verdict.LateVerdict.TheVariants.{Yes, No, NeverShown}

pub record IsNeverShown (cycle : List (List ℕ)) (pages : List Page) (page : Id) (slot : ℕ) : Type 0 where
  pub index : ℕ
  pub first : IsFirstUnshown cycle pages (record { page = index; slot = slot })
  pub is : first.page.id ≡ page

abbrev pub IsFollowedVerdict : List (List ℕ) → List Page → LateVerdict → Type 0
IsFollowedVerdict cycle pages (Yes gap) = AllAreFollowed cycle pages × IsGreatestGap cycle pages gap
IsFollowedVerdict cycle pages (No reason) = ⊥
IsFollowedVerdict cycle pages (NeverShown page slot) = IsNeverShown cycle pages page slot

abbrev pub IsLateVerdict : List (List ℕ) → List Page → Certificate → LateVerdict → Type 0
IsLateVerdict cycle pages w (Yes gap) = Accepts cycle pages w × AllAreFollowed cycle pages × IsGreatestGap cycle pages gap
IsLateVerdict cycle pages w (No reason) = IsRefusal cycle pages w reason × (Accepts cycle pages w → ⊥)
IsLateVerdict cycle pages w (NeverShown page slot) = Accepts cycle pages w × IsNeverShown cycle pages page slot

-- seen on each permitted receiver from the deadline on, and on each that shows pages late from the deadline and the gap on
abbrev pub MeansLate : List (List ℕ) → List Page → Certificate → LateVerdict → Type 0
MeansLate cycle pages w (Yes gap) = (n : ℕ) (p : Page) → slice_get pages n ≡ Some p → Seen cycle pages p w × SeenLate cycle pages p w gap
MeansLate cycle pages w (No reason) = Unit {0}
MeansLate cycle pages w (NeverShown page slot) = Unit {0}
