-- Where the pages of one page number stand in a spread plan (profile).
--
--   StandsIn                the page at an index is sent in a round
--   HasPage                 some page with the number of this one is
--   NumbersAreSpread        the law
use Rattle.std.specs.Prelude.{◌≡◌, ◌≢◌, ℕ, ◌/◌, ◌%◌, true, List, slice_get, slice_index, Some}
use Rattle.ttx_page.specs.declared.class.Class.{Class}
use Rattle.ttx_plan.specs.Spread.{IsSpread}
use Rattle.ttx_plan.specs.SubpageTurns.{share_number}
use Rattle.ttx_source.specs.Services.{Authored, ServiceFields, IsService}

abbrev pub StandsIn : List ℕ → ℕ → Authored → ℕ → Type 0
StandsIn places index p round = round % (8 / p.often) ≡ slice_index places index

pub record HasPage (pages : List Authored) (places : List ℕ) (p : Authored) (round : ℕ) : Type 0 where
  pub index : ℕ
  pub page : Authored
  pub listed : slice_get pages index ≡ Some page
  pub shares : share_number p page ≡ true
  pub stands : StandsIn places index page round

-- two pages with one number stand in one round only if each round has a page with the number
abbrev pub NumbersAreSpread : Type 0
NumbersAreSpread =
    (class : Class) (service : ServiceFields) (places : List ℕ) → IsService service → IsSpread class service.pages places →
    (round index other : ℕ) (p q : Authored) → slice_get service.pages index ≡ Some p → slice_get service.pages other ≡ Some q → index ≢ other →
    share_number p q ≡ true → StandsIn places index p round → StandsIn places other q round →
    (each : ℕ) → HasPage service.pages places p each
