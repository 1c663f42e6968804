-- The rounds in which a carousel sends the pages of one page number (profile).
--
--   IsSentIn                the page at an index is sent in a round
--   HasPageIn               some page with the number of this one is
--   AreApart                two pages of one number share a round only if the number has no stays and each round has one of its pages
use Rattle.std.specs.Prelude.{◌≡◌, ◌≢◌, ℕ, true, false, List, slice_get, Some}
use Rattle.ttx_numbers.specs.Numbers.{share_number}
use Rattle.ttx_page.specs.Pages.{Page}
use Rattle.ttx_source.specs.Promises.{PromiseFields}
use Rattle.ttx_source.specs.Services.{Authored, ServiceFields, pages_of}
use Rattle.ttx_carousel.specs.Layout.{has_stays, standings, stands_at}

-- with the pages of the service at these places, and so many laps a turn
abbrev pub IsSentIn : List PromiseFields → ServiceFields → List ℕ → ℕ → ℕ → ℕ → Type 0
IsSentIn stays service places laps round index = stands_at (slice_get (standings service stays places) index) laps round ≡ true

pub record HasPageIn (stays : List PromiseFields) (service : ServiceFields) (places : List ℕ) (laps : ℕ) (p : Page) (round : ℕ) : Type 0 where
  pub index : ℕ
  pub page : Authored
  pub listed : slice_get service.pages index ≡ Some page
  pub shares : share_number p page.page ≡ true
  pub sent : IsSentIn stays service places laps round index

abbrev pub AreApart : List PromiseFields → ServiceFields → List ℕ → ℕ → Type 0
AreApart stays service places laps =
    (round index other : ℕ) (p q : Authored) → slice_get service.pages index ≡ Some p → slice_get service.pages other ≡ Some q →
    index ≢ other → share_number p.page q.page ≡ true → IsSentIn stays service places laps round index →
    IsSentIn stays service places laps round other →
    (has_stays (pages_of service) stays p.page ≡ false) × ((each : ℕ) → HasPageIn stays service places laps p.page each)
