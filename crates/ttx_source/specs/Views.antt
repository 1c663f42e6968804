-- The pages of a `Service` as the records of the definitions.
--
--   authored_pages       pages, with how often each is sent from the map of their ids
use Rattle.std.specs.Prelude.{◌≡◌, ℕ, List, [], ◌∷◌, map}
use Rattle.std.specs.Map.{keys_of}
use Rattle.ttx_header.specs.Ids.{Id}
use Rattle.ttx_page.specs.declared.page.Page.{Page}
use Rattle.ttx_page.specs.Views.{page_of}
use Rattle.ttx_source.specs.Services.{Authored, authored_at, ServiceFields, IsService}

abbrev pub authored_pages : List Page → List (Id × ℕ) → List Authored
authored_pages [] entries = []
authored_pages (page ∷ pages) [] = []
authored_pages (page ∷ pages) (entry ∷ entries) = authored_at (page_of page) entry.1 ∷ authored_pages pages entries

-- the map has the ids of the pages in the same order, and the service is in its ranges
pub record IsKept (service : ServiceFields) (pages : List Page) (entries : List (Id × ℕ)) : Type 0 where
  pub same_order : keys_of entries ≡ map (λ p. (page_of p).id) pages
  pub ranges : IsService service
