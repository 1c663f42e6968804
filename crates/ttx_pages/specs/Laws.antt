-- Laws of pages as numbers.
--
--   PagesAreNumbered        two pages have the same number only if they are the same
--   NumbersRise             numbers rise by magazine, page number and subcode
--   NumbersAreListed        each number is one of those that are listed
use Rattle.std.specs.Prelude.{◌≡◌, ℕ, ◌<◌, ◌≤◌}
use Rattle.ttx_header.specs.Ids.{Id, IsId}
use Rattle.ttx_pages.specs.Keys.{page_key}

abbrev pub PagesAreNumbered : Type 0
PagesAreNumbered = (a b : Id) → IsId a → IsId b → page_key a ≡ page_key b → (a.mag ≡ b.mag) × (a.page ≡ b.page) × (a.sub ≡ b.sub)

abbrev pub NumbersRise : Type 0
NumbersRise =
    ((a b : Id) → IsId a → IsId b → a.mag < b.mag → page_key a < page_key b)
    × ((a b : Id) → IsId a → IsId b → a.mag ≡ b.mag → a.page < b.page → page_key a < page_key b)
    × ((a b : Id) → a.mag ≡ b.mag → a.page ≡ b.page → a.sub < b.sub → page_key a < page_key b)

-- from 1 to the last number of magazine 8
abbrev pub NumbersAreListed : Type 0
NumbersAreListed = (id : Id) → IsId id → (1 ≤ page_key id) × (page_key id < 37748736)
