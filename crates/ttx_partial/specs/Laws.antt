-- Laws of cycles without some page numbers.
--
--   KeptPagesAreSteady      a page that the cycle without a number sends unchanged is sent unchanged by the cycle itself
use Rattle.std.specs.Prelude.{◌≡◌, ℕ, List}
use Rattle.ttx_header.specs.Ids.{Id}
use Rattle.ttx_cycle.specs.Files.{IsCycle}
use Rattle.ttx_page.specs.Pages.{Page}
use Rattle.ttx_page.specs.Streams.{repeated}
use Rattle.ttx_page.specs.Steady.{Steady}
use Rattle.ttx_partial.specs.Asides.{aside}

-- page number FF is no page's
abbrev pub KeptPagesAreSteady : Type 0
KeptPagesAreSteady = (slots : List (List ℕ)) → IsCycle slots → (id : Id) (pages : List Page) (p : Page) → (p.id.page ≡ 255 → ⊥) →
    Steady (repeated (aside id slots)) pages p → Steady (repeated slots) pages p
