-- Equal counts give equal warnings.
use Rattle.std.proofs.Common.{◌≡◌, ℕ, ◌+◌, List, [], ◌∷◌, ◌++◌, refl, ap}
use Rattle.ttx_page.specs.Pages.{Page}
use Rattle.ttx_source.specs.Services.{ServiceFields, pages_of}
use Rattle.ttx_check.specs.PageWarnings.{page_warnings, pages_from}
use Rattle.ttx_check.specs.Warnings.{initial_warnings, serial_warnings, warnings_by}
use Rattle.ttx_check.specs.declared.entries.Entry.{Entry}

pages_same : (entries : List Entry) (f g h k : ℕ → ℕ) → ((q : ℕ) → f q ≡ h q) → ((q : ℕ) → g q ≡ k q) → (place : ℕ) (pages : List Page)
    → pages_from entries f g place pages ≡ pages_from entries h k place pages
pages_same entries f g h k a b place [] = refl
pages_same entries f g h k a b place (p ∷ pages) =
    rw (a place, b place) (ap (λ rest. page_warnings entries h k place p ++ rest) (pages_same entries f g h k a b (place + 1) pages))

pub warnings_same : (service : ServiceFields) (entries : List Entry) (f g h k : ℕ → ℕ) → ((q : ℕ) → f q ≡ h q) → ((q : ℕ) → g q ≡ k q)
    → warnings_by service entries f g ≡ warnings_by service entries h k
warnings_same service entries f g h k a b =
    ap (λ pages. initial_warnings entries service.info ++ pages ++ serial_warnings service.serial entries)
    (pages_same entries f g h k a b 0 (pages_of service))
