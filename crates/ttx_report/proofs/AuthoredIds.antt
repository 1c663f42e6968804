-- The ids of the pages of a service.
use Rattle.std.proofs.Common.{◌≡◌, ◌∙◌, List, ap, map, sym}
use Rattle.std.proofs.lemmas.Simd.{map-map}
use Rattle.ttx_page.specs.Pages.{Page}
use Rattle.ttx_page.specs.Views.{page_of, ids_of}
use Rattle.ttx_page.specs.declared.page.Page.{Page as PageValue}
use Rattle.ttx_source.specs.Services.{Authored, authored_ids}

pub same_ids : (pages : List PageValue) (authored : List Authored) → map page_of pages ≡ map (λ (p : Authored). p.page) authored →
    ids_of pages ≡ authored_ids authored
same_ids pages authored e =
    sym (map-map (λ (p : Page). p.id) page_of pages) ∙ ap (map (λ (p : Page). p.id)) e ∙ map-map (λ (p : Page). p.id) (λ (a : Authored). a.page) authored
