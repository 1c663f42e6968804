-- The pages that a service lacks are reported beside promises alone.
use Rattle.std.proofs.Common.{◌≡◌, ◌∙◌, ℕ, List, [], ◌∷◌, map, slice_get, Some, refl, sym, ap}
use Rattle.std.proofs.lemmas.Simd.{map-map}
use Rattle.ttx_page.specs.Pages.{Page}
use Rattle.ttx_page.specs.Views.{page_of, ids_of}
use Rattle.ttx_page.specs.declared.page.Page.{Page as PageValue}
use Rattle.ttx_source.specs.PromiseViews.{promise_view}
use Rattle.ttx_source.specs.Services.{Authored, ServiceFields, authored_ids}
use Rattle.ttx_source.specs.declared.promises.Promise.{Promise}
use Rattle.ttx_promise.specs.OtherPages.{other_pages}
use Rattle.ttx_records.specs.WaitReports.{absent_pages}

pub some_absent : (cycle : List (List ℕ)) (service : ServiceFields) (promises : List Promise) (p : Promise) → slice_get promises 0 ≡ Some p →
    absent_pages cycle service (map promise_view promises) ≡ other_pages cycle (authored_ids service.pages)
some_absent cycle service [] p e = absurd (cc)
some_absent cycle service (q ∷ ps) p e = refl

pub same_ids : (pages : List PageValue) (authored : List Authored) → map page_of pages ≡ map (λ (p : Authored). p.page) authored →
    ids_of pages ≡ authored_ids authored
same_ids pages authored e =
    sym (map-map (λ (p : Page). p.id) page_of pages) ∙ ap (map (λ (p : Page). p.id)) e ∙ map-map (λ (p : Page). p.id) (λ (a : Authored). a.page) authored
