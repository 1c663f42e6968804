-- The ids of a service's pages are distinct.
use Rattle.std.proofs.Common.{◌≡◌, ◌≢◌, List, map, sym, ap, ◌∙◌, subst}
use Rattle.std.specs.List.{AllPairs}
use Rattle.std.proofs.lemmas.Simd.{map-map}
use Rattle.ttx_header.specs.Ids.{Id}
use Rattle.ttx_page.specs.Pages.{Page}
use Rattle.ttx_page.specs.declared.page.Page.{Page as PageValue}
use Rattle.ttx_page.specs.Views.{page_of, ids_of}
use Rattle.ttx_source.specs.Services as S

abbrev id_in : Page → Id
id_in p = p.id

abbrev page_in : S.Authored → Page
page_in a = a.page

pub same_ids : (pages : List PageValue) (authored : List S.Authored) → map page_of pages ≡ map (λ p. p.page) authored →
    S.authored_ids authored ≡ ids_of pages
same_ids pages authored e = sym (map-map id_in page_in authored) ∙ ap (map id_in) (sym e) ∙ map-map id_in page_of pages

pub distinct_ids : (pages : List PageValue) (authored : List S.Authored) → map page_of pages ≡ map (λ p. p.page) authored →
    AllPairs (λ a b. a ≢ b) (S.authored_ids authored) → AllPairs (λ a b. a ≢ b) (ids_of pages)
distinct_ids pages authored e distinct = subst (AllPairs (λ a b. a ≢ b)) (same_ids pages authored e) distinct
