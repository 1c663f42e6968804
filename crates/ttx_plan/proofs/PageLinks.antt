-- The links of a service's pages are those of the program's pages.
use Rattle.std.proofs.Common.{◌≡◌, ℕ, zero, suc, List, [], ◌∷◌, map, Option, Some, None, refl, subst}
use Rattle.std.specs.Prelude.{slice_get}
use Rattle.ttx_header.specs.Ids.{Id}
use Rattle.ttx_links.specs.Sets.{IsTarget, AreLinks}
use Rattle.ttx_page.specs.declared.page.Page.{Page as PageValue}
use Rattle.ttx_page.specs.Laws.{PagesHaveLinks}
use Rattle.ttx_page.specs.PageLinks.{HasLinks}
use Rattle.ttx_page.specs.Views.{page_of}
use Rattle.ttx_source.specs.Services.{Authored}
use Rattle.ttx_plan.specs.Acceptance.{AreLinked}

pub linked_from : (values : List PageValue) (pages : List Authored) → PagesHaveLinks → map page_of values ≡ map (λ p. p.page) pages → AreLinked pages
linked_from [] [] a e i authored at = let f : None ≡ Some authored = at in cc
linked_from [] (p ∷ pages) a e i authored at = cc
linked_from (v ∷ values) [] a e i authored at = cc
linked_from (v ∷ values) (p ∷ pages) a e zero authored at =
    let first : page_of v ≡ p.page = cc in
    let here : Some p ≡ Some authored = at in
    let is : p ≡ authored = cc in
    subst (λ x. HasLinks x.page) is (subst HasLinks first (a v))
linked_from (v ∷ values) (p ∷ pages) a e (suc i) authored at =
    let rest : map page_of values ≡ map (λ q. q.page) pages = cc in
    linked_from values pages a rest i authored at

-- links of which each leads to a target or nowhere
pub are_links : (links : List (Option Id)) → ((k : ℕ) (target : Id) → slice_get links k ≡ Some (Some target) → IsTarget target) → AreLinks links
are_links [] each = tt
are_links (None ∷ links) each = (tt, are_links links (λ k. each (suc k)))
are_links (Some target ∷ links) each = (each 0 target refl, are_links links (λ k. each (suc k)))
