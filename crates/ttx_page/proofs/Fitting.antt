-- The page that a selection of one id fits.
use Rattle.std.proofs.Common.{◌≡◌, ℕ, Bool, true, ◌==◌, ◌&&◌, List, Some, slice_get, refl, sym, ap, ◌∙◌, subst, eqb-true, eq-eqb}
use Rattle.std.proofs.lemmas.Bool.{and_from, and_parts}
use Rattle.std.proofs.lemmas.Option.{same_Some}
use Rattle.ttx_header.specs.Ids.{Id}
use Rattle.ttx_page.specs.Pages.{Page, Fits, Exact}

-- how ids are compared
abbrev pub are_same : Id → Id → Bool
are_same a b = (a.mag == b.mag) && ((a.page == b.page) && (a.sub == b.sub))

ids_same : (a b : Id) → a.mag ≡ b.mag → a.page ≡ b.page → a.sub ≡ b.sub → a ≡ b
ids_same a b m p s = λ i. record { mag = m i; page = p i; sub = s i }

same_one : (a b : Id) → are_same a b ≡ true → a ≡ b
same_one a b e =
    let rest = (and_parts (a.mag == b.mag) ((a.page == b.page) && (a.sub == b.sub)) e).1 in
    ids_same a b (eqb-true _ _ (and_parts (a.mag == b.mag) ((a.page == b.page) && (a.sub == b.sub)) e).0)
    (eqb-true _ _ (and_parts (a.page == b.page) (a.sub == b.sub) rest).0) (eqb-true _ _ (and_parts (a.page == b.page) (a.sub == b.sub) rest).1)

same_self : (a b : Id) → a ≡ b → are_same a b ≡ true
same_self a b e = subst (λ b. are_same a b ≡ true) e
    (and_from _ _ (eq-eqb a.mag a.mag refl) (and_from _ _ (eq-eqb a.page a.page refl) (eq-eqb a.sub a.sub refl)))

-- a selection of one id fits the page that has the id
pub fits_own : (pages : List Page) (index : ℕ) (own p : Page) (id : Id) → slice_get pages index ≡ Some own → slice_get pages index ≡ Some p
    → (are_same id own.id ≡ true → Fits pages p (Exact id)) × (Fits pages p (Exact id) → are_same id own.id ≡ true)
fits_own pages index own p id here there =
    let same : own.id ≡ p.id = ap (λ page. page.id) (same_Some own p (sym here ∙ there)) in
    (λ e. same_one id own.id e ∙ same, λ e. same_self id own.id (e ∙ sym same))
