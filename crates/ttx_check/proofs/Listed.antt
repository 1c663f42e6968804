-- The pages of a service one by one, with how often each is sent.
use Rattle.std.proofs.Common.{◌≡◌, ℕ, zero, suc, ◌+◌, ◌<◌, List, [], ◌∷◌, ◌++◌, map, length, take, Some, None, sym, ap, ◌∙◌, arith, get_or}
use Rattle.std.specs.Prelude.{slice_get, option_map}
use Rattle.std.proofs.lemmas.List.{map-append}
use Rattle.ttx_page.specs.declared.page.Page.{Page as PageValue}
use Rattle.ttx_page.specs.Pages.{Page}
use Rattle.ttx_page.specs.Views.{page_of}
use Rattle.ttx_source.specs.Services.{Authored, authored_at}
use Rattle.ttx_check.specs.Entries.{queue_entry}

pub get_there : {A : Type 0} (xs : List A) (i : ℕ) (x d : A) → i < length xs → x ≡ get_or xs i d → slice_get xs i ≡ Some x
get_there [] i x d lt e = absurd (omega arith)
get_there (y ∷ xs) zero x d lt e = ap Some (sym e)
get_there (y ∷ xs) (suc i) x d lt e = get_there xs i x d (omega arith) e

-- the page at an index of a list, as a function shows it
at_index : {A : Type 0} (view : A → Page) (values : List A) (pages : List Authored) (i often : ℕ) (value : A) → map view values
    ≡ map (λ p. p.page) pages → slice_get values i ≡ Some value →
    option_map (λ p. p.often) (slice_get pages i) ≡ Some often → slice_get pages i ≡ Some (authored_at (view value) often)
at_index view [] pages i often value same v o = let e : None ≡ Some value = v in cc
at_index view (x ∷ values) [] i often value same v o = let e : None ≡ Some often = o in cc
at_index view (x ∷ values) (p ∷ pages) zero often value same v o =
    let first : Some x ≡ Some value = v in
    let times : Some p.often ≡ Some often = o in
    let is : x ≡ value = cc in
    let so_often : p.often ≡ often = cc in
    let e : view x ∷ map view values ≡ p.page ∷ map (λ p. p.page) pages = same in
    let page : view x ≡ p.page = cc in
    ap (λ q. Some (authored_at q p.often)) (sym page) ∙ ap (λ q. Some (authored_at (view q) p.often)) is
    ∙ ap (λ n. Some (authored_at (view value) n)) so_often
at_index view (x ∷ values) (p ∷ pages) (suc i) often value same v o =
    let e : view x ∷ map view values ≡ p.page ∷ map (λ p. p.page) pages = same in
    let rest : map view values ≡ map (λ p. p.page) pages = cc in
    at_index view values pages i often value rest v o

pub page_at_index : (values : List PageValue) (pages : List Authored) (i often : ℕ) (value : PageValue) → map page_of values
    ≡ map (λ p. p.page) pages → slice_get values i ≡ Some value →
    option_map (λ p. p.often) (slice_get pages i) ≡ Some often → slice_get pages i ≡ Some (authored_at (page_of value) often)
page_at_index = at_index page_of

take_next : {A : Type 0} (xs : List A) (n : ℕ) (x : A) → slice_get xs n ≡ Some x → take (suc n) xs ≡ take n xs ++ x ∷ []
take_next [] n x h = let e : None ≡ Some x = h in cc
take_next (y ∷ ys) zero x h = let e : Some y ≡ Some x = h in let g : y ≡ x = cc in ap (λ z. z ∷ []) g
take_next (y ∷ ys) (suc n) x h = ap (λ z. y ∷ z) (take_next ys n x h)

-- one more page
pub entries_next : (pages : List Authored) (i : ℕ) (page : Authored) → slice_get pages i ≡ Some page →
    map queue_entry (take (i + 1) pages) ≡ map queue_entry (take i pages) ++ queue_entry page ∷ []
entries_next pages i page e =
    let n : i + 1 ≡ suc i = omega arith in
    ap (λ k. map queue_entry (take k pages)) n ∙ ap (map queue_entry) (take_next pages i page e) ∙ map-append queue_entry (take i pages) (page ∷ [])
