-- Pages and lists of pages as functions show them.
use Rattle.std.proofs.Common.{◌≡◌, ℕ, zero, suc, ◌<◌, ◌≤◌, Bool, ◌||◌, List, [], ◌∷◌, length, map, get_or, Option, Some, None, Bor, refl, sym, ap, ◌∙◌, arith}
use Rattle.std.specs.Slice.{IsItemAt}
use Rattle.std.specs.Prelude.{slice_get, option_map}
use Rattle.std.specs.List.{list_any}
use Rattle.std.proofs.lemmas.Option.{slice_get-map}
use Rattle.ttx_page.specs.Views.{page_of}
use Rattle.ttx_page.specs.declared.page.Page.{Page}

pub any_of_map : {A B : Type 0} (f : A → B) (p : B → Bool) (xs : List A) → list_any (λ x. p (f x)) xs ≡ list_any p (map f xs)
any_of_map f p [] = refl
any_of_map f p (x ∷ xs) = ap (λ b. p (f x) || b) (any_of_map f p xs)

pub get_there : {A : Type 0} (xs : List A) (i : ℕ) (x d : A) → i < length xs → x ≡ get_or xs i d → slice_get xs i ≡ Some x
get_there [] i x d lt e = absurd (omega arith)
get_there (y ∷ xs) zero x d lt e = ap Some (sym e)
get_there (y ∷ xs) (suc i) x d lt e = get_there xs i x d (omega arith) e

pub value_there : (pages : List Page) (i : ℕ) (p : Page) → i < length pages → p ≡ get_or pages i p →
    slice_get (map page_of pages) i ≡ Some (page_of p)
value_there pages i p lt is = slice_get-map page_of pages i ∙ ap (option_map page_of) (get_there pages i p p lt is)

past : {A : Type 0} (xs : List A) (i : ℕ) → length xs ≤ i → slice_get xs i ≡ None
past [] i le = refl
past (x ∷ xs) zero le = absurd (omega arith)
past (x ∷ xs) (suc i) le = past xs i (omega arith)

-- the page that `get` finds
pub value_got : (pages : List Page) (i : ℕ) (o : Option (Bor Page)) → IsItemAt pages i o →
    slice_get (map page_of pages) i ≡ option_map (λ p. page_of p.now) o
value_got pages i None is = slice_get-map page_of pages i ∙ ap (option_map page_of) (past pages i is.3)
value_got pages i (Some p) is = value_there pages i p.now is.3.0 is.1
