-- Pages of which one is sent otherwise.
use Rattle.std.proofs.Common.{◌≡◌, ◌≢◌, ◌≤◌, ℕ, zero, suc, Bool, true, List, [], ◌∷◌, length, ap, refl, sym, subst}
use Rattle.std.specs.List.{AllByRecursion, AllPairs}
use Rattle.std.proofs.lemmas.List.Elements.{All-from_recursion, recursion_from_All}
use Rattle.std.specs.Map.{keys_of}
use Rattle.indexmap.specs.IndexMap.{set_value_at}
use Rattle.ttx_header.specs.Ids.{Id}
use Rattle.ttx_page.specs.declared.page.Page.{Page}
use Rattle.ttx_page.specs.Views.{page_of}
use Rattle.ttx_source.specs.Keys.{is_often}
use Rattle.ttx_source.specs.Services.{Authored, authored_at, authored_ids, often_set, with_often, ServiceFields, IsService, IsAuthored}
use Rattle.ttx_source.specs.Views.{authored_pages}

pub authored_pages-often_set : (ps : List Page) (es : List (Id × ℕ)) (i often : ℕ) → authored_pages ps (set_value_at es i often)
    ≡ often_set (authored_pages ps es) i often
authored_pages-often_set [] es i often = refl
authored_pages-often_set (p ∷ ps) [] i often = refl
authored_pages-often_set (p ∷ ps) (e ∷ es) zero often = refl
authored_pages-often_set (p ∷ ps) (e ∷ es) (suc i) often = ap (λ rest. authored_at (page_of p) e.1 ∷ rest) (authored_pages-often_set ps es i often)

pub keys_of-set_value_at : (es : List (Id × ℕ)) (i often : ℕ) → keys_of (set_value_at es i often) ≡ keys_of es
keys_of-set_value_at [] i often = refl
keys_of-set_value_at (e ∷ es) zero often = refl
keys_of-set_value_at (e ∷ es) (suc i) often = ap (λ ids. e.0 ∷ ids) (keys_of-set_value_at es i often)

length-often_set : (pages : List Authored) (i often : ℕ) → length (often_set pages i often) ≡ length pages
length-often_set [] i often = refl
length-often_set (p ∷ pages) zero often = refl
length-often_set (p ∷ pages) (suc i) often = ap suc (length-often_set pages i often)

ids-often_set : (pages : List Authored) (i often : ℕ) → authored_ids (often_set pages i often) ≡ authored_ids pages
ids-often_set [] i often = refl
ids-often_set (p ∷ pages) zero often = refl
ids-often_set (p ∷ pages) (suc i) often = ap (λ ids. p.page.id ∷ ids) (ids-often_set pages i often)

all-often_set : (serial : Bool) (pages : List Authored) (i often : ℕ) → is_often often ≡ true → AllByRecursion (IsAuthored serial) pages →
    AllByRecursion (IsAuthored serial) (often_set pages i often)
all-often_set serial [] i often is a = tt
all-often_set serial (p ∷ pages) zero often is a =
    let first : IsAuthored serial p = a.0 in
    (record { page = first.page; c11 = first.c11; often = is }, a.1)
all-often_set serial (p ∷ pages) (suc i) often is a = (a.0, all-often_set serial pages i often is a.1)

pub IsService-with_often : (s : ServiceFields) (i often : ℕ) → is_often often ≡ true → IsService s → IsService (with_often s i often)
IsService-with_often s i often is was = record {
  lines_from = was.lines_from;
  lines_to = was.lines_to;
  count = subst (λ n. n ≤ 2000) (sym (length-often_set s.pages i often)) was.count;
  pages = All-from_recursion (IsAuthored s.serial) (often_set s.pages i often)
      (all-often_set s.serial s.pages i often is (recursion_from_All (IsAuthored s.serial) s.pages was.pages));
  distinct = subst (AllPairs (λ a b. a ≢ b)) (sym (ids-often_set s.pages i often)) was.distinct;
}
