-- The list of pages beside the map of their ids.
use Rattle.std.proofs.Common.{◌≡◌, ◌≢◌, ◌∙◌, ◌<◌, ◌++◌, ℕ, zero, suc, List, [], ◌∷◌, true, false, Option, Some, None, is_some, option_map, length}
use Rattle.std.proofs.Common.{map, slice_get, ap, refl, sym, subst, rules, arith, inl, inr}
use Rattle.std.specs.List.{list_any, AllPairs}
use Rattle.std.proofs.lemmas.List.{map-append}
use Rattle.std.proofs.lemmas.List.Elements.{All-push}
use Rattle.std.proofs.lemmas.Grind.{common_steps}
use Rattle.std.specs.Map.{keys_of, lookup}
use Rattle.std.proofs.lemmas.Bool.{cases_Bool, false≢true}
use Rattle.std.proofs.lemmas.List.Quantifiers.{all_pairs_push}
use Rattle.std.proofs.lemmas.List.Folds.{list_any_at}
use Rattle.ttx_header.specs.Ids.{Id, same_id}
use Rattle.ttx_header.specs.contracts.ids.PageIdPartialEq.TheImpl.{eq-value}
use Rattle.ttx_page.specs.declared.page.Page.{Page}
use Rattle.ttx_page.specs.Views.{page_of}
use Rattle.ttx_source.specs.Services.{Authored, authored_at, authored_ids, ServiceFields, IsService, IsAuthored, has_id, with_page}
use Rattle.ttx_source.specs.Views.{authored_pages}

-- the map and the list have equally many entries
pub same_length : (ps : List Page) (es : List (Id × ℕ)) → keys_of es ≡ map (λ p. (page_of p).id) ps → length es ≡ length ps
same_length ps es same = sym (length-keys es) ∙ ap length same ∙ length-ids ps
  where
    length-keys : (es : List (Id × ℕ)) → length (keys_of es) ≡ length es
    length-keys [] = refl
    length-keys (e ∷ es) = ap suc (length-keys es)

    length-ids : (ps : List Page) → length (map (λ p. (page_of p).id) ps) ≡ length ps
    length-ids [] = refl
    length-ids (p ∷ ps) = ap suc (length-ids ps)

pub authored_pages-push : (ps : List Page) (es : List (Id × ℕ)) (p : Page) (e : Id × ℕ) → length es ≡ length ps
    → authored_pages (ps ++ p ∷ []) (es ++ e ∷ []) ≡ authored_pages ps es ++ authored_at (page_of p) e.1 ∷ []
authored_pages-push [] [] p e same = refl
authored_pages-push [] (x ∷ es) p e same = cc
authored_pages-push (q ∷ ps) [] p e same = cc
authored_pages-push (q ∷ ps) (x ∷ es) p e same = ap (λ rest. authored_at (page_of q) x.1 ∷ rest) (authored_pages-push ps es p e (suc_same same))
  where
    suc_same : suc (length es) ≡ suc (length ps) → length es ≡ length ps
    suc_same h = cc

pub authored_pages-pages : (ps : List Page) (es : List (Id × ℕ)) → length es ≡ length ps → map (λ a. a.page) (authored_pages ps es) ≡ map page_of ps
authored_pages-pages [] es same = refl
authored_pages-pages (p ∷ ps) [] same = cc
authored_pages-pages (p ∷ ps) (e ∷ es) same = ap (λ rest. page_of p ∷ rest) (authored_pages-pages ps es (cc))

pub authored_pages-ids : (ps : List Page) (es : List (Id × ℕ)) → length es ≡ length ps → authored_ids (authored_pages ps es)
    ≡ map (λ p. (page_of p).id) ps
authored_pages-ids [] es same = refl
authored_pages-ids (p ∷ ps) [] same = cc
authored_pages-ids (p ∷ ps) (e ∷ es) same = ap (λ rest. (page_of p).id ∷ rest) (authored_pages-ids ps es (cc))

pub authored_pages-length : (ps : List Page) (es : List (Id × ℕ)) → length es ≡ length ps → length (authored_pages ps es) ≡ length ps
authored_pages-length [] es same = refl
authored_pages-length (p ∷ ps) [] same = cc
authored_pages-length (p ∷ ps) (e ∷ es) same = ap suc (authored_pages-length ps es (cc))

pub authored_pages-often : (ps : List Page) (es : List (Id × ℕ)) (i : ℕ) (e : Id × ℕ) → length es ≡ length ps → slice_get es i ≡ Some e
    → option_map (λ a. a.often) (slice_get (authored_pages ps es) i) ≡ Some e.1
authored_pages-often [] [] i e same found = cc
authored_pages-often [] (x ∷ es) i e same found = cc
authored_pages-often (p ∷ ps) [] i e same found = cc
authored_pages-often (p ∷ ps) (x ∷ es) zero e same found = search rules
authored_pages-often (p ∷ ps) (x ∷ es) (suc i) e same found = authored_pages-often ps es i e (cc) found

-- `==` of ids is equality
pub eq_is : (x y : Id) → eq-value.it x y ≡ same_id x y
eq_is x y = search rules

pub same_is : (x y : Id) → same_id x y ≡ true → x ≡ y
same_is x y h = search rules

pub same_self : (x : Id) → same_id x x ≡ true
same_self x = search rules

-- a look-up finds an id if and only if the list has it
pub found_any : (q : Id) (es : List (Id × ℕ)) → is_some (lookup (eq-value.it q) es) ≡ list_any (same_id q) (keys_of es)
found_any q [] = refl
found_any q (e ∷ es) =
    elim (cases_Bool (same_id q e.0)) [
      | inl same ↦ rw (eq_is q e.0, same) refl
      | inr other ↦ rw (eq_is q e.0, other) (found_any q es)
    ]

-- appending a new id keeps the ids distinct
pub distinct_push : (ids : List Id) (id : Id) → AllPairs (λ a b. a ≢ b) ids → list_any (same_id id) ids ≡ false →
    AllPairs (λ a b. a ≢ b) (ids ++ id ∷ [])
distinct_push ids id h new =
    all_pairs_push (λ a b. a ≢ b) ids id h
    (λ k d within same. false≢true (sym new ∙ list_any_at (same_id id) ids k d within (ap (same_id id) same ∙ same_self id)))

pub is_none : {X : Type 0} (r : Option X) → is_some r ≡ false → r ≡ None
is_none None h = refl
is_none (Some x) h = cc

pub keys_of-push : (es : List (Id × ℕ)) (id : Id) (n : ℕ) → keys_of (es ++ (id, n) ∷ []) ≡ keys_of es ++ id ∷ []
keys_of-push [] id n = refl
keys_of-push (e ∷ es) id n = ap (λ ids. e.0 ∷ ids) (keys_of-push es id n)

-- one more page, with a new id
pub IsService-push : (s : ServiceFields) (a : Authored) → IsService s → length s.pages < 2000 → IsAuthored s.serial a →
    has_id s.pages a.page.id ≡ false
    → IsService (with_page s a)
IsService-push s a was room one new = record {
  lines_from = was.lines_from;
  lines_to = was.lines_to;
  count = grind (arith, common_steps);
  pages = All-push (IsAuthored s.serial) s.pages a was.pages one;
  distinct =
      subst (AllPairs (λ x y. x ≢ y)) (sym (map-append (λ (p : Authored). p.page.id) s.pages (a ∷ [])))
      (distinct_push (authored_ids s.pages) a.page.id was.distinct new);
}
