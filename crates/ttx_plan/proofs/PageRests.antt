-- The rows and X/27/0 of a page's block: the packets of those items that are sent.
use Rattle.std.proofs.Common.{◌≡◌, ℕ, zero, suc, ◌≤◌, Bool, true, cond, List, [], ◌∷◌, refl, sym, subst, inl, inr, arith}
use Rattle.std.specs.List.{AllByRecursion}
use Rattle.std.proofs.lemmas.Bool.{cond-true, cases_lt}
use Rattle.ttx_page.specs.declared.class.Class.{Class}
use Rattle.ttx_page.specs.declared.item.Item.TheVariants.{Row as TheRow, Links as TheLinks}
use Rattle.ttx_page.specs.Pages.{Page}
use Rattle.ttx_plan.specs.Contents.{page_row_bytes, page_links_bytes, is_sent_to, sent_rows, rest_of}
use Rattle.ttx_plan.proofs.ListElements.{all_append, all_if, Has, has_left, has_right}

-- what holds for the packet of each row and for X/27/0 holds for those that are sent
pub rest_all : (P : List ℕ → Type 0) (class : Class) (p : Page) → ((r : ℕ) → 1 ≤ r → r ≤ 24 → P (page_row_bytes p r)) → P (page_links_bytes p) →
    AllByRecursion P (rest_of class p)
rest_all P class p row links = all_append P (sent_rows class p 24) (cond (is_sent_to class p TheLinks) (page_links_bytes p ∷ []) [])
    (rows 24 (omega arith)) (all_if P (is_sent_to class p TheLinks) (page_links_bytes p) (λ _. links))
  where
    rows : (n : ℕ) → n ≤ 24 → AllByRecursion P (sent_rows class p n)
    rows zero le = tt
    rows (suc n) le = all_append P (sent_rows class p n) (cond (is_sent_to class p (TheRow (suc n))) (page_row_bytes p (suc n) ∷ []) [])
        (rows n (omega arith)) (all_if P (is_sent_to class p (TheRow (suc n))) (page_row_bytes p (suc n)) (λ _. row (suc n) (omega arith) le))

has_if : (b : Bool) (x : List ℕ) → b ≡ true → Has x (cond b (x ∷ []) [])
has_if b x e = subst (Has x) (sym (cond-true b (x ∷ []) [] e)) (inl refl)

has_row : (class : Class) (p : Page) (n r : ℕ) → 1 ≤ r → r ≤ n → is_sent_to class p (TheRow r) ≡ true → Has (page_row_bytes p r) (sent_rows class p n)
has_row class p zero r from to e = absurd (omega arith)
has_row class p (suc n) r from to e =
    let last = cond (is_sent_to class p (TheRow (suc n))) (page_row_bytes p (suc n) ∷ []) [] in
    elim (cases_lt n r) as (λ _. Has (page_row_bytes p r) (sent_rows class p (suc n))) [
      | inl more ↦ let q : suc n ≡ r = omega arith in has_right (page_row_bytes p r) (sent_rows class p n) last
          (subst (λ x. Has (page_row_bytes p r) (cond (is_sent_to class p (TheRow x)) (page_row_bytes p x ∷ []) [])) (sym q)
          (has_if (is_sent_to class p (TheRow r)) (page_row_bytes p r) e))
      | inr le ↦ has_left (page_row_bytes p r) (sent_rows class p n) last (has_row class p n r from le e)
    ]

pub row_in_rest : (class : Class) (p : Page) (r : ℕ) → 1 ≤ r → r ≤ 24 → is_sent_to class p (TheRow r) ≡ true →
    Has (page_row_bytes p r) (rest_of class p)
row_in_rest class p r from to e = has_left (page_row_bytes p r) (sent_rows class p 24) _ (has_row class p 24 r from to e)

pub links_in_rest : (class : Class) (p : Page) → is_sent_to class p TheLinks ≡ true → Has (page_links_bytes p) (rest_of class p)
links_in_rest class p e = has_right (page_links_bytes p) (sent_rows class p 24) _ (has_if (is_sent_to class p TheLinks) (page_links_bytes p) e)
