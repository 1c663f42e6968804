-- Blank memories, pages received whole, and cleared memories.
use Rattle.std.proofs.Common.{◌≡◌, false, ℕ, zero, suc, ◌+◌, ◌-◌, ◌<◌, ◌≤◌, true, List, [], ◌∷◌, ◌++◌, length, get_or, take, replicate, not, ◌&&◌}
use Rattle.std.proofs.Common.{◌==◌, Option, Some, None, is_none, subst, eqb-true, nat_le, refl, sym, ap, ◌∙◌, arith}
use Rattle.std.proofs.lemmas.Bool.{not-true, and_parts}
use Rattle.std.proofs.lemmas.Bool.Decides.{nat_tests}
use Rattle.std.specs.List.{list_all}
use Rattle.ttx_header.specs.Ids.{Id}
use Rattle.ttx_links.specs.Sets.{LinkSet}
use Rattle.ttx_page.specs.Pages.{Page, Item, TheHead, TheRow, TheLinks, Any, Clearing, blank_row, needed, page_row}
use Rattle.ttx_page.specs.Memories.{IsMemory, blank_memory, memory_of_page, Holds}
use Rattle.ttx_page.specs.Laws.{BlankIsFormer, PageIsShown, ErasedHoldsBlank, BlankIsTested}
use Rattle.ttx_page.proofs.KeptRanges.{rows-blank}

IsMemory-blank : IsMemory blank_memory
IsMemory-blank = record { row_count = refl; rows = rows-blank 25; control = omega arith; at_most = omega arith }

pub blank_is_former : BlankIsFormer
blank_is_former Any = IsMemory-blank
blank_is_former Clearing = (IsMemory-blank, refl)

-- the characters after n spaces
behind : (n : ℕ) (rest : List ℕ) (c : ℕ) → get_or (replicate n 32 ++ rest) (n + c) 0 ≡ get_or rest c 0
behind zero rest c = let e : 0 + c ≡ c = omega arith in ap (λ k. get_or rest k 0) e
behind (suc n) rest c = let e : suc n + c ≡ suc (n + c) = omega arith in ap (λ k. get_or (32 ∷ (replicate n 32 ++ rest)) k 0) e ∙ behind n rest c

head_at : (head rest : List ℕ) (c : ℕ) → c < length head → get_or (head ++ rest) c 0 ≡ get_or head c 0
head_at [] rest c h = absurd (omega arith)
head_at (x ∷ head) rest zero h = refl
head_at (x ∷ head) rest (suc c) h = head_at head rest c (omega arith)

-- a needed row has a number from 1 to 24
row_to_24 : (p : Page) (number : ℕ) → needed p (TheRow number) ≡ true → number ≤ 24
row_to_24 p number need = to_24 number ((and_parts (nat_le 1 number) (nat_le number 24) (and_parts _ _ (and_parts _ _ need).0).0).1)
  where
    to_24 : (n : ℕ) → nat_le n 24 ≡ true → n ≤ 24
    to_24 n h = grind (arith, nat_tests)

row_from_1 : (p : Page) (number : ℕ) → needed p (TheRow number) ≡ true → 1 ≤ number
row_from_1 p zero need = cc
row_from_1 p (suc r) need = omega arith

pub page_is_shown : PageIsShown
page_is_shown p is = record { control = refl; items = holds }
  where
    holds : (item : Item) → needed p item ≡ true → Holds p (memory_of_page p) item
    holds TheHead need = λ c lt. behind 8 (p.head ++ replicate 8 32) c ∙ head_at p.head (replicate 8 32) c (let e = is.head_length in omega arith)
    holds (TheRow zero) need = cc
    holds (TheRow (suc r)) need = let e : r ≡ suc r - 1 = omega arith in ap (λ k. get_or p.rows k []) e
    holds TheLinks need = refl

spaces_at : (n r : ℕ) → r < n → get_or (replicate n blank_row) r [] ≡ blank_row
spaces_at zero r h = absurd (omega arith)
spaces_at (suc n) zero h = refl
spaces_at (suc n) (suc r) h = spaces_at n r (omega arith)

-- the rows below row 0 are spaces
erased_at : (rows : List (List ℕ)) → 0 < length rows → (r : ℕ) → r < 24 → get_or (take 1 rows ++ replicate 24 blank_row) (suc r) [] ≡ blank_row
erased_at [] some r h = absurd (omega arith)
erased_at (x ∷ rows) some r h = spaces_at 24 r h

pub erased_holds_blank : ErasedHoldsBlank
erased_holds_blank p m TheHead is need blank = absurd blank
erased_holds_blank p m (TheRow zero) is need blank = cc
erased_holds_blank p m (TheRow (suc r)) is need blank =
    let to = row_to_24 p (suc r) need in erased_at m.rows (let e = is.row_count in omega arith) r (omega arith) ∙ sym blank
erased_holds_blank p m TheLinks is need blank = sym blank

spaces_from_test : (row : List ℕ) → list_all (λ c. c == 32) row ≡ true → row ≡ replicate (length row) 32
spaces_from_test [] h = refl
spaces_from_test (c ∷ row) h = let first : c ≡ 32 = eqb-true _ _ ((and_parts _ _ h).0) in ap (λ x. x ∷ row) first
    ∙ ap (λ r. 32 ∷ r) (spaces_from_test row ((and_parts _ _ h).1))

test_of_spaces : (n : ℕ) → list_all (λ c. c == 32) (replicate n 32) ≡ true
test_of_spaces zero = refl
test_of_spaces (suc n) = test_of_spaces n

none_from_test : (six : List (Option Id)) → list_all is_none six ≡ true → six ≡ replicate (length six) None
none_from_test [] h = refl
none_from_test (None ∷ six) h = ap (λ r. None ∷ r) (none_from_test six h)
none_from_test (Some id ∷ six) h = cc

pub blank_is_tested : BlankIsTested
blank_is_tested p TheHead is six need = ((λ h. cc), (λ b. absurd b))
blank_is_tested p (TheRow number) is six need = (
  (λ h. spaces_from_test (page_row p number) h ∙ ap (λ n. replicate n 32)
      (is.rows number (row_from_1 p number need) (row_to_24 p number need)).length),
  (λ b. subst (λ row. list_all (λ c. c == 32) row ≡ true) (sym b) (test_of_spaces 40)),
)
blank_is_tested p TheLinks is six need = (
  (λ h. let none : p.links.six ≡ replicate 6 None = none_from_test p.links.six ((and_parts _ _ h).0) ∙ ap (λ n. replicate n None) six in
      let hidden : p.links.show24 ≡ false = not-true _ ((and_parts _ _ h).1) in
      λ i. record { six = none i; show24 = hidden i }),
  (λ b. subst (λ (l : LinkSet). (list_all is_none l.six && not l.show24) ≡ true) (sym b) refl),
)
