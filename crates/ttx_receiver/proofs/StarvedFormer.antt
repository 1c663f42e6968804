-- The former memory: the page's own, except for one character or one link.
use Rattle.std.proofs.Common.{◌≡◌, ◌≢◌, ℕ, zero, suc, ◌+◌, ◌-◌, ◌<◌, true, false, ◌==◌, List, [], ◌∷◌, ◌++◌, get_or, set, replicate, refl, sym, ap}
use Rattle.std.proofs.Common.{◌∙◌, subst, inl, inr, arith, eqb-true, eq-eqb, length-set, get_or-set_same, get_or-set_other, length-append}
use Rattle.std.proofs.lemmas.Bool.{cases_Bool, cond_both, both_ways}
use Rattle.ttx_page.specs.Pages.{Page, IsPage, IsRow, needed}
use Rattle.ttx_page.specs.declared.item.Item.{Item}
use Rattle.ttx_page.specs.declared.item.Item.TheVariants.{Head as TheHead, Row as TheRow, Links as TheLinks}
use Rattle.ttx_page.specs.Memories.{Memory, IsMemory, memory_row, char_at, memory_of_page, Holds}
use Rattle.ttx_page.specs.Laws.{PageIsShown}
use Rattle.ttx_receiver.specs.Starving.{other_letter, with_letter, wrong_memory, HoldsWrong}
use Rattle.ttx_receiver.proofs.TakenItems.{needed_row}

abbrev AreCodes : List ℕ → Type 0
AreCodes row = (c : ℕ) → get_or row c 0 < 128

codes_append : (xs ys : List ℕ) → AreCodes xs → AreCodes ys → AreCodes (xs ++ ys)
codes_append [] ys f g c = g c
codes_append (x ∷ xs) ys f g zero = f 0
codes_append (x ∷ xs) ys f g (suc c) = codes_append xs ys (λ k. f (suc k)) g c

spaces : (n : ℕ) → AreCodes (replicate n 32)
spaces zero c = omega arith
spaces (suc n) zero = omega arith
spaces (suc n) (suc c) = spaces n c

first_row : (p : Page) → IsPage p → IsRow (replicate 8 32 ++ p.head ++ replicate 8 32)
first_row p page = record {
  length = length-append (replicate 8 32) (p.head ++ replicate 8 32) ∙ omega (arith, length-append p.head (replicate 8 32), page.head_length);
  codes = codes_append (replicate 8 32) (p.head ++ replicate 8 32) (spaces 8) (codes_append p.head (replicate 8 32) page.head_codes (spaces 8));
}

page_memory : (p : Page) → IsPage p → IsMemory (memory_of_page p)
page_memory p page = record { row_count = ap suc page.row_count; rows = rows_are; control = page.control; at_most = omega arith }
  where
    rows_are : (r : ℕ) → r < 25 → IsRow (memory_row (memory_of_page p) r)
    rows_are zero lt = first_row p page
    rows_are (suc r) lt = let e : suc r - 1 ≡ r = omega arith
        in subst (λ k. IsRow (get_or p.rows k [])) e (page.rows (suc r) (omega arith) (omega arith))

letter_code : (c : ℕ) → other_letter c < 128
letter_code c = cond_both (c == 0x41) 0x42 0x41 (λ x. x < 128) (λ _. omega arith) (λ _. omega arith)

module _ (m : Memory) (is : IsMemory m) (r c : ℕ) (low : r < 25) (col : c < 40) where
  abbrev row : List ℕ
  row = set (get_or m.rows r []) c (other_letter (char_at m r c))

  pub same_row : memory_row (with_letter m r c) r ≡ row
  same_row = get_or-set_same m.rows r row [] (omega (arith, is.row_count))

  pub other_row : (n : ℕ) → n ≢ r → memory_row (with_letter m r c) n ≡ memory_row m n
  other_row n ne = get_or-set_other m.rows r n row [] ne

  pub lettered : char_at (with_letter m r c) r c ≡ other_letter (char_at m r c)
  lettered = ap (λ x. get_or x c 0) same_row ∙ get_or-set_same (get_or m.rows r []) c (other_letter (char_at m r c)) 0
      (omega (arith, (is.rows r low).length))

  row_is : IsRow row
  row_is = record {
    length = length-set (get_or m.rows r []) c (other_letter (char_at m r c)) ∙ (is.rows r low).length;
    codes = λ k. elim (cases_Bool (k == c)) as (λ _. get_or row k 0 < 128) [
      | inl e ↦ let same : k ≡ c = eqb-true k c e in
          subst (λ x. get_or row x 0 < 128) (sym same)
          (subst (λ x. x < 128) (sym (get_or-set_same (get_or m.rows r []) c (other_letter (char_at m r c)) 0
          (omega (arith, (is.rows r low).length)))) (letter_code (char_at m r c)))
      | inr e ↦ subst (λ x. x < 128)
          (sym (get_or-set_other (get_or m.rows r []) c k (other_letter (char_at m r c)) 0 (λ q. both_ways _ e (eq-eqb k c q))))
          ((is.rows r low).codes k)
    ];
  }

  pub letter_memory : IsMemory (with_letter m r c)
  letter_memory = record {
    row_count = length-set m.rows r row ∙ is.row_count;
    rows = λ n lt. elim (cases_Bool (n == r)) as (λ _. IsRow (memory_row (with_letter m r c) n)) [
      | inl e ↦ let same : n ≡ r = eqb-true n r e
          in subst (λ x. IsRow (memory_row (with_letter m r c) x)) (sym same) (subst IsRow (sym same_row) row_is)
      | inr e ↦ subst IsRow (sym (other_row n (λ q. both_ways _ e (eq-eqb n r q)))) (is.rows n lt)
    ];
    control = is.control;
    at_most = is.at_most;
  }

pub wrong_is_memory : (p : Page) → IsPage p → (item : Item) → needed p item ≡ true → IsMemory (wrong_memory p item)
wrong_is_memory p page TheHead need = letter_memory (memory_of_page p) (page_memory p page) 0 8 (omega arith) (omega arith)
wrong_is_memory p page (TheRow r) need = let range = needed_row p r need
    in letter_memory (memory_of_page p) (page_memory p page) r 0 (omega (arith, range.1)) (omega arith)
wrong_is_memory p page TheLinks need =
    let is = page_memory p page in record { row_count = is.row_count; rows = is.rows; control = is.control; at_most = is.at_most }

pub wrong_is_idle : (p : Page) (item : Item) → let m = wrong_memory p item in (m.storing ≡ false) × (m.fresh ≡ false) × (m.control ≡ p.control)
wrong_is_idle p TheHead = (refl, refl, refl)
wrong_is_idle p (TheRow r) = (refl, refl, refl)
wrong_is_idle p TheLinks = (refl, refl, refl)

pub wrong_is_wrong : PageIsShown → (p : Page) → IsPage p → (item : Item) → needed p item ≡ true → HoldsWrong p (wrong_memory p item) item
wrong_is_wrong shown p page TheHead need =
    lettered (memory_of_page p) (page_memory p page) 0 8 (omega arith) (omega arith)
    ∙ ap other_letter ((shown p page).items TheHead need 0 (omega arith))
wrong_is_wrong shown p page (TheRow r) need =
    let range = needed_row p r need in
    lettered (memory_of_page p) (page_memory p page) r 0 (omega (arith, range.1)) (omega arith)
    ∙ ap (λ x. other_letter (get_or x 0 0)) ((shown p page).items (TheRow r) need)
wrong_is_wrong shown p page TheLinks need = refl

pub others_are_right : PageIsShown → (p : Page) → IsPage p → (item : Item) → needed p item ≡ true → (other : Item) → other ≢ item →
    needed p other ≡ true → Holds p (wrong_memory p item) other
others_are_right shown p page TheHead need TheHead ne need' = absurd (ne refl)
others_are_right shown p page TheHead need (TheRow n) ne need' =
    let range = needed_row p n need' in
    let apart : n ≢ 0 = omega (arith, range.0) in
    other_row (memory_of_page p) (page_memory p page) 0 8 (omega arith) (omega arith) n apart ∙ (shown p page).items (TheRow n) need'
others_are_right shown p page TheHead need TheLinks ne need' = refl
others_are_right shown p page (TheRow r) need TheHead ne need' =
    let range = needed_row p r need in
    let apart : 0 ≢ r = omega (arith, range.0) in
    λ c lt. ap (λ x. get_or x (8 + c) 0)
    (other_row (memory_of_page p) (page_memory p page) r 0 (omega (arith, range.1)) (omega arith) 0 apart)
    ∙ (shown p page).items TheHead need' c lt
others_are_right shown p page (TheRow r) need (TheRow n) ne need' =
    let range = needed_row p r need in
    other_row (memory_of_page p) (page_memory p page) r 0 (omega (arith, range.1)) (omega arith) n (λ e. ne (ap TheRow e))
    ∙ (shown p page).items (TheRow n) need'
others_are_right shown p page (TheRow r) need TheLinks ne need' = refl
others_are_right shown p page TheLinks need TheHead ne need' = (shown p page).items TheHead need'
others_are_right shown p page TheLinks need (TheRow n) ne need' = (shown p page).items (TheRow n) need'
others_are_right shown p page TheLinks need TheLinks ne need' = absurd (ne refl)
