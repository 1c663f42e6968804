-- Rows and memories stay in their ranges.
use Rattle.std.proofs.Common.{◌≡◌, ℕ, zero, suc, ◌-◌, ◌%◌, ◌<◌, ◌≤◌, Bool, true, false, if◌then◌else◌, List, [], ◌∷◌, ◌++◌, length, get_or, take}
use Rattle.std.proofs.Common.{drop, set, replicate, refl, ap, ◌∙◌, subst, arith, lit<, length-append}
use Rattle.std.specs.Simd.Lanes.{zip2}
use Rattle.ttx_code.specs.Words.{stored, is_odd, ones}
use Rattle.ttx_page.specs.Pages.{Page, IsPage, IsRow, blank_row}
use Rattle.ttx_page.specs.Memories.{IsMemory, memory_row, memory_of_page}
use Rattle.ttx_page.specs.Receivers.{stored_row}

pub length-stored_row : (row bytes : List ℕ) → length (stored_row row bytes) ≡ length row
length-stored_row [] bytes = refl
length-stored_row (c ∷ row) [] = refl
length-stored_row (c ∷ row) (b ∷ bytes) = ap suc (length-stored_row row bytes)

-- for a row and bytes of equal length, each byte acts on the character at its place
pub stored_row-zip2 : (row bytes : List ℕ) → length bytes ≡ length row → zip2 stored bytes row ≡ stored_row row bytes
stored_row-zip2 [] [] e = refl
stored_row-zip2 [] (b ∷ bytes) e = absurd (omega arith)
stored_row-zip2 (c ∷ row) [] e = absurd (omega arith)
stored_row-zip2 (c ∷ row) (b ∷ bytes) e = ap (λ r. stored b c ∷ r) (stored_row-zip2 row bytes (omega arith))

-- zero bytes leave what is held unchanged
pub stored_row-zeros : (n : ℕ) (row bytes : List ℕ) → n ≤ length row → stored_row row (replicate n 0 ++ bytes) ≡ take n row
    ++ stored_row (drop n row) bytes
unfolding ones
stored_row-zeros zero row bytes h = refl
stored_row-zeros (suc n) [] bytes h = absurd (omega arith)
stored_row-zeros (suc n) (c ∷ row) bytes h = ap (λ r. c ∷ r) (stored_row-zeros n row bytes (omega arith))

stored-low : (b c : ℕ) → c < 128 → stored b c < 128
stored-low b c low = by (is_odd b)
  where
    by : (odd : Bool) → (if odd then b % 128 else c) < 128
    by true = omega arith
    by false = low

pub stored_row-low : (row bytes : List ℕ) → ((c : ℕ) → get_or row c 0 < 128) → (c : ℕ) → get_or (stored_row row bytes) c 0 < 128
stored_row-low [] bytes low c = low c
stored_row-low (x ∷ row) [] low c = low c
stored_row-low (x ∷ row) (b ∷ bytes) low zero = stored-low b x (low zero)
stored_row-low (x ∷ row) (b ∷ bytes) low (suc c) = stored_row-low row bytes (λ k. low (suc k)) c

pub IsRow-stored_row : (row bytes : List ℕ) → IsRow row → IsRow (stored_row row bytes)
IsRow-stored_row row bytes is = record { length = length-stored_row row bytes ∙ is.length; codes = stored_row-low row bytes is.codes }

pub spaces-low : (n c : ℕ) (rest : List ℕ) → ((k : ℕ) → get_or rest k 0 < 128) → get_or (replicate n 32 ++ rest) c 0 < 128
spaces-low zero c rest low = low c
spaces-low (suc n) zero rest low = lit< tt
spaces-low (suc n) (suc c) rest low = spaces-low n c rest low

pub none-low : (k : ℕ) → get_or {A = ℕ} [] k 0 < 128
none-low k = lit< tt

pub IsRow-spaces : IsRow blank_row
IsRow-spaces = record { length = refl; codes = λ c. spaces-low 40 c [] none-low }

pub rows-blank : (n r : ℕ) → r < n → IsRow (get_or (replicate n blank_row) r [])
rows-blank zero r h = absurd (omega arith)
rows-blank (suc n) zero h = IsRow-spaces
rows-blank (suc n) (suc r) h = rows-blank n r (omega arith)

-- row 0 between spaces
pub IsRow-top : (head : List ℕ) → length head ≡ 24 → ((c : ℕ) → get_or head c 0 < 128) → IsRow (replicate 8 32 ++ head ++ replicate 8 32)
IsRow-top head long low = record {
  length = simp length-append (omega arith);
  codes = λ c. spaces-low 8 c (head ++ replicate 8 32) (λ k. joined head (replicate 8 32) low (λ q. spaces-low 8 q [] none-low) k);
}
  where
    joined : (xs ys : List ℕ) → ((k : ℕ) → get_or xs k 0 < 128) → ((k : ℕ) → get_or ys k 0 < 128) → (k : ℕ) → get_or (xs ++ ys) k 0 < 128
    joined [] ys low high k = high k
    joined (x ∷ xs) ys low high zero = low zero
    joined (x ∷ xs) ys low high (suc k) = joined xs ys (λ q. low (suc q)) high k

pub IsMemory-memory_of_page : (p : Page) → IsPage p → IsMemory (memory_of_page p)
IsMemory-memory_of_page p is = record {
  row_count = ap suc is.row_count;
  rows = rows;
  control = is.control;
  at_most = omega arith;
}
  where
    rows : (r : ℕ) → r < 25 → IsRow (memory_row (memory_of_page p) r)
    rows zero lt = IsRow-top p.head is.head_length is.head_codes
    rows (suc r) lt = let e : suc r - 1 ≡ r = omega arith in subst (λ k. IsRow (get_or p.rows k [])) e (is.rows (suc r) (omega arith) (omega arith))

-- a memory in which the rows below row 0 are spaces
pub IsRow-erased : (rows : List (List ℕ)) → ((r : ℕ) → r < 25 → IsRow (get_or rows r [])) → (r : ℕ) → r < 25 →
    IsRow (get_or (set (replicate 25 blank_row) 0 (get_or rows 0 [])) r [])
IsRow-erased rows each zero lt = each 0 (omega arith)
IsRow-erased rows each (suc r) lt = rows-blank 24 r (omega arith)
