-- Rows of codes.
use Rattle.std.proofs.Common.{◌≡◌, ℕ, zero, suc, ◌<◌, List, [], ◌++◌, length, drop, replicate, get_or, refl, arith, lit<, get_or-drop, length-drop}
use Rattle.ttx_page.specs.Pages.{IsRow}

pub spaces-low : (n c : ℕ) (rest : List ℕ) → ((k : ℕ) → get_or rest k 0 < 128) → get_or (replicate n 0x20 ++ rest) c 0 < 128
spaces-low zero c rest low = low c
spaces-low (suc n) zero rest low = lit< tt
spaces-low (suc n) (suc c) rest low = spaces-low n c rest low

empty-low : (k : ℕ) → get_or {A = ℕ} [] k 0 < 128
empty-low k = lit< tt

pub IsRow-spaces : IsRow (replicate 40 0x20)
IsRow-spaces = record { length = refl; codes = λ c. spaces-low 40 c [] empty-low }

pub IsRow-head : (row : List ℕ) → IsRow row → IsRow (replicate 8 0x20 ++ drop 8 row)
IsRow-head row is = record {
  length = let e : length row ≡ 40 = is.length in simp length-drop (omega arith);
  codes = λ c. spaces-low 8 c (drop 8 row) (λ k. rw get_or-drop (is.codes _));
}
