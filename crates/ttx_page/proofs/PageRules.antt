-- The rules of pages and memories, from the tests of their fields.
use Rattle.std.proofs.Common.{◌≡◌, ◌≢◌, ℕ, ◌+◌, ◌-◌, ◌<◌, false, List, [], length, get_or, subst, arith}
use Rattle.ttx_header.specs.Ids.{Id, IsId}
use Rattle.ttx_header.specs.Control.{IsControl, c4}
use Rattle.ttx_links.specs.Sets.{LinkSet}
use Rattle.ttx_page.specs.Pages.{IsRow, IsPage, page_at}

-- what the tests of `Page::new` check
pub record PassesAsPage (id : Id) (bits : ℕ) (top : List ℕ) (lower : List (List ℕ)) : Type 0 where
  pub filling : (id.page ≢ 255) × (id.sub ≢ 16255)
  pub control : IsControl bits × (c4 bits ≡ false)
  pub head : (c : ℕ) → get_or top c 0 < 128
  pub rows : (r : ℕ) → r < 24 → IsRow (get_or lower r [])

pub IsPage_from_passes : (id : Id) (control : ℕ) (head : List ℕ) (rows : List (List ℕ)) (links : LinkSet) (crc : List ℕ) →
    IsId id → length head ≡ 24 → length rows ≡ 24 → PassesAsPage id control head rows → IsPage (page_at id control head rows links crc)
IsPage_from_passes id control head rows links crc ranges long count t = record {
  id = ranges;
  page = t.filling.0;
  sub = t.filling.1;
  control = t.control.0;
  no_erase = t.control.1;
  head_length = long;
  head_codes = t.head;
  row_count = count;
  rows = λ r low high. t.rows (r - 1) (omega arith);
}

pub passes_from_IsPage : (id : Id) (control : ℕ) (head : List ℕ) (rows : List (List ℕ)) (links : LinkSet) (crc : List ℕ) →
    IsPage (page_at id control head rows links crc) → PassesAsPage id control head rows
passes_from_IsPage id control head rows links crc p = record {
  filling = (p.page, p.sub);
  control = (p.control, p.no_erase);
  head = p.head_codes;
  rows = λ r high. let e : (r + 1) - 1 ≡ r = omega arith in subst (λ k. IsRow (get_or rows k [])) e (p.rows (r + 1) (omega arith) (omega arith));
}
