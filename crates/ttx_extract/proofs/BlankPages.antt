-- A page that says nothing is a page.
use Rattle.std.proofs.Common.{◌≡◌, ◌≢◌, ◌↔◌, ℕ, zero, suc, ◌-◌, ◌<◌, List, [], get_or, replicate, Option, Some, None, IsSome, IfSome, MatchOption, refl, sym, ap}
use Rattle.std.proofs.Common.{subst, arith}
use Rattle.std.proofs.lemmas.List.{get_or-replicate}
use Rattle.ttx_header.specs.Ids.{Id, IsId}
use Rattle.ttx_links.specs.Sets.{LinkSet}
use Rattle.ttx_page.specs.Pages.{Page, IsPage, IsRow, page_at, blank_row}
use Rattle.ttx_page.specs.declared.page.Page.{Page as PageValue}
use Rattle.ttx_page.specs.Views.{page_of}

spaces : (n c : ℕ) → get_or (replicate n 32) c 0 < 128
spaces zero zero = omega arith
spaces zero (suc c) = omega arith
spaces (suc n) zero = omega arith
spaces (suc n) (suc c) = spaces n c

blank_is : IsRow blank_row
blank_is = record { length = refl; codes = spaces 40 }

abbrev pub blank : Id → LinkSet → List ℕ → Page
blank id set crc = page_at id 0 (replicate 24 32) (replicate 24 (replicate 40 32)) set crc

pub blank_page : (id : Id) (set : LinkSet) (crc : List ℕ) → IsId id → id.page ≢ 0xff → id.sub ≢ 0x3f7f → IsPage (blank id set crc)
blank_page id set crc is page sub = record {
  id = is;
  page = page;
  sub = sub;
  control = omega arith;
  no_erase = refl;
  head_length = refl;
  head_codes = spaces 24;
  row_count = refl;
  rows = λ r from to. subst IsRow (sym (get_or-replicate 24 (r - 1) (replicate 40 32) [] (omega arith))) blank_is;
}

pub told : (p : Page) (result : Option PageValue) → IsPage p → IsSome result ↔ IsPage p → IfSome result (λ q. page_of q ≡ p) →
    MatchOption result (p.id.sub ≡ 0x3f7f) (λ q. (page_of q).id ≡ p.id)
told p None is some fields = absurd (let h = some.1 is in cc)
told p (Some q) is some fields = ap (λ r. r.id) fields
