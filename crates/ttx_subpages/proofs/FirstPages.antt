-- The first page of a number, and what is said of the numbers in the first pages of a list.
use Rattle.std.proofs.Common.{◌≡◌, ℕ, zero, suc, ◌+◌, ◌<◌, ◌≤◌, Bool, true, false, ◌&&◌, ◌==◌, cond, List, [], ◌∷◌, ◌++◌, length, map, get_or, take, drop, filter}
use Rattle.std.proofs.Common.{Some, None, refl, sym, ap, ◌∙◌, arith}
use Rattle.std.proofs.lemmas.List.{map-append, append-nil}
use Rattle.std.proofs.lemmas.List.Elements.{filter_more}
use Rattle.std.proofs.Math.Seq.{take-length}
use Rattle.std.specs.List.{AllByRecursion, find}
use Rattle.ttx_header.specs.Ids.{Id, same_id}
use Rattle.ttx_page.specs.Pages.{Page}
use Rattle.ttx_page.specs.Streams.{Stream}
use Rattle.ttx_subpages.specs.Numbers.{leads}
use Rattle.ttx_subpages.specs.NumberReports.{IsReport, AreReportsBelow, AreReports}
use Rattle.ttx_subpages.specs.declared.reports.NumberReport.{NumberReport}

and_three : (x y z : Bool) → (x && (y && z)) ≡ ((x && y) && z)
and_three true y z = refl
and_three false y z = refl

-- what `==` answers at two ids
pub tested_same : (a b : Id) → ((a.mag == b.mag) && ((a.page == b.page) && (a.sub == b.sub))) ≡ same_id a b
tested_same a b = and_three (a.mag == b.mag) (a.page == b.page) (a.sub == b.sub)

module _ {A : Type 0} (P : A → Bool) where
  -- the first of the rest
  pub found : (xs : List A) (i : ℕ) (d : A) → i < length xs → P (get_or xs i d) ≡ true → find P (drop i xs) ≡ Some (get_or xs i d)
  found [] i d lt h = absurd (omega arith)
  found (x ∷ xs) zero d lt h = rw h refl
  found (x ∷ xs) (suc i) d lt h = found xs i d (omega arith) h

  pub not_yet : (xs : List A) (i : ℕ) (d : A) → i < length xs → P (get_or xs i d) ≡ false → find P (drop i xs) ≡ find P (drop (i + 1) xs)
  not_yet [] i d lt h = absurd (omega arith)
  not_yet (x ∷ xs) zero d lt h = rw h refl
  not_yet (x ∷ xs) (suc i) d lt h =
      let e : suc (i + 1) ≡ suc i + 1 = omega arith in not_yet xs i d (omega arith) h ∙ ap (λ k. find P (drop k (x ∷ xs))) e

  pub none_left : (xs : List A) (i : ℕ) → length xs ≤ i → find P (drop i xs) ≡ None
  none_left [] zero le = refl
  none_left [] (suc i) le = refl
  none_left (x ∷ xs) zero le = absurd (omega arith)
  none_left (x ∷ xs) (suc i) le = none_left xs i (omega arith)

all_more : {A : Type 0} (P : A → Type 0) (xs : List A) (x : A) → AllByRecursion P xs → P x → AllByRecursion P (xs ++ x ∷ [])
all_more P [] x all here = (here, tt)
all_more P (y ∷ xs) x all here = (all.0, all_more P xs x all.1 here)

module _ (s : Stream) (pages : List Page) (n : ℕ) (d : Page) (lt : n < length pages) (reports : List NumberReport) where
  pub page_skips : leads pages (get_or pages n d) ≡ false → AreReportsBelow s pages n reports → AreReportsBelow s pages (n + 1) reports
  page_skips off below = record {
    firsts = below.firsts ∙ ap (map (λ p. p.id)) (sym (filter_more (leads pages) pages n d lt
        ∙ ap (λ b. filter (leads pages) (take n pages) ++ cond b (get_or pages n d ∷ []) []) off ∙ append-nil (filter (leads pages) (take n pages))));
    each = below.each;
  }

  pub page_more : (r : NumberReport) → leads pages (get_or pages n d) ≡ true → r.first ≡ (get_or pages n d).id → IsReport s pages r →
      AreReportsBelow s pages n reports → AreReportsBelow s pages (n + 1) (reports ++ r ∷ [])
  page_more r on id is below = record {
    firsts = map-append (λ t. t.first) reports (r ∷ [])
        ∙ ap (λ xs. xs ++ r.first ∷ []) below.firsts
        ∙ ap (λ x. map (λ p. p.id) (filter (leads pages) (take n pages)) ++ x ∷ []) id
        ∙ sym (map-append (λ (p : Page). p.id) (filter (leads pages) (take n pages)) (get_or pages n d ∷ []))
        ∙ ap (map (λ p. p.id)) (sym (filter_more (leads pages) pages n d lt
        ∙ ap (λ b. filter (leads pages) (take n pages) ++ cond b (get_or pages n d ∷ []) []) on));
    each = all_more (IsReport s pages) reports r below.each is;
  }

pub all_pages : (s : Stream) (pages : List Page) (n : ℕ) → n ≡ length pages → (reports : List NumberReport) → AreReportsBelow s pages n reports →
    AreReports s pages reports
all_pages s pages n e reports below = record {
  firsts = below.firsts ∙ ap (λ xs. map (λ p. p.id) (filter (leads pages) xs)) (ap (λ k. take k pages) e ∙ take-length pages);
  each = below.each;
}
