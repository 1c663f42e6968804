-- The counts of page numbers, and the lines that they give.
use Rattle.std.proofs.Common.{◌≡◌, ℕ, ◌+◌, ◌*◌, ◌<◌, Bool, true, false, ◌&&◌, ◌||◌, List, [], ◌∷◌, map, Some, length, get_or, refl, sym, ap, subst, ◌∙◌, arith}
use Rattle.std.specs.Prelude.{◌==◌, not, nat_le, take, if◌then◌else◌}
use Rattle.std.specs.List.{list_any}
use Rattle.std.proofs.lemmas.List.{take-map, length-map, get_or-map}
use Rattle.std.proofs.lemmas.List.Folds.{list_any_more}
use Rattle.std.proofs.lemmas.List.Sums.{sum_by-cons}
use Rattle.ttx_page.specs.Views.{page_of}
use Rattle.ttx_page.specs.declared.page.Page.{Page}
use Rattle.ttx_source.specs.Promises.{PromiseFields}
use Rattle.ttx_numbers.specs.Numbers.{share_number, siblings}
use Rattle.ttx_tallies.specs.Tallies.{times_among}
use Rattle.ttx_stays.specs.ShortNumbers.{key_of, keeps, short_line, counted_text, short_text}

same_key : (a b c d : ℕ) → b < 256 → d < 256 → (c * 256 + d == a * 256 + b) ≡ ((a == c) && (b == d))
same_key a b c d l m = grind arith

same : (p q : Page) → (key_of (page_of q) == key_of (page_of p)) ≡ share_number (page_of p) (page_of q)
same p q = same_key p.id.mag p.id.page q.id.mag q.id.page p.kept.id.page q.kept.id.page

any_same : (p : Page) (pages : List Page) → list_any (λ k. k == key_of (page_of p)) (map key_of (map page_of pages))
    ≡ list_any (share_number (page_of p)) (map page_of pages)
any_same p [] = refl
any_same p (q ∷ pages) = rw (same p q, any_same p pages) refl

one_more : (a b : Bool) (m n : ℕ) → a ≡ b → m ≡ n → (if a then 1 else 0) + m ≡ (if b then 1 else 0) + n
one_more a b m n e f = rw (e, f) refl

times_same : (p : Page) (pages : List Page) → times_among (map key_of (map page_of pages)) (key_of (page_of p))
    ≡ siblings (map page_of pages) (page_of p)
times_same p [] = refl
times_same p (q ∷ pages) =
    sum_by-cons (λ k. if k == key_of (page_of p) then 1 else 0) (key_of (page_of q)) (map key_of (map page_of pages))
    ∙ one_more _ _ _ _ (same p q) (times_same p pages)
    ∙ sym (sum_by-cons (λ x. if share_number (page_of p) x then 1 else 0) (page_of q) (map page_of pages))

-- the numbers of the first pages, as those of all pages
before : (p : Page) (pages : List Page) (i : ℕ) → list_any (λ k. k == key_of (page_of p)) (take i (map key_of (map page_of pages)))
    ≡ list_any (share_number (page_of p)) (take i (map page_of pages))
before p pages i =
    ap (list_any (λ k. k == key_of (page_of p))) (take-map key_of i (map page_of pages) ∙ ap (map key_of) (take-map page_of i pages))
    ∙ any_same p (take i pages) ∙ ap (list_any (share_number (page_of p))) (sym (take-map page_of i pages))

by_cases : (a kept : Bool) (n : ℕ) (line : ℕ → List ℕ) → (if nat_le 2 (if a then 0 else n) && not kept then line (if a then 0 else n) else [])
    ≡ (if (not a && nat_le 2 n) && not kept then line n else [])
by_cases true kept n line = refl
by_cases false kept n line = refl

-- how often a number is still counted when the first i pages have been read
abbrev pub still_counted : List Page → ℕ → ℕ → ℕ
still_counted pages i n =
    if list_any (λ k. k == n) (take i (map key_of (map page_of pages))) then 0 else times_among (map key_of (map page_of pages)) n

pub counted_is_short : (pages : List Page) (stays : List PromiseFields) (i : ℕ) (p : Page) →
    counted_text (map page_of pages) stays (page_of p) (still_counted pages i (key_of (page_of p)))
    ≡ short_text (map page_of pages) stays i (Some (page_of p))
counted_is_short pages stays i p =
    rw (before p pages i, times_same p pages)
    (by_cases (list_any (share_number (page_of p)) (take i (map page_of pages))) (list_any (keeps (map page_of pages) (page_of p)) stays)
    (siblings (map page_of pages) (page_of p)) (short_line p.id))

if_more : (a b : Bool) (n : ℕ) → (if b then 0 else (if a then 0 else n)) ≡ (if a || b then 0 else n)
if_more true true n = refl
if_more true false n = refl
if_more false true n = refl
if_more false false n = refl

-- one page more, whose number is counted no longer
pub counted_less : (pages : List Page) (i n : ℕ) (p : Page) → i < length pages → p ≡ get_or pages i p →
    (if key_of (page_of p) == n then 0 else still_counted pages i n) ≡ still_counted pages (i + 1) n
counted_less pages i n p lt is =
    let keys = map key_of (map page_of pages) in
    let key = key_of (page_of p) in
    let all = times_among keys n in
    let wide : i < length (map page_of pages) = subst (λ n. i < n) (sym (length-map pages page_of)) lt in
    let long : i < length keys = subst (λ n. i < n) (sym (length-map (map page_of pages) key_of)) wide in
    let here : get_or keys i key ≡ key =
    get_or-map key_of (map page_of pages) i (page_of p) key wide ∙ ap key_of (get_or-map page_of pages i p (page_of p) lt)
    ∙ ap (λ q. key_of (page_of q)) (sym is) in
    let more = list_any_more (λ k. k == n) keys i key long ∙ ap (λ k. list_any (λ k. k == n) (take i keys) || (k == n)) here in
    if_more (list_any (λ k. k == n) (take i keys)) (key == n) all ∙ ap (λ b. if b then 0 else all) (sym more)
