-- The pages that take their places before one have few packets.
use Rattle.std.proofs.Common.{◌≡◌, ℕ, zero, suc, ◌+◌, ◌*◌, ◌%◌, ◌/◌, ◌<◌, ◌≤◌, Bool, true, false, cond, eqb, ltb, List, [], ◌∷◌, ◌++◌, length, take}
use Rattle.std.proofs.Common.{refl, sym, ap, ◌∙◌, subst, arith, inl, inr}
use Rattle.std.specs.Prelude.{filter}
use Rattle.std.specs.List.{AllByRecursion}
use Rattle.std.proofs.lemmas.Bool.{cond-true, cond-false, cases_Bool}
use Rattle.std.proofs.lemmas.List.{length-append, length-map}
use Rattle.std.proofs.lemmas.List.Sums.{sum_by-cons}
use Rattle.ttx_page.specs.declared.class.Class.{Class}
use Rattle.ttx_page.specs.declared.item.Item.TheVariants.{Row, Links}
use Rattle.ttx_page.specs.Pages.{Page}
use Rattle.ttx_source.specs.Services.{Authored}
use Rattle.ttx_plan.specs.Blocks.{Block, placed, packets_in}
use Rattle.ttx_plan.specs.Carries.{block_at, blocks_of}
use Rattle.ttx_plan.specs.Contents.{is_sent_to, sent_rows, rest_of, page_row_bytes, page_links_bytes}
use Rattle.ttx_plan.specs.Spread.{earlier, packets_so_far}

abbrev weight : Block → ℕ
weight block = cond {A = ℕ} block.filler 1 0 + (length block.rest + 1)

abbrev IsLight : Block → Type 0
IsLight block = weight block ≤ 26

abbrev AreLight : List Block → Type 0
AreLight blocks = AllByRecursion IsLight blocks

one_at_most : {A : Type 0} (b : Bool) (x : A) → length (cond {A = List A} b (x ∷ []) []) ≤ 1
one_at_most true x = omega arith
one_at_most false x = omega arith

few_rows : (class : Class) (p : Page) (n : ℕ) → length (sent_rows class p n) ≤ n
few_rows class p zero = omega arith
few_rows class p (suc n) =
    let before : length (sent_rows class p n) ≤ n = few_rows class p n in
    let last : length (cond {A = List (List ℕ)} (is_sent_to class p (Row (suc n))) (page_row_bytes p (suc n) ∷ []) []) ≤ 1 =
    one_at_most (is_sent_to class p (Row (suc n))) (page_row_bytes p (suc n)) in
    let both : length (sent_rows class p (suc n)) ≡ length (sent_rows class p n)
    + length (cond {A = List (List ℕ)} (is_sent_to class p (Row (suc n))) (page_row_bytes p (suc n) ∷ []) []) =
    length-append (sent_rows class p n) (cond (is_sent_to class p (Row (suc n))) (page_row_bytes p (suc n) ∷ []) []) in
    omega (arith, before, last, both)

few_items : (class : Class) (p : Page) → length (rest_of class p) ≤ 25
few_items class p =
    let rows : length (sent_rows class p 24) ≤ 24 = few_rows class p 24 in
    let last : length (cond {A = List (List ℕ)} (is_sent_to class p Links) (page_links_bytes p ∷ []) []) ≤ 1 =
    one_at_most (is_sent_to class p Links) (page_links_bytes p) in
    let both : length (rest_of class p) ≡ length (sent_rows class p 24)
    + length (cond {A = List (List ℕ)} (is_sent_to class p Links) (page_links_bytes p ∷ []) []) =
    length-append (sent_rows class p 24) (cond (is_sent_to class p Links) (page_links_bytes p ∷ []) []) in
    omega (arith, rows, last, both)

light_blocks : (class : Class) (pages : List Authored) → AreLight (blocks_of class pages)
light_blocks class [] = tt
light_blocks class (p ∷ pages) =
    let few : length (rest_of class p.page) ≤ 25 = few_items class p.page in
    (omega (arith, few), light_blocks class pages)

light_placed : (places : List ℕ) (blocks : List Block) → AreLight blocks → AreLight (placed places blocks)
light_placed [] blocks a = a
light_placed (place ∷ places) [] a = tt
light_placed (place ∷ places) (b ∷ blocks) a = (a.0, light_placed places blocks a.1)

light_filter : (test : Block → Bool) (xs : List Block) → AreLight xs → AreLight (filter test xs)
light_filter test [] a = tt
light_filter test (x ∷ xs) a = elim (cases_Bool (test x)) [
  | inl t ↦ subst AreLight (sym (cond-true (test x) (x ∷ filter test xs) (filter test xs) t)) (a.0, light_filter test xs a.1)
  | inr f ↦ subst AreLight (sym (cond-false (test x) (x ∷ filter test xs) (filter test xs) f)) (light_filter test xs a.1)
]

light_take : (n : ℕ) (xs : List Block) → AreLight xs → AreLight (take n xs)
light_take zero xs a = tt
light_take (suc n) [] a = tt
light_take (suc n) (x ∷ xs) a = (a.0, light_take n xs a.1)

light_append : (xs ys : List Block) → AreLight xs → AreLight ys → AreLight (xs ++ ys)
light_append [] ys a b = b
light_append (x ∷ xs) ys a b = (a.0, light_append xs ys a.1 b)

fewer_filtered : (test : Block → Bool) (xs : List Block) → length (filter test xs) ≤ length xs
fewer_filtered test [] = omega arith
fewer_filtered test (x ∷ xs) =
    let rest : length (filter test xs) ≤ length xs = fewer_filtered test xs in
    elim (cases_Bool (test x)) [
      | inl t ↦
          let is : length (filter test (x ∷ xs)) ≡ suc (length (filter test xs)) =
          ap (λ (zs : List Block). length zs) (cond-true (test x) (x ∷ filter test xs) (filter test xs) t) in
          omega (arith, rest, is)
      | inr f ↦
          let is : length (filter test (x ∷ xs)) ≡ length (filter test xs) =
          ap (λ (zs : List Block). length zs) (cond-false (test x) (x ∷ filter test xs) (filter test xs) f) in
          omega (arith, rest, is)
    ]

fewer_taken : (n : ℕ) (xs : List Block) → length (take n xs) ≤ length xs
fewer_taken zero xs = omega arith
fewer_taken (suc n) [] = omega arith
fewer_taken (suc n) (x ∷ xs) = let rest : length (take n xs) ≤ length xs = fewer_taken n xs in omega (arith, rest)

as_many : (places : List ℕ) (blocks : List Block) → length (placed places blocks) ≡ length blocks
as_many [] blocks = refl
as_many (place ∷ places) [] = refl
as_many (place ∷ places) (b ∷ blocks) = ap suc (as_many places blocks)

light_packets : (xs : List Block) → AreLight xs → packets_in xs ≤ 26 * length xs
light_packets [] a = omega arith
light_packets (x ∷ xs) a =
    let rest : packets_in xs ≤ 26 * length xs = light_packets xs a.1 in
    let first : weight x ≤ 26 = a.0 in
    let is : packets_in (x ∷ xs) ≡ weight x + packets_in xs = sum_by-cons weight x xs in
    omega (arith, rest, first, is)

-- with at most 2,000 pages
pub few_packets : (class : Class) (pages : List Authored) (places : List ℕ) (often index round : ℕ) → length pages ≤ 2000 →
    packets_so_far (placed places (blocks_of class pages)) often index round < 4294967296
few_packets class pages places often index round few =
    let blocks = placed places (blocks_of class pages) in
    let light : AreLight blocks = light_placed places (blocks_of class pages) (light_blocks class pages) in
    let more = filter (λ (b : Block). ltb often b.often) blocks in
    let same = filter (λ (b : Block). eqb b.often often) (take index blocks) in
    let before : AreLight (earlier blocks often index) =
    light_append more same (light_filter (λ b. ltb often b.often) blocks light)
    (light_filter (λ b. eqb b.often often) (take index blocks) (light_take index blocks light)) in
    let here = filter (λ (b : Block). eqb (round % (8 / b.often)) b.place) (earlier blocks often index) in
    let sum : packets_in here ≤ 26 * length here =
    light_packets here (light_filter (λ b. eqb (round % (8 / b.often)) b.place) (earlier blocks often index) before) in
    let some : length here ≤ length (earlier blocks often index) =
    fewer_filtered (λ b. eqb (round % (8 / b.often)) b.place) (earlier blocks often index) in
    let both : length (earlier blocks often index) ≡ length more + length same = length-append more same in
    let one : length more ≤ length blocks = fewer_filtered (λ b. ltb often b.often) blocks in
    let two : length same ≤ length (take index blocks) = fewer_filtered (λ b. eqb b.often often) (take index blocks) in
    let three : length (take index blocks) ≤ length blocks = fewer_taken index blocks in
    let count : length blocks ≡ length pages = as_many places (blocks_of class pages) ∙ length-map pages (block_at class) in
    omega (arith, sum, some, both, one, two, three, count, few)
