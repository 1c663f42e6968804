-- The pages of a service one by one: their blocks, how often they are sent, and the queues that they use.
use Rattle.std.proofs.Common.{◌≡◌, ℕ, zero, suc, ◌+◌, ◌-◌, ◌*◌, ◌<◌, ◌≤◌, Bool, cond, List, [], ◌∷◌, ◌++◌, ◌||◌, map, length, take}
use Rattle.std.proofs.Common.{add-one, Option, Some, None, refl, sym, ap, ◌∙◌, subst, arith, eqb, get_or, mul-le-mul}
use Rattle.std.proofs.Common.{set}
use Rattle.std.specs.Prelude.{All, slice_get, option_map, sum_by}
use Rattle.std.specs.List.{AllByRecursion, list_any}
use Rattle.std.proofs.lemmas.List.{map-append, length-map, length-take-le}
use Rattle.std.proofs.lemmas.Option.{get_or_from_slice_get, slice_get_within, slice_get-map, slice_get_read, same_Some}
use Rattle.std.proofs.lemmas.List.Sums.{sum_by-cons, sum_by-append}
use Rattle.ttx_page.specs.declared.class.Class.{Class}
use Rattle.ttx_page.specs.declared.page.Page.{Page as PageValue}
use Rattle.ttx_page.specs.Pages.{Page}
use Rattle.ttx_page.specs.Views.{page_of}
use Rattle.ttx_source.specs.Services.{Authored, authored_at, IsAuthored}
use Rattle.ttx_plan.specs.Blocks.{Block, at_place, placed, has_pages, used_to}
use Rattle.ttx_plan.specs.Carries.{block_at, blocks_of}
use Rattle.ttx_plan.specs.Ranges.{ArePlaces, IsOften}
use Rattle.ttx_plan.specs.Seen.{used_by}
use Rattle.ttx_plan.proofs.OftenNumbers.{often_ranges}
use Rattle.ttx_plan.proofs.PlacedBlocks.{IsInRounds, placed_all, placed_none, placed_next}

-- the page at an index of a list, as a function shows it
page_shown : (values : List PageValue) (pages : List Authored) (i : ℕ) (value : PageValue) → map page_of values ≡ map (λ p. p.page) pages →
    i < length values → value ≡ get_or values i value → option_map (λ p. p.page) (slice_get pages i) ≡ Some (page_of value)
page_shown values pages i value same lt read = sym (slice_get-map (λ (p : Authored). p.page) pages i) ∙ ap (λ xs. slice_get xs i) (sym same)
    ∙ slice_get-map page_of values i ∙ ap (option_map page_of) (slice_get_read values (length values) i value refl lt read)

pub page_at_index : (values : List PageValue) (pages : List Authored) (i often : ℕ) (value : PageValue) → map page_of values
    ≡ map (λ p. p.page) pages → i < length values → value ≡ get_or values i value →
    option_map (λ p. p.often) (slice_get pages i) ≡ Some often → slice_get pages i ≡ Some (authored_at (page_of value) often)
page_at_index values pages i often value same lt read o = by (slice_get pages i) (page_shown values pages i value same lt read) o
  where
    by : (page : Option Authored) → option_map (λ p. p.page) page ≡ Some (page_of value) → option_map (λ p. p.often) page ≡ Some often →
        page ≡ Some (authored_at (page_of value) often)
    by None e f = cc
    by (Some p) e f =
        let page : p.page ≡ page_of value = same_Some p.page (page_of value) e in
        let times : p.often ≡ often = same_Some p.often often f in
        ap (λ x. Some (authored_at x p.often)) page ∙ ap (λ n. Some (authored_at (page_of value) n)) times

-- and its id
pub id_there : (values : List PageValue) (pages : List Authored) (i : ℕ) (value : PageValue) → map page_of values
    ≡ map (λ p. p.page) pages → i < length values → value ≡ get_or values i value →
    option_map (λ (p : Authored). p.page.id) (slice_get pages i) ≡ Some (page_of value).id
id_there values pages i value same lt read = by (slice_get pages i) (page_shown values pages i value same lt read)
  where
    by : (page : Option Authored) → option_map (λ p. p.page) page ≡ Some (page_of value) →
        option_map (λ (p : Authored). p.page.id) page ≡ Some (page_of value).id
    by None e = cc
    by (Some p) e = ap (option_map (λ (q : Page). q.id)) e

pub authored_is : (serial : Bool) (pages : List Authored) → All (IsAuthored serial) pages → (i : ℕ) (authored : Authored) →
    slice_get pages i ≡ Some authored → IsAuthored serial authored
authored_is serial pages a i authored e =
    subst (IsAuthored serial) (get_or_from_slice_get pages i authored authored e) (a i authored (slice_get_within pages i authored e))

-- the page at an index of the service
pub page_there : (pages : List Authored) (n : ℕ) (p : Page) → slice_get (map (λ authored. authored.page) pages) n ≡ Some p →
    (authored : Authored) × (slice_get pages n ≡ Some authored) × (authored.page ≡ p)
page_there [] n p e = let f : None ≡ Some p = e in cc
page_there (a ∷ pages) zero p e = let f : Some a.page ≡ Some p = e in let g : a.page ≡ p = cc in (a, refl, g)
page_there (a ∷ pages) (suc n) p e = page_there pages n p e

pub each_often : (serial : Bool) (pages : List Authored) → All (IsAuthored serial) pages → (i : ℕ) (page : Authored) → slice_get pages i
    ≡ Some page → IsOften page.often
each_often serial pages a i page e = often_ranges page.often (authored_is serial pages a i page e).often

pub listed_page : (page : Option Authored) (often : ℕ) → option_map (λ (p : Authored). p.often) page ≡ Some often → (p : Authored)
    × ((page ≡ Some p) × (p.often ≡ often))
listed_page None often e = let f : None ≡ Some often = e in cc
listed_page (Some p) often e = let f : Some p.often ≡ Some often = e in (p, (refl, cc))

pub often_there : (serial : Bool) (pages : List Authored) (i often : ℕ) → All (IsAuthored serial) pages →
    option_map (λ p. p.often) (slice_get pages i) ≡ Some often → IsOften often
often_there serial pages i often a e =
    let p = listed_page (slice_get pages i) often e in subst IsOften p.1.1 (each_often serial pages a i p.0 p.1.0)

pub blocks_in_rounds : (class : Class) (serial : Bool) (spread : List ℕ) (pages : List Authored) → All (IsAuthored serial) pages →
    ArePlaces spread pages → AllByRecursion IsInRounds (placed spread (blocks_of class pages))
blocks_in_rounds class serial spread [] a range = subst (AllByRecursion IsInRounds) (placed_none spread) tt
blocks_in_rounds class serial [] (p ∷ pages) a range = (
  record { often = often_ranges p.often (a 0 p (omega arith)).often; place = range 0 p refl },
  blocks_in_rounds class serial [] pages (λ k d lt. a (suc k) d (omega arith)) (λ i q e. range (suc i) q e),
)
blocks_in_rounds class serial (place ∷ spread) (p ∷ pages) a range = (
  record { often = often_ranges p.often (a 0 p (omega arith)).often; place = range 0 p refl },
  blocks_in_rounds class serial spread pages (λ k d lt. a (suc k) d (omega arith)) (λ i q e. range (suc i) q e),
)

-- one more page
pub take_next : {A : Type 0} (xs : List A) (n : ℕ) (x : A) → slice_get xs n ≡ Some x → take (suc n) xs ≡ take n xs ++ x ∷ []
take_next [] n x h = let e : None ≡ Some x = h in cc
take_next (y ∷ ys) zero x h = let e : Some y ≡ Some x = h in let g : y ≡ x = cc in ap (λ z. z ∷ []) g
take_next (y ∷ ys) (suc n) x h = ap (λ z. y ∷ z) (take_next ys n x h)

pub blocks_next : (class : Class) (pages : List Authored) (i : ℕ) (page : Authored) → slice_get pages i ≡ Some page →
    blocks_of class (take (i + 1) pages) ≡ blocks_of class (take i pages) ++ block_at class page ∷ []
blocks_next class pages i page e = rw (add-one, take_next pages i page e, map-append)

-- the same with places
pub placed_blocks_next : (spread : List ℕ) (class : Class) (pages : List Authored) (i : ℕ) (page : Authored) → slice_get pages i ≡ Some page →
    placed spread (blocks_of class (take (i + 1) pages))
    ≡ placed spread (blocks_of class (take i pages)) ++ at_place (get_or spread i 0) (block_at class page) ∷ []
placed_blocks_next spread class pages i page e =
    rw (
      blocks_next class pages i page e,
      placed_next spread (blocks_of class (take i pages)) (block_at class page),
      length-map,
      length-take-le i pages (omega (arith, slice_get_within pages i page e)),
    )

pub sum_next : (f : Block → ℕ) (class : Class) (pages : List Authored) (i : ℕ) (page : Authored) → slice_get pages i ≡ Some page →
    sum_by f (blocks_of class (take (i + 1) pages)) ≡ sum_by f (blocks_of class (take i pages)) + f (block_at class page)
sum_next f class pages i page e =
    rw (
      blocks_next class pages i page e,
      sum_by-append f (blocks_of class (take i pages)) (block_at class page ∷ []),
      sum_by-cons f (block_at class page) [],
    ) (omega arith)

-- the queues that have pages

any_value : (n : ℕ) (values : List PageValue) → list_any (λ p. eqb ((page_of p).id.mag - 1) n) values
    ≡ list_any (λ p. eqb (p.id.mag - 1) n) (map page_of values)
any_value n [] = refl
any_value n (x ∷ values) = ap (λ b. eqb ((page_of x).id.mag - 1) n || b) (any_value n values)

any_page : (class : Class) (n : ℕ) (pages : List Authored) → list_any (λ p. eqb (p.id.mag - 1) n) (map (λ p. p.page) pages)
    ≡ has_pages (blocks_of class pages) n
any_page class n [] = refl
any_page class n (p ∷ pages) = ap (λ b. eqb (p.page.id.mag - 1) n || b) (any_page class n pages)

pub used_same : (class : Class) (values : List PageValue) (pages : List Authored) (n : ℕ) → map page_of values
    ≡ map (λ p. p.page) pages → used_by values n ≡ used_to (blocks_of class pages) n
used_same class values pages zero same = refl
used_same class values pages (suc n) same =
    ap (λ x. x ++ cond (list_any (λ p. eqb ((page_of p).id.mag - 1) n) values) (n ∷ []) []) (used_same class values pages n same)
    ∙ ap (λ b. used_to (blocks_of class pages) n ++ cond b (n ∷ []) [])
    (any_value n values ∙ ap (list_any (λ p. eqb (p.id.mag - 1) n)) same ∙ any_page class n pages)

pub same_lengths : (values : List PageValue) (pages : List Authored) → map page_of values ≡ map (λ p. p.page) pages → length values ≡ length pages
same_lengths values pages e = sym (length-map values page_of) ∙ ap length e ∙ length-map pages (λ p. p.page)

-- a product of two small numbers
pub product_most : (n m : ℕ) → n ≤ 8 → m ≤ 26 → n * m ≤ 208
product_most n m a b = let h : n * m ≤ 8 * 26 = mul-le-mul a b in omega arith

-- a block by its index, at the place that the list has for it
placed_at : (places : List ℕ) (blocks : List Block) (k : ℕ) (block : Block) → slice_get blocks k ≡ Some block →
    slice_get (placed places blocks) k ≡ Some (at_place (get_or places k block.place) block)
placed_at [] blocks k block e = e
placed_at (place ∷ places) [] k block e = let f : None ≡ Some block = e in cc
placed_at (place ∷ places) (b ∷ blocks) zero block e =
    let f : Some b ≡ Some block = e in
    let g : b ≡ block = cc in
    ap (λ x. Some (at_place place x)) g
placed_at (place ∷ places) (b ∷ blocks) (suc k) block e = placed_at places blocks k block e

placed_set : (places : List ℕ) (blocks : List Block) (n place : ℕ) (block : Block) → n < length places → slice_get blocks n ≡ Some block →
    placed (set places n place) blocks ≡ set (placed places blocks) n (at_place place block)
placed_set [] blocks n place block lt e = absurd (omega (arith, lt))
placed_set (p ∷ places) [] n place block lt e = let f : None ≡ Some block = e in cc
placed_set (p ∷ places) (b ∷ blocks) zero place block lt e =
    let f : Some b ≡ Some block = e in
    let g : b ≡ block = cc in
    ap (λ x. at_place place x ∷ placed places blocks) g
placed_set (p ∷ places) (b ∷ blocks) (suc n) place block lt e =
    ap (λ x. at_place p b ∷ x) (placed_set places blocks n place block (omega (arith, lt)) e)

block_there : (class : Class) (pages : List Authored) (n : ℕ) (page : Authored) → slice_get pages n ≡ Some page →
    slice_get (blocks_of class pages) n ≡ Some (block_at class page)
block_there class pages n page e = slice_get-map (block_at class) pages n ∙ ap (option_map (block_at class)) e

pub page_block : (class : Class) (places : List ℕ) (pages : List Authored) (n : ℕ) (page : Authored) → slice_get pages n ≡ Some page →
    slice_get (placed places (blocks_of class pages)) n ≡ Some (at_place (get_or places n 0) (block_at class page))
page_block class places pages n page e = placed_at places (blocks_of class pages) n (block_at class page) (block_there class pages n page e)

pub page_placed : (class : Class) (places : List ℕ) (pages : List Authored) (n place : ℕ) (page : Authored) → n < length places →
    slice_get pages n ≡ Some page →
    placed (set places n place) (blocks_of class pages) ≡ set (placed places (blocks_of class pages)) n (at_place place (block_at class page))
page_placed class places pages n place page lt e =
    placed_set places (blocks_of class pages) n place (block_at class page) lt (block_there class pages n page e)

often_each : (class : Class) (serial : Bool) (pages : List Authored) → All (IsAuthored serial) pages →
    AllByRecursion (λ (b : Block). IsOften b.often) (blocks_of class pages)
often_each class serial [] a = tt
often_each class serial (p ∷ pages) a =
    (often_ranges p.often (a 0 p (omega arith)).often, often_each class serial pages (λ k d lt. a (suc k) d (omega (arith, lt))))

pub blocks_often : (class : Class) (serial : Bool) (places : List ℕ) (pages : List Authored) → All (IsAuthored serial) pages →
    AllByRecursion (λ (b : Block). IsOften b.often) (placed places (blocks_of class pages))
blocks_often class serial places pages a =
    placed_all (λ (b : Block). IsOften b.often) (λ place b o. o) places (blocks_of class pages) (often_each class serial pages a)

pub placed_size : (places : List ℕ) (blocks : List Block) → length (placed places blocks) ≡ length blocks
placed_size [] blocks = refl
placed_size (place ∷ places) [] = refl
placed_size (place ∷ places) (b ∷ blocks) = ap suc (placed_size places blocks)

pub blocks_size : (class : Class) (places : List ℕ) (pages : List Authored) → length (placed places (blocks_of class pages)) ≡ length pages
blocks_size class places pages = placed_size places (blocks_of class pages) ∙ length-map pages (block_at class)
