-- The codes of rows that are shown, and which rows are hidden.
use Rattle.std.proofs.Common.{◌≡◌, ℕ, zero, suc, ◌+◌, ◌-◌, ◌≤◌, Bool, true, false, not, ◌&&◌, ◌||◌, ◌==◌, if◌then◌else◌, List, [], ◌++◌, drop}
use Rattle.std.proofs.Common.{replicate, get_or, refl, ap, sym, arith, nat_le}
use Rattle.std.proofs.Math.Dec.{eqb-suc-zero}
use Rattle.std.proofs.lemmas.Bool.{eqb-true, leb-true}
use Rattle.std.proofs.lemmas.Bool.Decides.{nat_tests}
use Rattle.ttx_header.specs.Control.{c10}
use Rattle.ttx_page.specs.Memories.{Memory, memory_row, memory_of_page}
use Rattle.ttx_page.specs.Pages.{is_hidden, has_double_height, Page, page_row, is_tall}
use Rattle.ttx_render.specs.Mosaics.{same}
use Rattle.ttx_render.specs.View.{is_shown, codes_of}

-- tests

pub and-left : (a b : Bool) → a && b ≡ true → a ≡ true
and-left true b e = refl
and-left false b e = cc

pub and-right : (a b : Bool) → a && b ≡ true → b ≡ true
and-right true b e = e
and-right false b e = cc

-- which rows are hidden depends only on rows 1 to 22
pub step-same : (t a b x y : Bool) → a ≡ b → (t ≡ true → x ≡ y) → t && not a && x ≡ t && not b && y
step-same true a b x y e f = rw (e, f refl)
step-same false a b x y e f = refl

pub is_hidden-same : (f g : ℕ → List ℕ) (n : ℕ) → ((k : ℕ) → is_tall k ≡ true → f k ≡ g k) → is_hidden f n ≡ is_hidden g n
is_hidden-same f g zero same = refl
is_hidden-same f g (suc k) same =
    step-same (is_tall k) (is_hidden f k) (is_hidden g k) (has_double_height (f k)) (has_double_height (g k))
    (is_hidden-same f g k same) (λ t. ap has_double_height (same k t))

-- the codes of a hidden row itself do not matter
pub step-shut : (t a b x y : Bool) → a ≡ b → (t ≡ true → b ≡ false → x ≡ y) → t && not a && x ≡ t && not b && y
step-shut true a true x y e f = rw e
step-shut true a false x y e f = rw (e, f refl refl)
step-shut false a b x y e f = refl

-- codes

pub nonzero : (d : ℕ) → (suc d == 0) ≡ false
nonzero d = eqb-suc-zero d

pub at_most : (a b : ℕ) → a ≤ b → nat_le a b ≡ true
at_most a b l = grind (arith, nat_tests)

pub is_shown-suc : (m : Memory) (d : ℕ) → is_shown m (suc d) ≡ not (c10 m.control) && (not (suc d == 24) || m.links.show24)
is_shown-suc m d = rw (nonzero d)

pub codes_of-shown : (m : Memory) (d : ℕ) → is_shown m (suc d) ≡ true → codes_of m (suc d) ≡ memory_row m (suc d)
unfolding codes_of
codes_of-shown m d e = rw (e, nonzero d)

pub codes_of-not_shown : (m : Memory) (n : ℕ) → is_shown m n ≡ false → codes_of m n ≡ replicate 40 0x20
unfolding codes_of
codes_of-not_shown m n e = rw e

not24-by : (k : ℕ) (b : Bool) → (k == 24) ≡ b → k ≤ 22 → b ≡ false
not24-by k false e l = refl
not24-by k true e l = let h : k ≡ 24 = eqb-true k 24 e in absurd (omega arith)

pub tall-not24 : (k : ℕ) → is_tall k ≡ true → (k == 24) ≡ false
tall-not24 k t = not24-by k (k == 24) refl (leb-true k 22 (and-right (nat_le 1 k) (nat_le k 22) t))

pub shown-bool : (c last s : Bool) → c ≡ true → last ≡ false → c && (not last || s) ≡ true
shown-bool c last s e f = rw (e, f)

pub codes_of-head : (m : Memory) → is_shown m 0 ≡ true → codes_of m 0 ≡ replicate 8 0x20 ++ drop 8 (memory_row m 0)
unfolding codes_of
codes_of-head m e = rw e

pub front-same : (n : ℕ) (xs ys : List ℕ) (k : ℕ) → ((i : ℕ) → n + i ≡ k → get_or xs i 0 ≡ get_or ys i 0) →
    get_or (replicate n 0x20 ++ xs) k 0 ≡ get_or (replicate n 0x20 ++ ys) k 0
front-same zero xs ys k h = h k (omega arith)
front-same (suc n) xs ys zero h = refl
front-same (suc n) xs ys (suc k) h = front-same n xs ys k (λ i e. h i (omega arith))

-- a row that is shown and not hidden is needed
pub needed-bool : (a le shut last s hid : Bool) → a ≡ true → le ≡ true → shut && (not last || s) ≡ true → (last ≡ false → hid ≡ false) →
    a && le && shut && (if last then s else not hid) ≡ true
needed-bool true true true true true hid a le e h = refl
needed-bool true true true true false hid a le e h = cc
needed-bool true true true false s hid a le e h = rw (h refl)
needed-bool true true false last s hid a le e h = cc
needed-bool true false shut last s hid a le e h = cc
needed-bool false le shut last s hid a b e h = cc

pub page_row-suc : (p : Page) (d : ℕ) → memory_row (memory_of_page p) (suc d) ≡ page_row p (suc d)
page_row-suc p d = let here : suc d - 1 ≡ d = omega arith in ap (λ (k : ℕ). get_or p.rows k []) (sym here)
