-- The values of a map, in order, are those that a function finds in all numbers, rising, if it finds at each number what the map has there.
use Rattle.std.proofs.Common.{◌≡◌, ◌⊎◌, ⊎_elim, ℕ, ◌+◌, ◌<◌, ◌≤◌, Bool, true, false, cond, List, [], ◌∷◌, ◌++◌, Option, Some, None, zero, suc, refl}
use Rattle.std.proofs.Common.{sym, ap, ◌∙◌, subst, map, Less, Equal, Greater, arith}
use Rattle.std.proofs.lemmas.Bool.{cases_eq, cases_order}
use Rattle.std.specs.BTreeMap.{is_at}
use Rattle.std.specs.Cmp.{nat_cmp_is}
use Rattle.std.specs.List.{AllByRecursion, flat_map, range_with_len}
use Rattle.std.specs.List.Sorted.{IsStrictlySortedBy}
use Rattle.std.specs.Map.{lookup}
use Rattle.std.specs.Ordering.{is_eq, nat_cmp}
use Rattle.ttx_pages.specs.Keys.{all_below, header_list}

abbrev pub Entries : Type 0
Entries = List (ℕ × List ℕ)

abbrev pub found : ℕ → Entries → Option (List ℕ)
found q es = lookup (is_at (nat_cmp q)) es

-- the keys rise, from low on
abbrev pub IsRising : ℕ → Entries → Type 0
IsRising low [] = Unit {0}
IsRising low (e ∷ es) = (low ≤ e.0) × IsRising (e.0 + 1) es

at_less : (q k : ℕ) → q < k → is_at (nat_cmp q) k ≡ false
at_less q k h = ap is_eq (sym (nat_cmp_is q k Less h))

at_more : (q k : ℕ) → k < q → is_at (nat_cmp q) k ≡ false
at_more q k h = ap is_eq (sym (nat_cmp_is q k Greater h))

at_same : (q k : ℕ) → q ≡ k → is_at (nat_cmp q) k ≡ true
at_same q k h = ap is_eq (sym (nat_cmp_is q k Equal h))

-- an entry with another key is not found
passed : (q : ℕ) (e : ℕ × List ℕ) (es : Entries) → is_at (nat_cmp q) e.0 ≡ false → found q (e ∷ es) ≡ found q es
passed q e es h = ap (λ b. cond b (Some e.1) (found q es)) h

hit : (q : ℕ) (e : ℕ × List ℕ) (es : Entries) → q ≡ e.0 → found q (e ∷ es) ≡ Some e.1
hit q e es h = ap (λ b. cond b (Some e.1) (found q es)) (at_same q e.0 h)

missed : (q low : ℕ) (es : Entries) → q < low → IsRising low es → found q es ≡ None
missed q low [] h r = refl
missed q low (e ∷ es) h r =
    let below : q < e.0 = omega (arith, h, r.0) in
    let later : q < e.0 + 1 = omega (arith, below) in
    passed q e es (at_less q e.0 below) ∙ missed q (e.0 + 1) es later r.1

-- f finds what the entries have at each number from low on, and nothing from high on
pub record Finds (f : ℕ → Option (List ℕ)) (low high : ℕ) (es : Entries) : Type 0 where
  pub same : (q : ℕ) → low ≤ q → f q ≡ found q es
  pub bound : (q : ℕ) (v : List ℕ) → f q ≡ Some v → q < high

lists : (f : ℕ → Option (List ℕ)) (low n high : ℕ) (es : Entries) → high ≡ low + n → IsRising low es → Finds f low high es →
    map (λ e. e.1) es ≡ flat_map (λ k. header_list (f k)) (range_with_len low n)
lists f low zero high [] size r h = refl
lists f low zero high (e ∷ es) size r h =
    let b : e.0 < high = h.bound e.0 e.1 (h.same e.0 r.0 ∙ hit e.0 e es refl) in
    absurd (omega (arith, b, r.0, size))
lists f low (suc n) high [] size r h =
    let none : f low ≡ None = h.same low (omega arith) in
    let rest = lists f (low + 1) n high [] (omega (arith, size)) tt (record { same = λ q l. h.same q (omega (arith, l)); bound = h.bound }) in
    rest ∙ ap (λ o. header_list o ++ flat_map (λ k. header_list (f k)) (range_with_len (low + 1) n)) (sym none)
lists f low (suc n) high (e ∷ es) size r h =
    ⊎_elim
    (λ eq.
    let here : f low ≡ Some e.1 = h.same low (omega arith) ∙ hit low e es eq in
    let rest = lists f (low + 1) n high es (omega (arith, size)) (subst (λ k. IsRising (k + 1) es) (sym eq) r.1)
    (record { same = λ q l. h.same q (omega (arith, l)) ∙ passed q e es (at_more q e.0 (omega (arith, l, eq))); bound = h.bound }) in
    ap (λ t. e.1 ∷ t) rest ∙ ap (λ o. header_list o ++ flat_map (λ k. header_list (f k)) (range_with_len (low + 1) n)) (sym here))
    (λ ne.
    let after : low + 1 ≤ e.0 = omega (arith, ne, r.0) in
    let none : f low ≡ None = h.same low (omega arith) ∙ missed low (low + 1) (e ∷ es) (omega arith) (after, r.1) in
    let rest = lists f (low + 1) n high (e ∷ es) (omega (arith, size)) (after, r.1)
    (record { same = λ q l. h.same q (omega (arith, l)); bound = h.bound }) in
    rest ∙ ap (λ o. header_list o ++ flat_map (λ k. header_list (f k)) (range_with_len (low + 1) n)) (sym none))
    (cases_eq low e.0)

less_lt : (x y : ℕ) → nat_cmp x y ≡ Less → x < y
less_lt x y h =
    ⊎_elim
    (λ e. let clash : Less ≡ Equal = sym h ∙ sym (nat_cmp_is x y Equal e) in cc)
    (λ apart. ⊎_elim (λ l. l) (λ g. let clash : Less ≡ Greater = sym h ∙ sym (nat_cmp_is x y Greater g) in cc) apart)
    (cases_order x y)

later : (x : ℕ) (ys : List ℕ) → AllByRecursion (λ y. nat_cmp x y ≡ Less) ys → AllByRecursion (λ y. x + 1 ≤ y) ys
later x [] h = tt
later x (y ∷ ys) h = (omega (arith, less_lt x y h.0), later x ys h.1)

rising : (low : ℕ) (es : Entries) → AllByRecursion (λ y. low ≤ y) (map (λ e. e.0) es) → IsStrictlySortedBy nat_cmp (map (λ e. e.0) es) →
    IsRising low es
unfolding IsStrictlySortedBy
rising low [] a s = tt
rising low (e ∷ es) a s = (a.0, rising (e.0 + 1) es (later e.0 (map (λ e. e.0) es) s.0) s.1)

from_zero : (ys : List ℕ) → AllByRecursion (λ y. 0 ≤ y) ys
from_zero [] = tt
from_zero (y ∷ ys) = (omega arith, from_zero ys)

-- the values of a map in order are those that the function finds in all numbers
pub all_lists : (f : ℕ → Option (List ℕ)) (high : ℕ) (es : Entries) → IsStrictlySortedBy nat_cmp (map (λ e. e.0) es) → Finds f 0 high es →
    map (λ e. e.1) es ≡ flat_map (λ k. header_list (f k)) (all_below high)
unfolding all_below
all_lists f high es sorted h = lists f 0 high high es (omega arith) (rising 0 es (from_zero (map (λ e. e.0) es)) sorted) h
