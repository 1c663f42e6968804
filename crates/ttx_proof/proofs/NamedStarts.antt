-- Named starts: the test, and the same test some periods later.
use Rattle.std.proofs.Common.{◌≡◌, ◌⊎◌, ◌↔◌, ℕ, zero, suc, ◌+◌, ◌-◌, ◌*◌, ◌%◌, ◌<◌, ℤ, pos, negsuc, ◌+ℤ◌, ◌-ℤ◌, ◌<ℤ◌, ◌≤ℤ◌, Bool, true, false, ◌||◌}
use Rattle.std.proofs.Common.{◌==◌, List, [], ◌∷◌, length, get_or, refl, sym, ap, ◌∙◌, subst, inl, inr, arith, eq-eqb, eqb-true, mod-eq_of_lt}
use Rattle.std.specs.List.{Contains}
use Rattle.std.proofs.lemmas.Int.{ints}
use Rattle.std.proofs.lemmas.Bool.{cases_lt, or_left, or_right}
use Rattle.std.proofs.lemmas.List.Elements.{at_from_Contains, Contains-get_or}
use Rattle.std.proofs.Math.Nat.{add-mod_right}
use Rattle.ttx_page.specs.Pages.{Page}
use Rattle.ttx_page.specs.declared.item.Item.{Item}
use Rattle.ttx_page.specs.Streams.{Stream, turned}
use Rattle.ttx_page.specs.Laws.{IsSameOn}
use Rattle.ttx_proof.specs.Splices.{Splice, IsNamedStart}
use Rattle.ttx_proof.specs.Bridging.{is_start_among, is_named}

or_both : (a b : Bool) → (a || b) ≡ true → (a ≡ true) ⊎ (b ≡ true)
or_both true b h = inl refl
or_both false b h = inr h

pub found : (starts : List ℕ) (start : ℕ) → is_start_among starts start ≡ true → (k : ℕ) × (k < length starts) × (get_or starts k 0 ≡ start)
found [] start h = cc
found (s ∷ starts) start h = elim (or_both (s == start) (is_start_among starts start) h) as
    (λ _. (k : ℕ) × (k < length (s ∷ starts)) × (get_or (s ∷ starts) k 0 ≡ start)) [
      | inl e ↦ (0, omega arith, eqb-true s start e)
      | inr e ↦ let r = found starts start e in (suc r.0, omega (arith, r.1), r.2)
    ]

pub among : (starts : List ℕ) (start k : ℕ) → k < length starts → get_or starts k 0 ≡ start → is_start_among starts start ≡ true
among [] start k lt e = absurd (omega arith)
among (s ∷ starts) start zero lt e = or_left (s == start) (is_start_among starts start) (eq-eqb s start e)
among (s ∷ starts) start (suc k) lt e = or_right (s == start) (is_start_among starts start) (among starts start k (omega arith) e)

pub is_start_among-Contains : (starts : List ℕ) (start : ℕ) → (is_start_among starts start ≡ true) ↔ Contains starts start
is_start_among-Contains starts start = (
  (λ h. let r = found starts start h in subst (Contains starts) r.2 (Contains-get_or starts r.0 0 r.1)),
  (λ h. let r = at_from_Contains starts start h in among starts start r.0 r.1 (r.2 0)),
)

pub named_is : (c : Splice) (p : Page) (item : Item) (i : ℤ) → (is_named c p item i ≡ true) ↔ IsNamedStart c p item i
named_is c p item (pos i) = is_start_among-Contains (c.new_certificate.starts p.id item) (turned (length c.new) (pos i))
named_is c p item (negsuc i) = is_start_among-Contains (c.old_certificate.starts p.id item) (turned (length c.old) (negsuc i))

pub named_below : (c : Splice) (p : Page) (item : Item) (i : ℤ) → i <ℤ pos 0 →
    Contains (c.old_certificate.starts p.id item) (turned (length c.old) i) → IsNamedStart c p item i
named_below c p item (pos i) lt h = absurd (omega (arith, ints))
named_below c p item (negsuc i) lt h = h

pub named_above : (c : Splice) (p : Page) (item : Item) (i : ℤ) → pos 0 ≤ℤ i →
    Contains (c.new_certificate.starts p.id item) (turned (length c.new) i) → IsNamedStart c p item i
named_above c p item (pos i) le h = h
named_above c p item (negsuc i) le h = absurd (omega (arith, ints))

turned_once : (n : ℕ) (x : ℤ) → turned n (x +ℤ pos n) ≡ turned n x
turned_once n (pos a) = add-mod_right a n
turned_once n (negsuc a) = elim (cases_lt a n) as (λ _. turned n (negsuc a +ℤ pos n) ≡ turned n (negsuc a)) [
  | inl lt ↦
      let e : (negsuc a +ℤ pos n) ≡ pos (n - suc a) = omega (arith, ints) in
      let small : n - suc a < n = omega arith in
      ap (turned n) e ∙ mod-eq_of_lt small ∙ omega (arith, mod-eq_of_lt lt)
  | inr ge ↦
      let e : (negsuc a +ℤ pos n) ≡ negsuc (a - n) = omega (arith, ints) in
      let k : (a - n) + n ≡ a = omega arith in
      ap (turned n) e ∙ ap (λ z. n - 1 - z) (sym (add-mod_right (a - n) n) ∙ ap (λ z. z % n) k)
]

-- some periods later
pub turned_more : (n m : ℕ) (x : ℤ) → turned n (x +ℤ pos (m * n)) ≡ turned n x
turned_more n zero x = let e : x +ℤ pos (zero * n) ≡ x = omega (arith, ints) in ap (turned n) e
turned_more n (suc m) x =
    let e : x +ℤ pos (suc m * n) ≡ (x +ℤ pos (m * n)) +ℤ pos n = omega (arith, ints) in
    ap (turned n) e ∙ turned_once n (x +ℤ pos (m * n)) ∙ turned_more n m x

-- some periods earlier
pub turned_back : (n m : ℕ) (x : ℤ) → turned n (x -ℤ pos (m * n)) ≡ turned n x
turned_back n m x =
    let e : (x -ℤ pos (m * n)) +ℤ pos (m * n) ≡ x = omega (arith, ints) in
    sym (turned_more n m (x -ℤ pos (m * n))) ∙ ap (turned n) e

pub turned_start : (n v : ℕ) → v < n → turned n (pos v) ≡ v
turned_start n v lt = mod-eq_of_lt lt

pub same_more : (s : Stream) (n m : ℕ) → IsSameOn s (pos n) → IsSameOn s (pos (m * n))
same_more s n zero same i = let e : i +ℤ pos (zero * n) ≡ i = omega (arith, ints) in ap s e
same_more s n (suc m) same i =
    let e : i +ℤ pos (suc m * n) ≡ (i +ℤ pos (m * n)) +ℤ pos n = omega (arith, ints) in
    ap s e ∙ same (i +ℤ pos (m * n)) ∙ same_more s n m same i
