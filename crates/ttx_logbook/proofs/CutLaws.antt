-- Cuts give back what was joined.
use Rattle.std.proofs.Common.{◌≡◌, ℕ, suc, ◌+◌, ◌<◌, ◌==◌, true, false, not, List, [], ◌∷◌, ◌++◌, length, length-append, take, drop, Some, None, refl, sym, ap, ◌∙◌, subst, inl, inr, arith, eq-eqb, eqb-true}
use Rattle.std.proofs.lemmas.Bool.{and_from, and_parts, cond-true, cond-false, cases_Bool}
use Rattle.std.proofs.lemmas.Bool.Decides.{nat_tests}
use Rattle.std.proofs.lemmas.Option.{none-some, same_Some}
use Rattle.std.proofs.lemmas.List.Sums.{split_at_first, passes_at_first, prefix_len-le-length}
use Rattle.std.proofs.lemmas.Slice.Eq.{starts_is}
use Rattle.std.proofs.Math.Seq.{take-append_seam, drop-append_seam, drop-append-add}
use Rattle.std.specs.List.{list_all, starts_with, position_or_len, before_first, after_first}
use Rattle.ttx_logbook.specs.Cuts.{after, cut}
use Rattle.ttx_logbook.specs.LogTexts.{Lacks}

-- ---- keys

starts : (key text : List ℕ) → (starts_with (λ a b. a == b) text key ≡ true → text ≡ key ++ drop (length key) text)
    × ((rest : List ℕ) → text ≡ key ++ rest → starts_with (λ a b. a == b) text key ≡ true)
starts key text = starts_is (λ a b. (eqb-true a b, eq-eqb a b)) text key (starts_with (λ a b. a == b) text key) refl

pub after_key : (key rest : List ℕ) → after key (key ++ rest) ≡ Some rest
unfolding after
after_key key rest =
    cond-true (starts_with (λ a b. a == b) (key ++ rest) key) (Some (drop (length key) (key ++ rest))) None ((starts key (key ++ rest)).1 rest refl)
    ∙ ap Some (drop-append_seam key rest)

pub key_after : (key text rest : List ℕ) → after key text ≡ Some rest → text ≡ key ++ rest
unfolding after
key_after key text rest is = elim (cases_Bool (starts_with (λ a b. a == b) text key)) [
  | inl here ↦
      let e : Some (drop (length key) text) ≡ Some rest = sym (cond-true (starts_with (λ a b. a == b) text key) (Some (drop (length key) text)) None here) ∙ is in
      (starts key text).0 here ∙ ap (λ r. key ++ r) (same_Some _ _ e)
  | inr other ↦
      absurd (none-some rest (sym (cond-false (starts_with (λ a b. a == b) text key) (Some (drop (length key) text)) None other) ∙ is))
]

-- ---- marks

mark_at : (mark : ℕ) (xs rest : List ℕ) → Lacks mark xs → position_or_len (λ b. b == mark) (xs ++ mark ∷ rest) ≡ length xs
mark_at mark [] rest lacks =
    cond-false (not (mark == mark)) (1 + position_or_len (λ b. b == mark) rest) 0 (ap not (eq-eqb mark mark refl))
mark_at mark (x ∷ xs) rest lacks =
    let parts = and_parts (not (x == mark)) (list_all (λ b. not (b == mark)) xs) lacks in
    let tail = mark_at mark xs rest parts.1 in
    cond-true (not (x == mark)) (1 + position_or_len (λ b. b == mark) (xs ++ mark ∷ rest)) 0 parts.0 ∙ omega (arith, tail)

pub cut_mark : (mark : ℕ) (xs rest : List ℕ) → Lacks mark xs → cut mark (xs ++ mark ∷ rest) ≡ Some (xs, rest)
unfolding cut
cut_mark mark xs rest lacks =
    let at = mark_at mark xs rest lacks in
    let long = length-append xs (mark ∷ rest) in
    let other : (position_or_len (λ b. b == mark) (xs ++ mark ∷ rest) == length (xs ++ mark ∷ rest)) ≡ false = grind (arith, nat_tests) in
    cond-false (position_or_len (λ b. b == mark) (xs ++ mark ∷ rest) == length (xs ++ mark ∷ rest)) None
    (Some (before_first (λ b. b == mark) (xs ++ mark ∷ rest), after_first (λ b. b == mark) (xs ++ mark ∷ rest))) other
    ∙ ap (λ n. Some (take n (xs ++ mark ∷ rest), drop (n + 1) (xs ++ mark ∷ rest))) at
    ∙ (λ i. Some (take-append_seam xs (mark ∷ rest) i, drop-append-add xs (mark ∷ rest) 1 i))

before_lacks : (mark : ℕ) (xs : List ℕ) → Lacks mark (before_first (λ b. b == mark) xs)
before_lacks mark [] = refl
before_lacks mark (x ∷ xs) = elim (cases_Bool (not (x == mark))) [
  | inl other ↦
      let e = cond-true (not (x == mark)) (1 + position_or_len (λ b. b == mark) xs) 0 other in
      let one : 1 + position_or_len (λ b. b == mark) xs ≡ suc (position_or_len (λ b. b == mark) xs) = omega arith in
      subst (λ n. Lacks mark (take n (x ∷ xs))) (sym (e ∙ one)) (and_from (not (x == mark)) (list_all (λ b. not (b == mark)) (before_first (λ b. b == mark) xs)) other (before_lacks mark xs))
  | inr here ↦
      let e = cond-false (not (x == mark)) (1 + position_or_len (λ b. b == mark) xs) 0 here in
      subst (λ n. Lacks mark (take n (x ∷ xs))) (sym e) refl
]

pub mark_cut : (mark : ℕ) (text a b : List ℕ) → cut mark text ≡ Some (a, b) → (text ≡ a ++ mark ∷ b) × Lacks mark a
unfolding cut
mark_cut mark text a b is = elim (cases_Bool (position_or_len (λ b. b == mark) text == length text)) [
  | inl none ↦
      absurd (none-some (a, b) (sym (cond-true (position_or_len (λ b. b == mark) text == length text) None
      (Some (before_first (λ b. b == mark) text, after_first (λ b. b == mark) text)) none) ∙ is))
  | inr some ↦
      let e = same_Some _ _ (sym (cond-false (position_or_len (λ b. b == mark) text == length text) None
      (Some (before_first (λ b. b == mark) text, after_first (λ b. b == mark) text)) some) ∙ is) in
      let most = prefix_len-le-length (λ b. not (b == mark)) text in
      let within : position_or_len (λ b. b == mark) text < length text = grind (arith, nat_tests) in
      let passes = passes_at_first (λ b. b == mark) text 0 within in (
        split_at_first (λ b. b == mark) text 0 within
            ∙ (λ i. (ap (λ p. p.0) e i) ++ (eqb-true _ mark passes i) ∷ ap (λ p. p.1) e i),
        subst (Lacks mark) (ap (λ p. p.0) e) (before_lacks mark text),
      )
]
