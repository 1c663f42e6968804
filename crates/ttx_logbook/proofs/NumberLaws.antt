-- Numbers are read as they are written.
use Rattle.std.proofs.Common.{◌≡◌, ℕ, zero, suc, ◌^◌, ◌<◌, ◌≤◌, ◌==◌, true, false, not, ◌&&◌, ◌||◌, List, [], ◌∷◌, ◌++◌, length}
use Rattle.std.proofs.Common.{slice_index, Option, Some, None, nat_le, nat_lt, refl, sym, ap, ◌∙◌, subst, inl, inr, arith, rules}
use Rattle.std.specs.Fmt.{decimal}
use Rattle.std.specs.List.{list_all}
use Rattle.std.proofs.lemmas.Bool.{and_from, and_parts, cond-true, cases_Bool}
use Rattle.std.proofs.lemmas.Option.{cond_some, same_Some, none-some}
use Rattle.std.proofs.lemmas.Bool.Decides.{nat_tests}
use Rattle.std.proofs.lemmas.Fmt.{decimal-digits_value, digits_decimal, digits_value-decimal, length-decimal-le}
use Rattle.std.proofs.lemmas.Fmt.{decimal_nonempty, first_decimal, decimal_digit}
use Rattle.std.proofs.lemmas.Str.Parse.{IsNumeralModel, numerals_by_fold}
use Rattle.ttx_digits.specs.Digits.{are_digits, decimal_after, is_between}
use Rattle.ttx_logbook.specs.Cuts.{after, cut}
use Rattle.ttx_logbook.specs.Steps.{◌>>=◌}
use Rattle.ttx_logbook.specs.Numbers.{is_number, number_in, keyed_number}
use Rattle.ttx_logbook.specs.LogTexts.{Lacks, keyed_text}
use Rattle.ttx_logbook.proofs.CutLaws.{after_key, key_after, cut_mark, mark_cut}

-- digits without a leading zero are the text of their number
own : IsNumeralModel (λ ds. are_digits ds ≡ true) (decimal_after 0)
own = numerals_by_fold _ (search rules) decimal_after (search rules)

number_word : (word : List ℕ) → is_number word ≡ true → (decimal (decimal_after 0 word) ≡ word) × (decimal_after 0 word < 2 ^ 32)
number_word word is =
    let a = are_digits word in
    let b = nat_le 1 (length word) in
    let c = nat_le (length word) 10 in
    let d = length word == 1 || not (slice_index word 0 == 48) in
    let e = nat_lt (decimal_after 0 word) (2 ^ 32) in
    let small = (and_parts (a && b && c && d) e is).1 in
    let four = (and_parts (a && b && c && d) e is).0 in
    let last = (and_parts (a && b && c) d four).1 in
    let three = (and_parts (a && b && c) d four).0 in
    let two = (and_parts (a && b) c three).0 in
    let one = (and_parts a b two).1 in
    let digits = (and_parts a b two).0 in
    let some : 0 < length word = grind (arith, nat_tests) in
    let fits : decimal_after 0 word < 2 ^ 32 = grind (arith, nat_tests) in (
      decimal-digits_value own word digits some (λ lead. grind (arith, nat_tests)) (omega arith),
      fits,
    )

pub number_is : (word : List ℕ) (n : ℕ) → number_in word ≡ Some n → (word ≡ decimal n) × (n < 2 ^ 32)
unfolding number_in
number_is word n is =
    let read = cond_some (is_number word) (decimal_after 0 word) n is in
    let p = number_word word read.0 in
    (sym p.0 ∙ ap decimal read.1, subst (λ m. m < 2 ^ 32) read.1 p.1)

decimal_digits : (n : ℕ) → n < 2 ^ 32 → are_digits (decimal n) ≡ true
decimal_digits n small = digits_decimal own n (omega arith)

lead : (n : ℕ) → n < 2 ^ 32 → (length (decimal n) == 1 || not (slice_index (decimal n) 0 == 48)) ≡ true
lead zero small = rw (decimal_digit 0 (omega arith)) refl
lead (suc n) small = let first : 48 < slice_index (decimal (suc n)) 0 = first_decimal (suc n) (omega arith) (omega arith) in grind (arith, nat_tests)

-- the text of a number is read as the number
pub number_read : (n : ℕ) → n < 2 ^ 32 → number_in (decimal n) ≡ Some n
unfolding number_in
number_read n small =
    let some : 0 < length (decimal n) = decimal_nonempty n (omega arith) in
    let few : length (decimal n) ≤ 10 = length-decimal-le 10 n (omega arith) (omega arith) (omega arith) in
    let value : decimal_after 0 (decimal n) ≡ n = digits_value-decimal own n (omega arith) in
    let b : nat_le 1 (length (decimal n)) ≡ true = grind (arith, nat_tests) in
    let c : nat_le (length (decimal n)) 10 ≡ true = grind (arith, nat_tests) in
    let e : nat_lt (decimal_after 0 (decimal n)) (2 ^ 32) ≡ true = grind (arith, nat_tests) in
    let is : is_number (decimal n) ≡ true = and_from _ _
    (and_from _ _ (and_from _ _ (and_from (are_digits (decimal n)) _ (decimal_digits n small) b) c) (lead n small)) e in
    cond-true (is_number (decimal n)) (Some (decimal_after 0 (decimal n))) None is ∙ ap Some value

-- a byte that is no digit
abbrev pub IsNoDigit : ℕ → Type 0
IsNoDigit mark = is_between 48 57 mark ≡ false

digits_lack : (mark : ℕ) (ds : List ℕ) → IsNoDigit mark → are_digits ds ≡ true → Lacks mark ds
digits_lack mark [] apart are = refl
digits_lack mark (d ∷ ds) apart are =
    let parts = and_parts (is_between 48 57 d) (are_digits ds) are in
    let digit = parts.0 in
    let here : not (d == mark) ≡ true = elim (cases_Bool (d == mark)) [
      | inl same ↦ grind (arith, nat_tests)
      | inr other ↦ ap not other
    ] in
    and_from (not (d == mark)) (list_all (λ b. not (b == mark)) ds) here (digits_lack mark ds apart parts.1)

pub decimal_lacks : (mark n : ℕ) → IsNoDigit mark → n < 2 ^ 32 → Lacks mark (decimal n)
decimal_lacks mark n apart small = digits_lack mark (decimal n) apart (decimal_digits n small)

-- ---- numbers after a key

pub keyed_read : (key : List ℕ) (n mark : ℕ) (rest : List ℕ) → IsNoDigit mark → n < 2 ^ 32 → keyed_number key mark (keyed_text key n mark rest) ≡ Some (n, rest)
unfolding keyed_number
keyed_read key n mark rest apart small =
    ap (λ o. o >>= (λ rest. cut mark rest >>= (λ parts. number_in parts.0 >>= (λ n. Some (n, parts.1))))) (after_key key (decimal n ++ mark ∷ rest))
    ∙ ap (λ o. o >>= (λ parts. number_in parts.0 >>= (λ n. Some (n, parts.1)))) (cut_mark mark (decimal n) rest (decimal_lacks mark n apart small))
    ∙ ap (λ o. o >>= (λ n. Some (n, rest))) (number_read n small)

-- a step that gives something has something to go on
pub step : {A B : Type 0} (o : Option A) (f : A → Option B) (b : B) (C : Type 0) → (o >>= f) ≡ Some b → ((a : A) → o ≡ Some a → f a ≡ Some b → C) → C
step None f b C is go = absurd (none-some b is)
step (Some a) f b C is go = go a refl is

pub keyed_is : (key : List ℕ) (mark : ℕ) (text : List ℕ) (n : ℕ) (rest : List ℕ) → keyed_number key mark text ≡ Some (n, rest) →
    (text ≡ keyed_text key n mark rest) × (n < 2 ^ 32)
unfolding keyed_number
keyed_is key mark text n rest is =
    let C = (text ≡ keyed_text key n mark rest) × (n < 2 ^ 32) in
    step (after key text) _ (n, rest) C is (λ r r_is then_r.
    step (cut mark r) _ (n, rest) C then_r (λ parts parts_are then_parts.
    step (number_in parts.0) _ (n, rest) C then_parts (λ m m_is end.
    let cuts = mark_cut mark r parts.0 parts.1 parts_are in
    let number = number_is parts.0 m m_is in
    subst (λ p. (text ≡ keyed_text key p.0 mark p.1) × (p.0 < 2 ^ 32)) (same_Some (m, parts.1) (n, rest) end)
    (key_after key text r r_is ∙ ap (λ r. key ++ r) (cuts.0 ∙ ap (λ w. w ++ mark ∷ parts.1) number.0), number.1))))
