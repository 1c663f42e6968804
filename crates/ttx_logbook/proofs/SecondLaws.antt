-- The second of the day is read as it is written.
use Rattle.std.proofs.Common.{◌≡◌, ℕ, ◌+◌, ◌-◌, ◌*◌, ◌/◌, ◌%◌, ◌<◌, ◌==◌, Bool, true, false, not, ◌&&◌, nat_lt, List, [], ◌∷◌, length, slice_index, Option, Some, None, refl, ap, ◌∙◌, arith, eqb-true, if◌then◌else◌}
use Rattle.std.proofs.lemmas.Bool.{and_from, and_parts, cond-true}
use Rattle.std.proofs.lemmas.Bool.Decides.{nat_tests}
use Rattle.std.proofs.lemmas.Option.{cond_some, same_Some, none-some}
use Rattle.ttx_digits.specs.Digits.{decimal_in, two_decimals, joined_digits, is_between}
use Rattle.ttx_logbook.specs.Steps.{◌>>=◌}
use Rattle.ttx_logbook.specs.LogTexts.{Lacks, two_digits, second_text}
use Rattle.ttx_logbook.specs.SettingsReading.{second_at, second_in}
use Rattle.ttx_logbook.proofs.NumberLaws.{step}

digit_read : (d : ℕ) → d < 10 → decimal_in (48 + d) ≡ Some d
unfolding decimal_in
digit_read d small =
    let is : is_between 48 57 (48 + d) ≡ true = grind (arith, nat_tests) in
    let same : (48 + d) - 48 ≡ d = omega arith in
    cond-true (is_between 48 57 (48 + d)) (Some ((48 + d) - 48)) None is ∙ ap Some same

digit_is : (b d : ℕ) → decimal_in b ≡ Some d → (b ≡ 48 + d) × (d < 10)
unfolding decimal_in
digit_is b d is =
    let p = cond_some (is_between 48 57 b) (b - 48) d is in
    let between = p.0 in
    let value = p.1 in
    let low : 47 < b = grind (arith, nat_tests) in
    let high : b < 58 = grind (arith, nat_tests) in
    (omega arith, omega arith)

two_read : (n : ℕ) → n < 100 → joined_digits 10 (decimal_in (48 + n / 10)) (decimal_in (48 + n % 10)) ≡ Some n
two_read n small =
    let high : n / 10 < 10 = omega arith in
    let low : n % 10 < 10 = omega arith in
    let whole : 10 * (n / 10) + n % 10 ≡ n = omega arith in
    ap (λ o. joined_digits 10 o (decimal_in (48 + n % 10))) (digit_read (n / 10) high)
    ∙ ap (λ o. joined_digits 10 (Some (n / 10)) o) (digit_read (n % 10) low)
    ∙ ap Some whole

two_is : (a b : ℕ) (n : ℕ) → joined_digits 10 (decimal_in a) (decimal_in b) ≡ Some n → (a ≡ 48 + n / 10) × (b ≡ 48 + n % 10) × (n < 100)
two_is a b n is = two_by (decimal_in a) (decimal_in b) refl refl is
  where
    two_by : (x y : Option ℕ) → decimal_in a ≡ x → decimal_in b ≡ y → joined_digits 10 x y ≡ Some n → (a ≡ 48 + n / 10) × (b ≡ 48 + n % 10) × (n < 100)
    two_by None y x_is y_is is = absurd (none-some n is)
    two_by (Some x) None x_is y_is is = absurd (none-some n is)
    two_by (Some x) (Some y) x_is y_is is =
        let p = digit_is a x x_is in
        let q = digit_is b y y_is in
        let e = same_Some (10 * x + y) n is in
        (omega (arith, p, q, e), omega (arith, p, q, e), omega (arith, p, q, e))

high : (d : ℕ) → not (48 + d == 32) ≡ true
high d = grind (arith, nat_tests)

pub second_lacks : (n : ℕ) → Lacks 32 (second_text n)
second_lacks n =
    and_from _ _ (high (n / 3600 / 10)) (and_from _ _ (high (n / 3600 % 10)) (and_from _ _ (high (n / 60 % 60 / 10)) (and_from _ _ (high (n / 60 % 60 % 10))
    (and_from _ _ (high (n % 60 / 10)) (and_from _ _ (high (n % 60 % 10)) refl)))))

pub second_read : (n : ℕ) → n < 86400 → second_in (second_text n) ≡ Some n
unfolding second_in second_at two_decimals
second_read n small =
    let h : n / 3600 < 100 = omega arith in
    let m : n / 60 % 60 < 100 = omega arith in
    let s : n % 60 < 100 = omega arith in
    let h' : nat_lt (n / 3600) 24 ≡ true = (let lt : n / 3600 < 24 = omega arith in grind (arith, nat_tests)) in
    let m' : nat_lt (n / 60 % 60) 60 ≡ true = (let lt : n / 60 % 60 < 60 = omega arith in grind (arith, nat_tests)) in
    let s' : nat_lt (n % 60) 60 ≡ true = (let lt : n % 60 < 60 = omega arith in grind (arith, nat_tests)) in
    let whole : 3600 * (n / 3600) + 60 * (n / 60 % 60) + n % 60 ≡ n = omega arith in
    ap (λ o. o >>= (λ hours. joined_digits 10 (decimal_in (48 + n / 60 % 60 / 10)) (decimal_in (48 + n / 60 % 60 % 10)) >>= (λ minutes.
    joined_digits 10 (decimal_in (48 + n % 60 / 10)) (decimal_in (48 + n % 60 % 10)) >>= (λ seconds.
    if nat_lt hours 24 && nat_lt minutes 60 && nat_lt seconds 60 then Some (3600 * hours + 60 * minutes + seconds) else None)))) (two_read (n / 3600) h)
    ∙ ap (λ o. o >>= (λ minutes. joined_digits 10 (decimal_in (48 + n % 60 / 10)) (decimal_in (48 + n % 60 % 10)) >>= (λ seconds.
    if nat_lt (n / 3600) 24 && nat_lt minutes 60 && nat_lt seconds 60 then Some (3600 * (n / 3600) + 60 * minutes + seconds) else None))) (two_read (n / 60 % 60) m)
    ∙ ap (λ o. o >>= (λ seconds.
    if nat_lt (n / 3600) 24 && nat_lt (n / 60 % 60) 60 && nat_lt seconds 60 then Some (3600 * (n / 3600) + 60 * (n / 60 % 60) + seconds) else None)) (two_read (n % 60) s)
    ∙ cond-true (nat_lt (n / 3600) 24 && nat_lt (n / 60 % 60) 60 && nat_lt (n % 60) 60) (Some (3600 * (n / 3600) + 60 * (n / 60 % 60) + n % 60)) None
    (and_from _ _ (and_from _ _ h' m') s') ∙ ap Some whole

as_six : (w : List ℕ) → length w ≡ 6 →
    w ≡ slice_index w 0 ∷ slice_index w 1 ∷ slice_index w 2 ∷ slice_index w 3 ∷ slice_index w 4 ∷ slice_index w 5 ∷ []
as_six [] n = absurd (omega arith)
as_six (a ∷ []) n = absurd (omega arith)
as_six (a ∷ b ∷ []) n = absurd (omega arith)
as_six (a ∷ b ∷ c ∷ []) n = absurd (omega arith)
as_six (a ∷ b ∷ c ∷ d ∷ []) n = absurd (omega arith)
as_six (a ∷ b ∷ c ∷ d ∷ e ∷ []) n = absurd (omega arith)
as_six (a ∷ b ∷ c ∷ d ∷ e ∷ f ∷ []) n = refl
as_six (a ∷ b ∷ c ∷ d ∷ e ∷ f ∷ g ∷ w) n = absurd (omega arith)

if_true : (b : Bool) (o : Option ℕ) (n : ℕ) → (if b then o else None) ≡ Some n → (b ≡ true) × (o ≡ Some n)
if_true true o n is = (refl, is)
if_true false o n is = absurd (none-some n is)

pub second_is : (word : List ℕ) (n : ℕ) → second_in word ≡ Some n → (word ≡ second_text n) × (n < 86400)
unfolding second_in second_at two_decimals
second_is word n is =
    let C = (word ≡ second_text n) × (n < 86400) in
    let long = if_true (length word == 6) _ n is in
    step _ _ n C (long.1) (λ h h_is then_h.
    step _ _ n C then_h (λ m m_is then_m.
    step _ _ n C then_m (λ s s_is then_s.
    let a = two_is (slice_index word 0) (slice_index word 1) h h_is in
    let b = two_is (slice_index word 2) (slice_index word 3) m m_is in
    let c = two_is (slice_index word 4) (slice_index word 5) s s_is in
    let p = cond_some (nat_lt h 24 && nat_lt m 60 && nat_lt s 60) (3600 * h + 60 * m + s) n then_s in
    let two = (and_parts (nat_lt h 24 && nat_lt m 60) (nat_lt s 60) p.0).0 in
    let h' = (and_parts (nat_lt h 24) (nat_lt m 60) two).0 in
    let m' = (and_parts (nat_lt h 24) (nat_lt m 60) two).1 in
    let s' = (and_parts (nat_lt h 24 && nat_lt m 60) (nat_lt s 60) p.0).1 in
    let hours : h < 24 = grind (arith, nat_tests) in
    let minutes : m < 60 = grind (arith, nat_tests) in
    let seconds : s < 60 = grind (arith, nat_tests) in
    let whole = p.1 in
    let hh : h ≡ n / 3600 = omega (arith, hours, minutes, seconds, whole) in
    let mm : m ≡ n / 60 % 60 = omega (arith, hours, minutes, seconds, whole) in
    let ss : s ≡ n % 60 = omega (arith, hours, minutes, seconds, whole) in
    let small : n < 86400 = omega (arith, hours, minutes, seconds, whole) in (
      as_six word (eqb-true (length word) 6 long.0)
          ∙ (λ i. a.0 i ∷ a.1 i ∷ b.0 i ∷ b.1 i ∷ c.0 i ∷ c.1 i ∷ [])
          ∙ (λ i. two_digits (hh i) (two_digits (mm i) (two_digits (ss i) []))),
      small,
    ))))
