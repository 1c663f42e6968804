-- What `parse` reads of a text is the number that it is.
use Rattle.std.proofs.Common.{◌≡◌, ◌&&◌, ℕ, Bool, true, false, refl, sym, ap, List, [], ◌∷◌, length, Some, None, Result, Ok, Err, nat_lt, lt-ltb}
use Rattle.std.proofs.Common.{ltb-true, true≢false, cond, ◌∙◌, ◌<◌, subst, arith, ℤ, pos, zero, suc, FitsSigned, w32}
use Rattle.std.specs.Prelude.{neg_ℤ, unsigned_abs}
use Rattle.std.proofs.lemmas.Int.{fits_signed_from_abs}
use Rattle.std.specs.List.{list_all}
use Rattle.std.specs.Result.{result_ok}
use Rattle.std.specs.Char.{digit_value}
use Rattle.std.specs.Str.Parse.{AllDigits, IsNumeral, ParsesUnsigned, digits_value, signed_digits_value, starts_with_minus, without_leading_plus, without_leading_sign}
use Rattle.clap.specs.Words.{Text}
use Rattle.ttx_arguments.specs.Numbers.{is_numeral, numeral}
use Rattle.ttx_arguments.specs.Timings.{signed_numeral}

digits_pass : (ds : List ℕ) → AllDigits 10 ds → list_all (λ d. nat_lt (digit_value d) 10) ds ≡ true
digits_pass [] h = refl
digits_pass (d ∷ ds) h = rw (lt-ltb (digit_value d) 10 h.0) (digits_pass ds h.1)

both : (a b : Bool) → (a && b) ≡ true → (a ≡ true) × (b ≡ true)
both true b e = (refl, e)
both false b e = absurd (true≢false (sym e))

digits_from : (ds : List ℕ) → list_all (λ d. nat_lt (digit_value d) 10) ds ≡ true → AllDigits 10 ds
digits_from [] e = tt
digits_from (d ∷ ds) e =
    let parts = both _ _ e in
    (ltb-true _ _ parts.0, digits_from ds parts.1)

abbrev fits : Text → Bool
fits text = let digits = without_leading_plus text in is_numeral digits && nat_lt (digits_value 10 digits) 4294967296

pub number_read : {E : Type 0} (text : Text) (r : Result ℕ E) → ParsesUnsigned 32 10 text r → result_ok r ≡ numeral text
number_read text (Ok n) h =
    let ds = without_leading_plus text in
    rw (lt-ltb 0 (length ds) h.0.0.0, digits_pass ds h.0.0.1, lt-ltb (digits_value 10 ds) 4294967296 h.0.1) (ap Some h.1)
number_read text (Err e) h = go (fits text) refl
  where
    go : (b : Bool) → fits text ≡ b → None ≡ cond (fits text) (Some (digits_value 10 (without_leading_plus text))) None
    go false t = rw t refl
    go true t =
        let outer = both _ _ t in
        let inner = both _ _ outer.0 in
        absurd (h ((ltb-true _ _ inner.0, digits_from (without_leading_plus text) inner.1), ltb-true _ _ outer.1))

-- the same of a number behind a sign or none
signed_size : (text : Text) → unsigned_abs (signed_digits_value 10 text) ≡ digits_value 10 (without_leading_sign text)
signed_size text = go (starts_with_minus text) (digits_value 10 (without_leading_sign text))
  where
    go : (m : Bool) (n : ℕ) → unsigned_abs (cond m (neg_ℤ (pos n)) (pos n)) ≡ n
    go true zero = refl
    go true (suc n) = refl
    go false n = refl

abbrev pub IsSigned : Text → Type 0
IsSigned text = IsNumeral 10 (without_leading_sign text) × FitsSigned w32 (signed_digits_value 10 text)

pub signed_small : (text : Text) (n : ℤ) → IsSigned text → n ≡ signed_digits_value 10 text → unsigned_abs n < 1000 → Some n ≡ signed_numeral text
signed_small text n h e small =
    let ds = without_leading_sign text in
    let few : digits_value 10 ds < 1000 = subst (λ k. k < 1000) (ap unsigned_abs e ∙ signed_size text) small in
    rw (lt-ltb 0 (length ds) h.0.0, digits_pass ds h.0.1, lt-ltb (digits_value 10 ds) 1000 few) (ap Some e)

abbrev is_small : Text → Bool
is_small text = is_numeral (without_leading_sign text) && nat_lt (digits_value 10 (without_leading_sign text)) 1000

not_small : (text : Text) → (is_small text ≡ true → ⊥) → None ≡ signed_numeral text
not_small text no_ = go (is_small text) refl
  where
    go : (b : Bool) → is_small text ≡ b → None ≡ cond (is_small text) (Some (signed_digits_value 10 text)) None
    go false t = rw t refl
    go true t = absurd (no_ t)

pub signed_none : (text : Text) → (IsSigned text → ⊥) → None ≡ signed_numeral text
signed_none text refused = not_small text (λ t.
    let outer = both _ _ t in
    let inner = both _ _ outer.0 in
    let few = ltb-true _ _ outer.1 in
    let size : unsigned_abs (signed_digits_value 10 text) < 2147483648 = omega (arith, signed_size text, few) in
    refused ((ltb-true _ _ inner.0, digits_from (without_leading_sign text) inner.1), fits_signed_from_abs w32 _ size))
