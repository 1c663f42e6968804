-- What calls append to a text, where each may run out of memory.
use Rattle.std.proofs.Common.{◌≡◌, ℕ, ◌+◌, ◌<◌, Bool, true, false, List, [], ◌∷◌, ◌++◌, Result, Ok, Err, OnOk, is_ok, if◌then◌else◌, nat_lt}
use Rattle.std.proofs.Common.{encode_utf8, append_assoc, ap, sym, subst, ◌∙◌, arith}
use Rattle.std.proofs.lemmas.Bool.{lt-ltb}
use Rattle.ttx_digits.specs.Digits.{hex_digit}

-- one call
pub added : {T E : Type 0} (r : Result T E) (new old more text : List ℕ) → new ≡ (if is_ok r then old ++ more else old) → more ≡ text
    → OnOk r (new ≡ old ++ text)
added (Ok x) new old more text e is = e ∙ ap (λ m. old ++ m) is
added (Err y) new old more text e is = tt

-- a call after another
pub added_after : {T E : Type 0} (r : Result T E) (new mid old a b text : List ℕ) → mid ≡ old ++ a → OnOk r (new ≡ mid ++ b) → a ++ b ≡ text
    → OnOk r (new ≡ old ++ text)
added_after (Ok x) new mid old a b text first e is = e ∙ ap (λ m. m ++ b) first ∙ append_assoc old a b ∙ ap (λ t. old ++ t) is
added_after (Err y) new mid old a b text first e is = tt

either : (b : Bool) (x y : ℕ) → x < 128 → y < 128 → (if b then x else y) < 128
either true x y p q = p
either false x y p q = q

-- a digit is one byte
pub one_digit : (d n : ℕ) → d ≡ hex_digit n → n < 16 → (d < 128 → encode_utf8 d ≡ d ∷ []) → encode_utf8 d ≡ hex_digit n ∷ []
one_digit d n is small ascii =
    ascii (subst (λ k. k < 128) (sym is) (either (nat_lt n 10) (48 + n) (55 + n) (omega (arith, small)) (omega (arith, small)))) ∙ ap (λ k. k ∷ []) is

-- a decimal digit
pub low_digit : (n : ℕ) → n < 10 → hex_digit n ≡ 48 + n
low_digit n small = ap (λ b. if b then 48 + n else 55 + n) (lt-ltb n 10 small)
