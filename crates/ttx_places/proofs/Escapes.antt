-- The characters of a part, as a path has them.
use Rattle.std.proofs.Common.{◌≡◌, ℕ, suc, ◌<◌, Bool, true, false, ◌==◌, List, [], ◌∷◌, ◌++◌, length, get_or, encode_utf8, refl, sym, arith}
use Rattle.std.proofs.lemmas.Grind.{flat_map-append}
use Rattle.std.proofs.lemmas.List.{append-nil}
use Rattle.std.proofs.lemmas.Str.{inside_one}
use Rattle.ttx_places.specs.Paths.{escape, escaped}

pub escaped_append : (a b : List ℕ) → escaped (a ++ b) ≡ escaped a ++ escaped b
unfolding escaped
escaped_append a b = flat_map-append escape a b

-- neither ~ nor a slash
abbrev IsPlain : ℕ → Type 0
IsPlain c = ((c == 126) ≡ false) × ((c == 47) ≡ false)

plain_text : (text : List ℕ) → ((k : ℕ) → k < length text → IsPlain (get_or text k 0)) → escaped text ≡ text
unfolding escaped
plain_text [] plain = refl
plain_text (c ∷ text) plain =
    let first = plain 0 (omega arith) in
    let others = plain_text text (λ k within. plain (suc k) (omega arith)) in
    rw (first.0, first.1, others)

-- a byte below 128 stands only for itself
other_by : (c b d : ℕ) (same : Bool) → (b < 128 → c ≡ b) → d < 128 → (c == d) ≡ false → (b == d) ≡ same → (b == d) ≡ false
other_by c b d true itself small other is =
    let b_is : b ≡ d = grind (arith, is) in
    let c_is : c ≡ b = itself (omega arith) in absurd (grind (arith, other, c_is, b_is))
other_by c b d false itself small other is = is

pub plain_character : (c : ℕ) → (c == 126) ≡ false → (c == 47) ≡ false → escaped (encode_utf8 c) ≡ encode_utf8 c
plain_character c tilde slash = plain_text (encode_utf8 c) byte
  where
    itself : (k : ℕ) → k < length (encode_utf8 c) → get_or (encode_utf8 c) k 0 < 128 → c ≡ get_or (encode_utf8 c) k 0
    itself k within small = inside_one c [] (encode_utf8 c) k (sym (append-nil (encode_utf8 c))) within small

    byte : (k : ℕ) → k < length (encode_utf8 c) → IsPlain (get_or (encode_utf8 c) k 0)
    byte k within = (
      other_by c (get_or (encode_utf8 c) k 0) 126 _ (itself k within) (omega arith) tilde refl,
      other_by c (get_or (encode_utf8 c) k 0) 47 _ (itself k within) (omega arith) slash refl,
    )
