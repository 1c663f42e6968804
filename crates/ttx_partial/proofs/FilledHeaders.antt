-- A header with page number FF in the place of its own: still a header of its magazine.
use Rattle.std.proofs.Common.{◌≡◌, ℕ, zero, suc, ◌+◌, ◌*◌, ◌<◌, ◌^◌, Bool, true, ◌&&◌, ◌==◌, List, [], ◌∷◌, take, drop, refl, ap, sym, subst, arith, slice_index, is_some, unwrap_or, Some}
use Rattle.ttx_code.specs.Words.{reading, number_of, ones, distance, hamming_word}
use Rattle.ttx_packet.specs.Slots.{IsSlot, IsHeader, kind_of, are_readable, read_number}
use Rattle.ttx_header.specs.Ids.{Id}
use Rattle.ttx_header.specs.Headers.{is_header, id_of, control_of}
use Rattle.ttx_header.specs.Laws.{HeadersHaveFields, HeadersAreHeaders}
use Rattle.ttx_page.specs.Packets.{Packet, Header, packet_of, packet_of_kind}
use Rattle.ttx_partial.specs.Asides.{time_filled}

-- a header of this magazine with page number FF
pub record IsFilled (mag : ℕ) (packet : Packet) : Type 0 where
  pub id : Id
  pub control : ℕ
  pub text : List ℕ
  pub is : packet ≡ Header id control text
  pub mag_is : id.mag ≡ mag
  pub page_is : id.page ≡ 255

filled_bytes : (a b c d : ℕ) (rest : List ℕ) → IsSlot (a ∷ b ∷ c ∷ d ∷ rest) → (x : ℕ) → slice_index (a ∷ b ∷ 234 ∷ 234 ∷ rest) x < 2 ^ 8
filled_bytes a b c d rest is zero = is.bytes 0
filled_bytes a b c d rest is (suc zero) = is.bytes 1
filled_bytes a b c d rest is (suc (suc zero)) = omega arith
filled_bytes a b c d rest is (suc (suc (suc zero))) = omega arith
filled_bytes a b c d rest is (suc (suc (suc (suc x)))) = is.bytes (suc (suc (suc (suc x))))

filled_slot : (a b c d : ℕ) (rest : List ℕ) → IsSlot (a ∷ b ∷ c ∷ d ∷ rest) → IsSlot (a ∷ b ∷ 234 ∷ 234 ∷ rest)
filled_slot a b c d rest is = record { size = is.size; bytes = filled_bytes a b c d rest is }

-- EA is the code word of F
f_is_read : reading 234 ≡ Some 15
unfolding reading ones distance hamming_word
f_is_read = refl

f_is_number : number_of 234 ≡ 15
f_is_number = ap (λ o. unwrap_or o 0) f_is_read

kept_tests : (a b c d r z : Bool) → ((a && (b && (c && (d && r)))) && z) ≡ true → ((a && (b && (true && (true && r)))) && z) ≡ true
kept_tests a b c d r z e = grind arith

filled_header : (a b c d : ℕ) (rest : List ℕ) → is_header (a ∷ b ∷ c ∷ d ∷ rest) ≡ true → is_header (a ∷ b ∷ 234 ∷ 234 ∷ rest) ≡ true
filled_header a b c d rest is =
    let r = are_readable (take 6 rest) in
    let z = read_number (a ∷ b ∷ c ∷ d ∷ rest) == 0 in
    subst (λ x. ((is_some (reading a) && (is_some (reading b) && (x && (x && r)))) && z) ≡ true) (sym (ap is_some f_is_read))
    (kept_tests (is_some (reading a)) (is_some (reading b)) (is_some (reading c)) (is_some (reading d)) r z is)

at_four : HeadersHaveFields → HeadersAreHeaders → (a b c d : ℕ) (rest : List ℕ) → IsSlot (a ∷ b ∷ c ∷ d ∷ rest) → (mag : ℕ) →
    kind_of (a ∷ b ∷ c ∷ d ∷ rest) ≡ IsHeader mag → IsFilled mag (packet_of (a ∷ b ∷ 234 ∷ 234 ∷ rest))
unfolding packet_of
at_four fields headers a b c d rest is mag e =
    let s = a ∷ b ∷ c ∷ d ∷ rest in
    let f = a ∷ b ∷ 234 ∷ 234 ∷ rest in
    let has = fields s mag is e in
    let kind = headers f (filled_slot a b c d rest is) (filled_header a b c d rest has.header) in
    record {
      id = id_of f;
      control = control_of f;
      text = drop 10 f;
      is = ap (packet_of_kind f) kind;
      mag_is = has.magazine;
      page_is = ap (λ n. n + 16 * n) f_is_number;
    }

pub filled : HeadersHaveFields → HeadersAreHeaders → (s : List ℕ) → IsSlot s → (mag : ℕ) → kind_of s ≡ IsHeader mag → IsFilled mag (packet_of (time_filled s))
filled fields headers [] is mag e = absurd (let l = is.size in omega arith)
filled fields headers (a ∷ []) is mag e = absurd (let l = is.size in omega arith)
filled fields headers (a ∷ b ∷ []) is mag e = absurd (let l = is.size in omega arith)
filled fields headers (a ∷ b ∷ c ∷ []) is mag e = absurd (let l = is.size in omega arith)
filled fields headers (a ∷ b ∷ c ∷ d ∷ rest) is mag e = at_four fields headers a b c d rest is mag e
