-- A readable packet 8/30 format 1 encodes the fields that are read from it.
use Rattle.std.proofs.Common.{◌≡◌, ℕ, zero, suc, ◌+◌, ◌-◌, ◌/◌, ◌%◌, ◌<◌, ◌≤◌, ◌||◌, Bool, true, false, not, nat_lt, nat_le, List, [], ◌∷◌, All}
use Rattle.std.proofs.Common.{Option, Some, None, Result, Ok, Err, if◌then◌else◌, is_some, length, get_or, drop, map, refl, sym, ap, ap₂, subst, ◌∙◌}
use Rattle.std.proofs.Common.{arith, eqb, slice_index, slice_range}
use Rattle.std.specs.List.{list_all}
use Rattle.std.specs.Prelude.{unwrap_or}
use Rattle.std.proofs.lemmas.Bool.{agree_below, agree_below_at, and_parts, eqb-true}
use Rattle.std.proofs.lemmas.Bool.Decides.{nat_tests}
use Rattle.std.proofs.lemmas.List.{get_or-take, get_or-drop, length-take-le, length-drop, length-map}
use Rattle.ttx_code.proofs.Choices.{implied}
use Rattle.ttx_code.specs.Words.{reading, ones, is_odd, odd_byte}
use Rattle.ttx_packet.specs.Slots.{IsSlot, are_readable}
use Rattle.ttx_header.specs.Headers.{number}
use Rattle.ttx_links.specs.Laws.{ReadLinkIsSaid}
use Rattle.ttx_links.specs.Sets.{IsLink}
use Rattle.ttx_info.specs.Infos.{InfoFields, IsInfoFields, is_half_digit, value_of, date_digits, time_digits, date_halves, time_halves, info_fields}
use Rattle.ttx_info.specs.Infos.{info_of, info_behind_link, SaysInfo}
use Rattle.ttx_info.specs.Laws.{ReadInfosAreSaid}
use Rattle.ttx_info.specs.declared.faults.InfoFault.{InfoFault}

-- a test that did not lead to a fault
passed : (b : Bool) (fault : InfoFault) (rest : Result InfoFields InfoFault) (f : InfoFields) → (if b then Err fault else rest) ≡ Ok f →
    (b ≡ false) × (rest ≡ Ok f)
passed true fault rest f e = cc
passed false fault rest f e = (refl, e)

turned : (b : Bool) → not b ≡ false → b ≡ true
turned true e = refl
turned false e = cc

some_of : (o : Option ℕ) → is_some o ≡ true → o ≡ Some (unwrap_or o 0)
some_of None e = cc
some_of (Some n) e = refl

-- ---- digits

digit : (half : ℕ) → is_half_digit half ≡ true → (1 ≤ half) × (half ≤ 10)
digit half e = let parts = and_parts (nat_le 1 half) (nat_le half 10) e in (grind (arith, nat_tests, parts.0), grind (arith, nat_tests, parts.1))

date_again : (a b c d e : ℕ) → list_all is_half_digit (a ∷ b ∷ c ∷ d ∷ e ∷ []) ≡ true →
    (value_of (a ∷ b ∷ c ∷ d ∷ e ∷ []) < 100000) × (a ∷ b ∷ c ∷ d ∷ e ∷ [] ≡ date_halves (value_of (a ∷ b ∷ c ∷ d ∷ e ∷ [])))
date_again a b c d e h =
    let p1 = and_parts (is_half_digit a) (list_all is_half_digit (b ∷ c ∷ d ∷ e ∷ [])) h in
    let p2 = and_parts (is_half_digit b) (list_all is_half_digit (c ∷ d ∷ e ∷ [])) p1.1 in
    let p3 = and_parts (is_half_digit c) (list_all is_half_digit (d ∷ e ∷ [])) p2.1 in
    let p4 = and_parts (is_half_digit d) (list_all is_half_digit (e ∷ [])) p3.1 in
    let p5 = and_parts (is_half_digit e) (list_all is_half_digit []) p4.1 in
    let (a1, a2) = digit a p1.0 in
    let (b1, b2) = digit b p2.0 in
    let (c1, c2) = digit c p3.0 in
    let (d1, d2) = digit d p4.0 in
    let (e1, e2) = digit e p5.0 in
    let n = value_of (a ∷ b ∷ c ∷ d ∷ e ∷ []) in
    let ea : a ≡ n / 10000 % 10 + 1 = omega (arith, a1, a2, b1, b2, c1, c2, d1, d2, e1, e2) in
    let eb : b ≡ n / 1000 % 10 + 1 = omega (arith, a1, a2, b1, b2, c1, c2, d1, d2, e1, e2) in
    let ec : c ≡ n / 100 % 10 + 1 = omega (arith, a1, a2, b1, b2, c1, c2, d1, d2, e1, e2) in
    let ed : d ≡ n / 10 % 10 + 1 = omega (arith, a1, a2, b1, b2, c1, c2, d1, d2, e1, e2) in
    let ee : e ≡ n / 1 % 10 + 1 = omega (arith, a1, a2, b1, b2, c1, c2, d1, d2, e1, e2) in
    (omega (arith, a1, a2, b1, b2, c1, c2, d1, d2, e1, e2), λ i. ea i ∷ eb i ∷ ec i ∷ ed i ∷ ee i ∷ [])

time_again : (a b c d e f : ℕ) → list_all is_half_digit (a ∷ b ∷ c ∷ d ∷ e ∷ f ∷ []) ≡ true →
    (value_of (a ∷ b ∷ c ∷ d ∷ e ∷ f ∷ []) < 1000000) × (a ∷ b ∷ c ∷ d ∷ e ∷ f ∷ [] ≡ time_halves (value_of (a ∷ b ∷ c ∷ d ∷ e ∷ f ∷ [])))
time_again a b c d e f h =
    let p1 = and_parts (is_half_digit a) (list_all is_half_digit (b ∷ c ∷ d ∷ e ∷ f ∷ [])) h in
    let p2 = and_parts (is_half_digit b) (list_all is_half_digit (c ∷ d ∷ e ∷ f ∷ [])) p1.1 in
    let p3 = and_parts (is_half_digit c) (list_all is_half_digit (d ∷ e ∷ f ∷ [])) p2.1 in
    let p4 = and_parts (is_half_digit d) (list_all is_half_digit (e ∷ f ∷ [])) p3.1 in
    let p5 = and_parts (is_half_digit e) (list_all is_half_digit (f ∷ [])) p4.1 in
    let p6 = and_parts (is_half_digit f) (list_all is_half_digit []) p5.1 in
    let (a1, a2) = digit a p1.0 in
    let (b1, b2) = digit b p2.0 in
    let (c1, c2) = digit c p3.0 in
    let (d1, d2) = digit d p4.0 in
    let (e1, e2) = digit e p5.0 in
    let (f1, f2) = digit f p6.0 in
    let n = value_of (a ∷ b ∷ c ∷ d ∷ e ∷ f ∷ []) in
    let ea : a ≡ n / 100000 % 10 + 1 = omega (arith, a1, a2, b1, b2, c1, c2, d1, d2, e1, e2, f1, f2) in
    let eb : b ≡ n / 10000 % 10 + 1 = omega (arith, a1, a2, b1, b2, c1, c2, d1, d2, e1, e2, f1, f2) in
    let ec : c ≡ n / 1000 % 10 + 1 = omega (arith, a1, a2, b1, b2, c1, c2, d1, d2, e1, e2, f1, f2) in
    let ed : d ≡ n / 100 % 10 + 1 = omega (arith, a1, a2, b1, b2, c1, c2, d1, d2, e1, e2, f1, f2) in
    let ee : e ≡ n / 10 % 10 + 1 = omega (arith, a1, a2, b1, b2, c1, c2, d1, d2, e1, e2, f1, f2) in
    let ef : f ≡ n / 1 % 10 + 1 = omega (arith, a1, a2, b1, b2, c1, c2, d1, d2, e1, e2, f1, f2) in
    (omega (arith, a1, a2, b1, b2, c1, c2, d1, d2, e1, e2, f1, f2), λ i. ea i ∷ eb i ∷ ec i ∷ ed i ∷ ee i ∷ ef i ∷ [])

-- ---- characters

-- a byte of odd parity is the byte that sends its character
abbrev sends_its_code : ℕ → Bool
sends_its_code b = not (is_odd b) || eqb (odd_byte (b % 128)) b

sends_its_code_table : agree_below sends_its_code (λ _. true) 256 ≡ true
unfolding ones
sends_its_code_table = refl

byte_again : (b : ℕ) → b < 256 → is_odd b ≡ true → b ≡ odd_byte (b % 128)
byte_again b l odd = sym (eqb-true _ _ (implied (is_odd b) _ (agree_below_at sends_its_code (λ _. true) 256 b sends_its_code_table l) odd))

text_again : (text : List ℕ) → ((k : ℕ) → k < length text → get_or text k 0 < 256) → list_all is_odd text ≡ true → text
    ≡ map odd_byte (map (λ b. b % 128) text)
text_again [] small odd = refl
text_again (b ∷ text) small odd =
    let parts = and_parts (is_odd b) (list_all is_odd text) odd in
    ap₂ (λ x xs. x ∷ xs) (byte_again b (small 0 (omega arith)) parts.0) (text_again text (λ k l. small (suc k) (omega (arith, l))) parts.1)

codes_are_small : (text : List ℕ) → All (λ c. c < 128) (map (λ b. b % 128) text)
codes_are_small [] k d l = absurd (omega arith)
codes_are_small (b ∷ text) zero d l = omega arith
codes_are_small (b ∷ text) (suc k) d l = codes_are_small text k d (omega (arith, l))

byte_at : (s : List ℕ) (a b k : ℕ) → k < b - a → get_or (slice_range s a b) k 0 ≡ get_or s (a + k) 0
byte_at s a b k l = get_or-take (b - a) (drop a s) k 0 l ∙ get_or-drop a s k 0

length_range : (s : List ℕ) (a b : ℕ) → b ≤ length s → a ≤ b → length (slice_range s a b) ≡ b - a
length_range s a b l m = length-take-le (b - a) (drop a s) (omega (arith, length-drop a s))

-- ---- the packet

module _ (link : ReadLinkIsSaid) where
  -- the fields that are read if no test leads to a fault
  said : (s : List ℕ) → IsSlot s → is_some (reading (slice_index s 2)) ≡ true → nat_lt 1 (number s 2) ≡ false →
      are_readable (slice_range s 3 9) ≡ true →
      list_all is_half_digit (date_digits s) ≡ true → list_all is_half_digit (time_digits s) ≡ true → list_all is_odd (slice_range s 22 42) ≡ true →
      IsInfoFields (info_fields s) × IsLink (info_fields s).initial × SaysInfo (info_fields s) s
  said s is first low linked date time odd =
      let (target, initial) = link 8 s 3 is (omega arith) linked in
      let (mjd, days) = date_again _ _ _ _ _ date in
      let (utc, seconds) = time_again _ _ _ _ _ _ time in
      let size : length (slice_range s 22 42) ≡ 20 = length_range s 22 42 (omega (arith, is.size)) (omega arith) in
      let bytes = λ (k : ℕ) (l : k < length (slice_range s 22 42)).
      subst (λ b. b < 256) (sym (byte_at s 22 42 k (omega (arith, l, size)))) (is.bytes (22 + k)) in (
        record {
          range = record {
            designation = grind (arith, nat_tests, low);
            halves = omega arith;
            mjd = mjd;
            utc = utc;
            text = codes_are_small (slice_range s 22 42);
          };
          network = length_range s 9 11 (omega (arith, is.size)) (omega arith);
          text = length-map _ _ ∙ size;
        },
        target,
        record {
          designation = some_of _ first;
          initial = initial;
          network = refl;
          halves = refl;
          west = refl;
          date = days;
          time = seconds;
          text = text_again (slice_range s 22 42) bytes odd;
        },
      )

  pub read_infos_are_said : ReadInfosAreSaid
  unfolding info_of info_behind_link
  read_infos_are_said f s is e =
      let (first, e1) = passed _ _ _ f e in
      let (low, e2) = passed _ _ _ f e1 in
      let (linked, e3) = passed _ _ _ f e2 in
      let (digits, e4) = passed _ _ _ f e3 in
      let (odd, e5) = passed _ _ _ f e4 in
      let both = and_parts (list_all is_half_digit (date_digits s)) (list_all is_half_digit (time_digits s)) (turned _ digits) in
      subst (λ g. IsInfoFields g × IsLink g.initial × SaysInfo g s) (ap (λ r. the r) e5)
      (said s is (turned _ first) low (turned _ linked) both.0 both.1 (turned _ odd))
    where
      the : Result InfoFields InfoFault → InfoFields
      the (Ok g) = g
      the (Err fault) = info_fields s
