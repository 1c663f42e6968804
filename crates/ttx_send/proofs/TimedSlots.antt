-- A slot with the time of a moment.
use Rattle.std.proofs.Common.{◌≡◌, ◌⊎◌, ℕ, zero, suc, ◌+◌, ◌*◌, ◌/◌, ◌%◌, ◌<◌, ◌≤◌, true, false, if◌then◌else◌, Option, Some, None, List, [], ◌∷◌, ◌++◌, length, length-append, length-take-le}
use Rattle.std.proofs.Common.{length-drop, take, drop, get_or, get_or-take, refl, sym, ◌∙◌, subst, inl, inr, arith, slice_index}
use Rattle.std.specs.List.{AllByRecursion}
use Rattle.std.proofs.lemmas.List.{get_or_append_left}
use Rattle.std.proofs.lemmas.Bool.{cases_lt, cond_both}
use Rattle.ttx_code.specs.Laws.{OddBytesHoldTheirCodes}
use Rattle.ttx_packet.specs.Slots.{IsSlot, Kind, IsEmpty, IsUnreadable, IsHeader, IsRow, IsLinks, IsInfo, IsOther, is_empty, kind_of}
use Rattle.ttx_packet.specs.Receptions.{IsFree}
use Rattle.ttx_packet.specs.Laws.{EmptySlotsAreEmpty}
use Rattle.ttx_info.specs.Infos.{half_byte}
use Rattle.ttx_send.specs.Times.{LocalOffset, Moment, hhmmss, clock_bytes, date_and_time, shown_offset}
use Rattle.ttx_send.specs.Airing.{is_format_1, at_time_of_kind, at_time, IsSentAs}
use Rattle.ttx_send.specs.Laws.{TimedIsSentAs}

-- ---- lists of bytes

byte_in : (xs : List ℕ) → AllByRecursion (λ b. b < 256) xs → (i : ℕ) → get_or xs i 0 < 256
byte_in [] all i = omega arith
byte_in (x ∷ xs) all zero = all.0
byte_in (x ∷ xs) all (suc i) = byte_in xs all.1 i

bytes_of : (xs : List ℕ) → ((i : ℕ) → get_or xs i 0 < 256) → AllByRecursion (λ b. b < 256) xs
bytes_of [] at = tt
bytes_of (x ∷ xs) at = (at 0, bytes_of xs (λ i. at (suc i)))

both_bytes : (xs ys : List ℕ) → AllByRecursion (λ b. b < 256) xs → AllByRecursion (λ b. b < 256) ys → AllByRecursion (λ b. b < 256) (xs ++ ys)
both_bytes [] ys a b = b
both_bytes (x ∷ xs) ys a b = (a.0, both_bytes xs ys a.1 b)

front_bytes : (n : ℕ) (xs : List ℕ) → AllByRecursion (λ b. b < 256) xs → AllByRecursion (λ b. b < 256) (take n xs)
front_bytes zero xs a = tt
front_bytes (suc n) [] a = tt
front_bytes (suc n) (x ∷ xs) a = (a.0, front_bytes n xs a.1)

back_bytes : (n : ℕ) (xs : List ℕ) → AllByRecursion (λ b. b < 256) xs → AllByRecursion (λ b. b < 256) (drop n xs)
back_bytes zero xs a = a
back_bytes (suc n) [] a = tt
back_bytes (suc n) (x ∷ xs) a = back_bytes n xs a.1

-- what stands in front stays
pub front_stays : (n : ℕ) (slot rest : List ℕ) → n ≤ length slot → (x : ℕ) → x < n → get_or (take n slot ++ rest) x 0 ≡ get_or slot x 0
front_stays n slot rest fits x l =
    get_or_append_left (take n slot) rest 0 x (omega (arith, length-take-le n slot fits, l)) ∙ get_or-take n slot x 0 l

-- ---- the bytes of a moment

module _ (holds : OddBytesHoldTheirCodes) (t : Moment) where
  clock_is_bytes : AllByRecursion (λ b. b < 256) (clock_bytes t)
  clock_is_bytes =
      let s = (t.second + t.ahead) % 86400 in
      let odd = λ (c : ℕ) (l : c < 128). (holds c l).2 in (
        odd (48 + s / 36000) (omega arith),
        (
          odd (48 + s / 3600 % 10) (omega arith),
          (
            odd 58 (omega arith),
            (
              odd (48 + s / 600 % 6) (omega arith),
              (
                odd (48 + s / 60 % 10) (omega arith),
                (odd 58 (omega arith), (odd (48 + s / 10 % 6) (omega arith), (odd (48 + s % 10) (omega arith), tt))),
              ),
            ),
          ),
        ),
      )

half_small : (n unit : ℕ) → half_byte n unit ≤ 10
half_small n unit = omega arith

pair_small : (a b : ℕ) → a ≤ 10 → b ≤ 10 → 16 * a + b < 256
pair_small a b l m = omega (arith, l, m)

date_is_bytes : (t : Moment) (high : ℕ) → high < 16 → AllByRecursion (λ b. b < 256) (date_and_time high t)
date_is_bytes t high l =
    let two = λ (n u v : ℕ). pair_small (half_byte n u) (half_byte n v) (half_small n u) (half_small n v) in
    let u = hhmmss t.second in
    let first : 16 * high + half_byte t.mjd 10000 < 256 = omega (arith, l, half_small t.mjd 10000) in
    (first, (two t.mjd 1000 100, (two t.mjd 10 1, (two u 100000 10000, (two u 1000 100, (two u 10 1, tt))))))

offset_is_byte : (o : Option LocalOffset) (byte : ℕ) → byte < 256 → shown_offset o byte < 256
offset_is_byte None byte l = l
offset_is_byte (Some o) byte l =
    elim o.west as (λ w. 129 + 2 * (o.halves % 32) + (if w then 64 else 0) < 256) [ true ↦ omega arith | false ↦ omega arith ]

-- ---- the slot

itself : (slot : List ℕ) → IsSlot slot → IsSentAs slot slot
itself slot s = record { is_slot = s; empty = λ z. z; same = λ x l. inr refl }

not_empty : EmptySlotsAreEmpty → (slot : List ℕ) (k : Kind) → kind_of slot ≡ k → (k ≡ IsEmpty → ⊥) → is_empty slot ≡ true → ⊥
not_empty empty slot k e n z = n (sym e ∙ (empty slot).1 z)

module _ (holds : OddBytesHoldTheirCodes) (empty : EmptySlotsAreEmpty) (t : Moment) (slot : List ℕ) (s : IsSlot slot) where
  all_bytes : AllByRecursion (λ b. b < 256) slot
  all_bytes = bytes_of slot s.bytes

  header_sent : (mag : ℕ) → kind_of slot ≡ IsHeader mag → IsSentAs slot (take 34 slot ++ clock_bytes t)
  header_sent mag e =
      let n : EmptySlotsAreEmpty → is_empty slot ≡ true → ⊥ = λ q z. not_empty q slot (IsHeader mag) e (λ h. cc) z in
      record {
        is_slot = record {
          size = omega (arith, length-append (take 34 slot) (clock_bytes t), length-take-le 34 slot (omega (arith, s.size)));
          bytes = byte_in (take 34 slot ++ clock_bytes t)
              (both_bytes (take 34 slot) (clock_bytes t) (front_bytes 34 slot all_bytes) (clock_is_bytes holds t));
        };
        empty = λ z. absurd (n empty z);
        same = λ x l. elim (cases_lt x 34) as (λ _. IsFree (kind_of slot) x ⊎ (slice_index (take 34 slot ++ clock_bytes t) x ≡ slice_index slot x)) [
          | inl lt ↦ inr (front_stays 34 slot (clock_bytes t) (omega (arith, s.size)) x lt)
          | inr ge ↦ inl (subst (λ k. IsFree k x) (sym e) ge)
        ];
      }

  abbrev date : List ℕ
  date = shown_offset t.offset (slice_index slot 11) ∷ date_and_time (slice_index slot 12 / 16) t

  abbrev dated : List ℕ
  dated = take 11 slot ++ date ++ drop 18 slot

  info_sent : kind_of slot ≡ IsInfo → IsSentAs slot dated
  info_sent e =
      let high : slice_index slot 12 / 16 < 16 = omega (arith, s.bytes 12) in
      let l11 : length (take 11 slot) ≡ 11 = length-take-le 11 slot (omega (arith, s.size)) in
      let l18 : length (take 11 slot ++ date) ≡ 18 = omega (arith, length-append (take 11 slot) date, l11) in
      let bytes : AllByRecursion (λ b. b < 256) date = (offset_is_byte t.offset (slice_index slot 11) (s.bytes 11), date_is_bytes t (slice_index slot 12 / 16) high) in
      record {
        is_slot = record {
          size = omega (arith, length-append (take 11 slot ++ date) (drop 18 slot), l18, length-drop 18 slot, s.size);
          bytes = byte_in dated (both_bytes (take 11 slot ++ date) (drop 18 slot)
              (both_bytes (take 11 slot) date (front_bytes 11 slot all_bytes) bytes) (back_bytes 18 slot all_bytes));
        };
        empty = λ z. absurd (not_empty empty slot IsInfo e (λ h. cc) z);
        same = λ x l. elim (cases_lt x 2) as (λ _. IsFree (kind_of slot) x ⊎ (slice_index dated x ≡ slice_index slot x)) [
          | inl lt ↦ inr (get_or_append_left (take 11 slot ++ date) (drop 18 slot) 0 x (omega (arith, l18, lt))
              ∙ front_stays 11 slot date (omega (arith, s.size)) x (omega (arith, lt)))
          | inr ge ↦ inl (subst (λ k. IsFree k x) (sym e) ge)
        ];
      }

  sent_by_kind : (k : Kind) → kind_of slot ≡ k → IsSentAs slot (at_time_of_kind t slot k)
  sent_by_kind IsEmpty e = itself slot s
  sent_by_kind IsUnreadable e = itself slot s
  sent_by_kind (IsHeader mag) e = header_sent mag e
  sent_by_kind (IsRow mag number) e = itself slot s
  sent_by_kind (IsLinks mag) e = itself slot s
  sent_by_kind IsInfo e = cond_both (is_format_1 slot) dated slot (IsSentAs slot) (λ _. info_sent e) (λ _. itself slot s)
  sent_by_kind (IsOther mag number) e = itself slot s

pub timed_is_sent_as : OddBytesHoldTheirCodes → EmptySlotsAreEmpty → TimedIsSentAs
unfolding at_time
timed_is_sent_as holds empty t slot s = sent_by_kind holds empty t slot s (kind_of slot) refl
