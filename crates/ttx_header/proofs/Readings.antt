-- The fields of a page header, from the numbers of its bytes.
use Rattle.std.proofs.Common.{◌≡◌, ℕ, ◌+◌, ◌*◌, ◌/◌, ◌%◌, ◌<◌, ◌≤◌, ◌==◌, ◌&&◌, ◌||◌, Bool, true, false, List, [], ◌∷◌, ◌++◌, Option, Some, None}
use Rattle.std.proofs.Common.{is_some, length, take, take_all, take_at, drop, drop_at, length-append, map, refl, sym, ap, subst, ◌∙◌, inl, inr}
use Rattle.std.proofs.Common.{arith, eqb-true, eq-eqb, slice_index, slice_range}
use Rattle.std.specs.Prelude.{unwrap_or}
use Rattle.std.proofs.lemmas.Bool.{cases_Bool, and_parts}
use Rattle.std.proofs.lemmas.Bool.Decides.{nat_tests}
use Rattle.ttx_code.proofs.Choices.{implied, either}
use Rattle.ttx_code.specs.Words.{reading, number_of, hamming_word, distance, ones}
use Rattle.ttx_code.specs.Laws.{ReadingsAreNumbers}
use Rattle.ttx_packet.specs.Slots.{IsHeader, is_empty, is_clean, are_readable, are_words, address_bytes, magazine, packet_kind, kind_of, read_number}
use Rattle.ttx_packet.specs.Laws.{AddressIsReadBack, IsReadBack}
use Rattle.ttx_header.specs.Ids.{id_at}
use Rattle.ttx_header.specs.Fields.{HeaderFields, IsHeaderFields}
use Rattle.ttx_header.specs.Headers.{ReadsFrom, number, numbers_of, header_bytes, id_of, control_of, header_fields_of, is_header}
use Rattle.ttx_header.specs.Laws.{HeaderIsKept, HeadersHaveFields, HeadersAreHeaders, SaidHeadersAreRead, ReadHeadersAreSaid, WrittenHeadersAreRead}
use Rattle.ttx_header.specs.Laws.{WordsAreKept, ReadableBytesHaveNumbers, AreNumbers, WrittenWordsAreRead}
use Rattle.ttx_header.proofs.Slices.{length_range, some_of, passes_at, passes_in, read_bytes_are_readable}
use Rattle.ttx_header.proofs.PacketZero.{HeaderCase, header_case, kind_of_header}

-- ---- a received header

-- bytes 0 to 9 of a clean header are code words
header_words : (s : List ℕ) (mag : ℕ) → is_clean s ≡ true → HeaderCase s mag → (are_words (slice_range s 0 2) ≡ true)
    × (are_words (slice_range s 2 10) ≡ true)
unfolding is_clean
header_words s mag clean header =
    let parts = and_parts _ _ (either _ _ clean header.some) in
    let first = and_parts _ _ parts.0 in
    (first.0, implied _ _ first.1 header.number)

module _ (kept : WordsAreKept) where
  pub header_is_kept : HeaderIsKept
  header_is_kept sent received mag s r clean kind near =
      let header = header_case sent mag kind in
      let (front, back) = header_words sent mag clean header in
      let low = λ (x : ℕ) (l : x < 2). ap (λ o. unwrap_or o 0)
      (kept sent received 0 2 s r (omega arith) front (λ y a b. near y (omega arith)) x (omega arith) l) in
      let high = λ (x : ℕ) (k : 2 ≤ x) (l : x < 10).
      ap (λ o. unwrap_or o 0) (kept sent received 2 10 s r (omega arith) back (λ y a b. near y (omega arith)) x k l) in
      let n0 : number received 0 ≡ number sent 0 = low 0 (omega arith) in
      let n2 : number received 2 ≡ number sent 2 = high 2 (omega arith) (omega arith) in
      let n3 : number received 3 ≡ number sent 3 = high 3 (omega arith) (omega arith) in
      let n4 : number received 4 ≡ number sent 4 = high 4 (omega arith) (omega arith) in
      let n5 : number received 5 ≡ number sent 5 = high 5 (omega arith) (omega arith) in
      let n6 : number received 6 ≡ number sent 6 = high 6 (omega arith) (omega arith) in
      let n7 : number received 7 ≡ number sent 7 = high 7 (omega arith) (omega arith) in
      let n8 : number received 8 ≡ number sent 8 = high 8 (omega arith) (omega arith) in
      let n9 : number received 9 ≡ number sent 9 = high 9 (omega arith) (omega arith) in (
        λ i. id_at (magazine (n0 i)) (n2 i + 16 * n3 i) (n4 i + 16 * (n5 i % 8) + 256 * n6 i + 4096 * (n7 i % 4)),
        λ i. n5 i / 8 + 2 * (n7 i / 4) + 8 * n8 i + 128 * n9 i,
      )

-- ---- a header's fields are in range

-- the numbers of bytes 2 to 9
abbrev numbers_behind : List ℕ → List ℕ
numbers_behind s = number s 2 ∷ number s 3 ∷ number s 4 ∷ number s 5 ∷ number s 6 ∷ number s 7 ∷ number s 8 ∷ number s 9 ∷ []

magazine_in_range : (low : ℕ) → (1 ≤ magazine low) × (magazine low ≤ 8)
magazine_in_range low =
    elim (cases_Bool (low % 8 == 0)) as (λ t. (1 ≤ magazine low) × (magazine low ≤ 8)) [
      | inl z ↦ rw z (omega arith, omega arith)
      | inr z ↦ rw z (positive z, omega arith)
    ]
  where
    positive : (low % 8 == 0) ≡ false → 1 ≤ low % 8
    positive z = grind (arith, nat_tests)

module _ (numbers : ReadingsAreNumbers) where
  small : (b : ℕ) → b < 256 → (o : Option ℕ) → reading b ≡ o → number_of b < 16
  small b l None e = subst (λ o. unwrap_or o 0 < 16) (sym e) (let z : 0 < 16 = omega arith in z)
  small b l (Some n) e = subst (λ o. unwrap_or o 0 < 16) (sym e) (numbers b n l e)

  pub headers_have_fields : HeadersHaveFields
  headers_have_fields s mag is kind =
      let header = header_case s mag kind in
      let n = λ (k : ℕ). small (slice_index s k) (is.bytes k) (reading (slice_index s k)) refl in
      let at = λ (k : ℕ) (a : 2 ≤ k) (b : k < 10).
      some_of (reading (slice_index s k))
      (passes_in (λ b. is_some (reading b)) s 2 10 k (omega (arith, is.size)) header.readable a b) in
      let reads : ReadsFrom 0 s (number s 0 ∷ number s 1 ∷ numbers_behind s) = (
        some_of _ header.low,
        (
          some_of _ header.high,
          (
            at 2 (omega arith) (omega arith),
            (
              at 3 (omega arith) (omega arith),
              (
                at 4 (omega arith) (omega arith),
                (
                  at 5 (omega arith) (omega arith),
                  (
                    at 6 (omega arith) (omega arith),
                    (
                      at 7 (omega arith) (omega arith),
                      (at 8 (omega arith) (omega arith), (at 9 (omega arith) (omega arith), tt)),
                    ),
                  ),
                ),
              ),
            ),
          ),
        ),
      ) in
      let range = magazine_in_range (number s 0) in
      record {
        header = both _ _ (read_bytes_are_readable s 0 (number s 0 ∷ number s 1 ∷ numbers_behind s) (omega (arith, is.size)) reads) header.number;
        magazine = header.magazine_is;
        id = record {
          mag_from = range.0;
          mag_to = range.1;
          page = omega (arith, n 2, n 3);
          sub = record { top = omega (arith, n 4, n 5, n 6, n 7); gap = omega (arith, n 4, n 5, n 6, n 7) };
        };
        control = omega (arith, n 5, n 7, n 8, n 9);
      }
    where
      both : (a b : Bool) → a ≡ true → b ≡ true → (a && b) ≡ true
      both true b e f = f
      both false b e f = e

-- ---- a readable packet 0 is a header

zero_reads : number_of 0 ≡ 1
unfolding reading distance hamming_word ones
zero_reads = refl

pub headers_are_headers : HeadersAreHeaders
headers_are_headers s is header =
    let parts = and_parts _ _ header in
    let at = λ (k : ℕ) (l : k < 10). passes_in (λ b. is_some (reading b)) s 0 10 k (omega (arith, is.size)) parts.0 (omega arith) l in
    let some = λ (k : ℕ) (l : k < 10). some_of (reading (slice_index s k)) (at k l) in
    let reads : ReadsFrom 2 s (numbers_behind s) = (
      some 2 (omega arith),
      (
        some 3 (omega arith),
        (
          some 4 (omega arith),
          (
            some 5 (omega arith),
            (some 6 (omega arith), (some 7 (omega arith), (some 8 (omega arith), (some 9 (omega arith), tt)))),
          ),
        ),
      ),
    ) in
    kind_of_header s not_empty (at 0 (omega arith)) (at 1 (omega arith)) parts.1
    (read_bytes_are_readable s 2 (numbers_behind s) (omega (arith, is.size)) reads)
  where
    not_empty : is_empty s ≡ false
    not_empty = elim (cases_Bool (is_empty s)) as (λ _. is_empty s ≡ false) [
      | inl z ↦
          let second : slice_index s 1 ≡ 0 = eqb-true _ 0 (passes_at (λ b. b == 0) s 1 z (omega (arith, is.size))) in
          let one : number s 1 ≡ 1 = ap number_of second ∙ zero_reads in
          let none : read_number s ≡ 0 = eqb-true (read_number s) 0 (and_parts (are_readable (slice_range s 0 10)) (read_number s == 0) header).1 in
          absurd (omega (arith, one, none))
      | inr z ↦ z
    ]

---- a header that is encoded

magazine_back : (low mag : ℕ) → low ≡ mag % 8 → 1 ≤ mag → mag ≤ 8 → magazine low ≡ mag
magazine_back low mag e from to =
    elim (cases_Bool (low % 8 == 0)) as (λ t. magazine low ≡ mag) [
      | inl z ↦ let zero : low % 8 ≡ 0 = eqb-true _ 0 z in rw z (omega arith)
      | inr z ↦ rw z (let some : 1 ≤ low % 8 = positive z in omega arith)
    ]
  where
    positive : (low % 8 == 0) ≡ false → 1 ≤ low % 8
    positive z = grind (arith, nat_tests)

record SaidFields (h : HeaderFields) (s : List ℕ) : Type 0 where
  pub header : is_header s ≡ true
  pub id : id_of s ≡ h.id
  pub control : control_of s ≡ h.control

said : (h : HeaderFields) (s : List ℕ) → IsHeaderFields h → 10 ≤ length s → ReadsFrom 0 s (numbers_of h) → SaidFields h s
said h s is l reads =
    let (r0, (r1, (r2, (r3, (r4, (r5, (r6, (r7, (r8, (r9, end)))))))))) = reads in
    let n = λ (k m : ℕ) (r : reading (slice_index s k) ≡ Some m). (let e : number s k ≡ m = ap (λ o. unwrap_or o 0) r in e) in
    let mag : magazine (number s 0) ≡ h.id.mag = magazine_back (number s 0) h.id.mag (n 0 _ r0) is.id.mag_from is.id.mag_to in
    let page : number s 2 + 16 * number s 3 ≡ h.id.page = omega (arith, n 2 _ r2, n 3 _ r3) in
    let sub : number s 4 + 16 * (number s 5 % 8) + 256 * number s 6 + 4096 * (number s 7 % 4) ≡ h.id.sub =
    omega (arith, n 4 _ r4, n 5 _ r5, n 6 _ r6, n 7 _ r7, is.id.sub.top, is.id.sub.gap) in
    let zero : read_number s ≡ 0 = omega (arith, n 0 _ r0, n 1 _ r1) in
    record {
      header = both _ _ (read_bytes_are_readable s 0 (numbers_of h) l reads) (eq-eqb _ _ zero);
      id = λ i. id_at (mag i) (page i) (sub i);
      control = omega (arith, n 5 _ r5, n 7 _ r7, n 8 _ r8, n 9 _ r9, is.control);
    }
  where
    both : (a b : Bool) → a ≡ true → b ≡ true → (a && b) ≡ true
    both true b e f = f
    both false b e f = e

pub said_headers_are_read : SaidHeadersAreRead
said_headers_are_read h s is slot says =
    let fields = said h s is (omega (arith, slot.size)) says.numbers in
    (fields.header, λ i. record { id = fields.id i; control = fields.control i; text = says.text i; clock = says.clock i })

-- ---- a header that is read

magazine_again : (low : ℕ) → low < 8 → magazine low % 8 ≡ low
magazine_again low l =
    elim (cases_Bool (low % 8 == 0)) as (λ t. magazine low % 8 ≡ low) [
      | inl z ↦ let zero : low % 8 ≡ 0 = eqb-true _ 0 z in rw z (omega (arith, zero, l))
      | inr z ↦ rw z (omega (arith, l))
    ]

module _ (numbers : ReadableBytesHaveNumbers) (kinds : HeadersAreHeaders) (ranges : HeadersHaveFields) where
  pub read_headers_are_said : ReadHeadersAreSaid
  read_headers_are_said s is header =
      let parts = and_parts (are_readable (slice_range s 0 10)) (read_number s == 0) header in
      let number_zero : read_number s ≡ 0 = eqb-true (read_number s) 0 parts.1 in
      let range = ranges s (id_of s).mag is (kinds s is header) in
      let at = λ (k : ℕ) (l : k < 10). numbers s 0 10 is (omega arith) parts.0 k (omega arith) l in
      let (r0, l0) = at 0 (omega arith) in
      let (r1, l1) = at 1 (omega arith) in
      let (r2, l2) = at 2 (omega arith) in
      let (r3, l3) = at 3 (omega arith) in
      let (r4, l4) = at 4 (omega arith) in
      let (r5, l5) = at 5 (omega arith) in
      let (r6, l6) = at 6 (omega arith) in
      let (r7, l7) = at 7 (omega arith) in
      let (r8, l8) = at 8 (omega arith) in
      let (r9, l9) = at 9 (omega arith) in
      let h = header_fields_of s in
      let e0 : number s 0 ≡ h.id.mag % 8 = sym (magazine_again (number s 0) (omega (arith, number_zero))) in
      let e1 : number s 1 ≡ 0 = omega (arith, number_zero) in
      let e2 : number s 2 ≡ h.id.page % 16 = omega (arith, l2) in
      let e3 : number s 3 ≡ h.id.page / 16 = omega (arith, l2) in
      let e4 : number s 4 ≡ h.id.sub % 16 = omega (arith, l4) in
      let e5 : number s 5 ≡ h.id.sub / 16 % 8 + 8 * (h.control % 2) = omega (arith, l4, l5) in
      let e6 : number s 6 ≡ h.id.sub / 256 % 16 = omega (arith, l4, l6) in
      let e7 : number s 7 ≡ h.id.sub / 4096 + 4 * (h.control / 2 % 4) = omega (arith, l4, l5, l6, l7) in
      let e8 : number s 8 ≡ h.control / 8 % 16 = omega (arith, l5, l7, l8) in
      let e9 : number s 9 ≡ h.control / 128 = omega (arith, l5, l7, l8) in
      let reads : ReadsFrom 0 s (numbers_of h) = (
        r0 ∙ ap Some e0,
        (
          r1 ∙ ap Some e1,
          (
            r2 ∙ ap Some e2,
            (r3 ∙ ap Some e3, (r4 ∙ ap Some e4, (r5 ∙ ap Some e5, (r6 ∙ ap Some e6, (r7 ∙ ap Some e7, (r8 ∙ ap Some e8, (r9 ∙ ap Some e9, tt))))))),
          ),
        ),
      ) in (
        record {
          id = range.id;
          control = range.control;
          text = length_range s 10 34 (omega (arith, is.size)) (omega arith);
          clock = length_range s 34 42 (omega (arith, is.size)) (omega arith);
        },
        record { numbers = reads; text = refl; clock = refl },
      )

-- ---- a header that is written

numbers_are_small : (h : HeaderFields) → IsHeaderFields h → AreNumbers (numbers_of h)
numbers_are_small h is = (
  omega arith,
  (
    omega arith,
    (
      omega arith,
      (
        omega (arith, is.id.page),
        (
          omega arith,
          (omega arith, (omega arith, (omega (arith, is.id.sub.top), (omega arith, (omega (arith, is.control), tt))))),
        ),
      ),
    ),
  ),
)

zero_kind : (s : List ℕ) (mag : ℕ) → are_readable (slice_range s 2 10) ≡ true → packet_kind s mag 0 ≡ IsHeader mag
unfolding packet_kind
zero_kind s mag readable = rw readable refl

or_true : (a : Bool) → (a || true) ≡ true
or_true true = refl
or_true false = refl

clean_header : (s : List ℕ) → are_words (slice_range s 0 2) ≡ true → read_number s ≡ 0 → are_words (slice_range s 2 10) ≡ true → is_clean s ≡ true
unfolding is_clean
clean_header s front zero back = rw (front, zero, back) (or_true (is_empty s))

module _ (address : AddressIsReadBack) (written : WrittenWordsAreRead) where
  pub written_headers_are_read : WrittenHeadersAreRead
  written_headers_are_read h is =
      let s = header_bytes h in
      let after = h.text ++ h.clock in
      let (n0, (n1, small)) = numbers_are_small h is in
      let reads : ReadsFrom 0 s (numbers_of h) = (written [] (numbers_of h) after (n0, (n1, small))).0 in
      let long : length s ≡ 42 = omega (arith, length-append h.text h.clock, is.text, is.clock) in
      let fields = said h s is (omega (arith, long)) reads in
      let rest = map hamming_word (drop 2 (numbers_of h)) ++ after in
      let back : IsReadBack h.id.mag 0 rest = address h.id.mag 0 rest is.id.mag_from is.id.mag_to (omega arith) in
      let same : address_bytes h.id.mag 0 ++ rest ≡ s =
      ap (λ n. hamming_word n ∷ hamming_word 0 ∷ rest) (let e : h.id.mag % 8 + 8 * (0 % 2) ≡ h.id.mag % 8 = omega arith in e)
      in
      let text : slice_range s 10 34 ≡ h.text = take_at h.text h.clock 24 is.text in
      let clock : slice_range s 34 42 ≡ h.clock = ap (take 8) (drop_at h.text h.clock 24 is.text) ∙ take_all 8 h.clock (omega (arith, is.clock)) in
      let readable : are_readable (slice_range s 2 10) ≡ true = read_bytes_are_readable s 2 (drop 2 (numbers_of h)) (omega (arith, long)) reads.1.1 in
      record {
        kind = subst (λ t. kind_of t ≡ packet_kind t h.id.mag 0) same back.kind ∙ zero_kind s h.id.mag readable;
        clean = clean_header s (written [] (take 2 (numbers_of h)) [] (n0, (n1, tt))).1
            (subst (λ t. read_number t ≡ 0) same back.numbered) (written [] (drop 2 (numbers_of h)) [] small).1;
        says = record { numbers = reads; text = text; clock = clock };
        header = fields.header;
        fields = λ i. record { id = fields.id i; control = fields.control i; text = text i; clock = clock i };
      }
