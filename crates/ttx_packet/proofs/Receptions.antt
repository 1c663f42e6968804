-- One wrong bit in each byte leaves the kind of a clean slot unchanged.
use Rattle.std.proofs.Common.{◌≡◌, ◌⊎◌, ℕ, ◌+◌, ◌-◌, subst, ◌<◌, ◌≤◌, ◌==◌, true, false, List, Some, length, get_or, drop, is_some, refl, sym, ap}
use Rattle.std.proofs.Common.{◌∙◌, inl, inr, arith, eqb-true, slice_index, get_or-take, get_or-drop, length-take-le, length-drop}
use Rattle.std.specs.List.{slice_range}
use Rattle.std.proofs.lemmas.Bool.{cases_Bool, and_parts}
use Rattle.ttx_code.proofs.Choices.{implied, either}
use Rattle.ttx_code.specs.Words.{reading, number_of, is_word, hamming_word, distance, ones}
use Rattle.ttx_code.specs.Laws.{WordsHaveNumbers, WordsAreReadUnderOneWrongBit, EachByteIsNearItself}
use Rattle.ttx_packet.specs.Slots.{IsSlot, IsRow, is_empty, magazine, packet_number, packet_kind, kind_of, read_number, is_clean}
use Rattle.ttx_packet.specs.Receptions.{IsFree, MayBeReceivedAs}
use Rattle.ttx_packet.specs.Laws.{KindIsKept, EachSlotMayBeReceivedAsSent}
use Rattle.ttx_packet.proofs.Choices.{each_passes, same_list_all}
use Rattle.ttx_packet.proofs.Cases.{kind_when_read, free_bytes, FreeBytes, same_packet_kind}

get_or-range : (slot : List ℕ) (a b k : ℕ) → k < b - a → get_or (slice_range slot a b) k 0 ≡ get_or slot (a + k) 0
get_or-range slot a b k l = get_or-take (b - a) (drop a slot) k 0 l ∙ get_or-drop a slot k 0

length-range : (slot : List ℕ) (a b : ℕ) → b ≤ length slot → a ≤ b → length (slice_range slot a b) ≡ b - a
length-range slot a b l m = length-take-le (b - a) (drop a slot) (omega (arith, length-drop a slot))

-- the code words of a clean slot that is not empty
record CleanWords (slot : List ℕ) : Type 0 where
  pub first : is_word (slice_index slot 0) ≡ true
  pub second : is_word (slice_index slot 1) ≡ true
  pub header : (read_number slot == 0) ≡ true → (k : ℕ) → k < 8 → is_word (slice_index slot (2 + k)) ≡ true
  pub links : (read_number slot == 27) ≡ true → is_word (slice_index slot 2) ≡ true

clean_words : (slot : List ℕ) → IsSlot slot → is_clean slot ≡ true → is_empty slot ≡ false → CleanWords slot
unfolding is_clean
clean_words slot s clean e =
    let l2 : length (slice_range slot 0 2) ≡ 2 = length-range slot 0 2 (omega (arith, s.size)) (omega arith) in
    let l8 : length (slice_range slot 2 10) ≡ 8 = length-range slot 2 10 (omega (arith, s.size)) (omega arith) in
    let parts = and_parts _ _ (either _ _ clean e) in
    let first = and_parts _ _ parts.0 in
    record {
      first = ap is_word (sym (get_or-range slot 0 2 0 (omega arith))) ∙ each_passes is_word (slice_range slot 0 2) 0 first.0 (omega (arith, l2));
      second = ap is_word (sym (get_or-range slot 0 2 1 (omega arith))) ∙ each_passes is_word (slice_range slot 0 2) 1 first.0 (omega (arith, l2));
      header = λ n k l. ap is_word (sym (get_or-range slot 2 10 k l))
          ∙ each_passes is_word (slice_range slot 2 10) k (implied _ _ first.1 n) (omega (arith, l8));
      links = λ n. implied _ _ parts.1 n;
    }

zero_byte : (slot : List ℕ) (k : ℕ) → is_empty slot ≡ true → k < length slot → get_or slot k 0 ≡ 0
zero_byte slot k e l = eqb-true _ 0 (each_passes (λ b. b == 0) slot k e l)

zero_reads : reading 0 ≡ Some 1
unfolding reading distance hamming_word ones
zero_reads = refl

row_of_zeros : (slot : List ℕ) → packet_kind slot (magazine 1) (packet_number 1 1) ≡ IsRow 1 2
unfolding packet_kind
row_of_zeros slot = refl

module _ (numbers : WordsHaveNumbers) (corrected : WordsAreReadUnderOneWrongBit) (sent received : List ℕ) (s : IsSlot sent)
    (clean : is_clean sent ≡ true) (some : is_empty sent ≡ false) (may : MayBeReceivedAs sent received) where
  abbrev low : ℕ
  low = number_of (slice_index sent 0)

  abbrev high : ℕ
  high = number_of (slice_index sent 1)

  kept : (kind_of received ≡ kind_of sent) ⊎ ((kind_of sent ≡ IsRow 1 2) × (is_empty received ≡ true))
  kept = elim (cases_Bool (is_empty received)) as
      (λ _. (kind_of received ≡ kind_of sent) ⊎ ((kind_of sent ≡ IsRow 1 2) × (is_empty received ≡ true))) [
        | inl z ↦ inr (row z, z)
        | inr z ↦ inl (same z)
      ]
    where
      words : CleanWords sent
      words = clean_words sent s clean some

      first : reading (slice_index sent 0) ≡ Some low
      first = (numbers _ (s.bytes 0) words.first).0

      second : reading (slice_index sent 1) ≡ Some high
      second = (numbers _ (s.bytes 1) words.second).0

      what : kind_of sent ≡ packet_kind sent (magazine low) (packet_number low high)
      what = kind_when_read sent low high some first second

      free : (x : ℕ) → IsFree (kind_of sent) x → FreeBytes (packet_number low high) x
      free x f = free_bytes sent (magazine low) (packet_number low high) x (subst (λ k. IsFree k x) what f)

      -- a code word that is not free reads as it was sent
      reads : (x : ℕ) → x < 42 → (IsFree (kind_of sent) x → ⊥) → is_word (slice_index sent x) ≡ true → reading (slice_index received x)
          ≡ reading (slice_index sent x)
      reads x l fixed w = elim (may.near x l) as (λ _. reading (slice_index received x) ≡ reading (slice_index sent x))
          [ inl f ↦ absurd (fixed f) | inr near ↦ corrected _ _ (s.bytes x) (may.slot.bytes x) w near ]

      first_read : reading (slice_index received 0) ≡ Some low
      first_read = reads 0 (omega arith) (λ f. let k = (free 0 f).behind_address in omega arith) words.first ∙ first

      second_read : reading (slice_index received 1) ≡ Some high
      second_read = reads 1 (omega arith) (λ f. let k = (free 1 f).behind_address in omega arith) words.second ∙ second

      row : is_empty received ≡ true → kind_of sent ≡ IsRow 1 2
      row z =
          let l : Some low ≡ Some 1 = sym first_read ∙ ap reading (zero_byte received 0 z (omega (arith, may.slot.size))) ∙ zero_reads in
          let h : Some high ≡ Some 1 = sym second_read ∙ ap reading (zero_byte received 1 z (omega (arith, may.slot.size))) ∙ zero_reads in
          let el : low ≡ 1 = cc in
          let eh : high ≡ 1 = cc in
          what ∙ ap (λ x. packet_kind sent (magazine x) (packet_number x high)) el
          ∙ ap (λ x. packet_kind sent (magazine 1) (packet_number 1 x)) eh ∙ row_of_zeros sent

      same : is_empty received ≡ false → kind_of received ≡ kind_of sent
      same z =
          kind_when_read received low high z first_read second_read
          ∙ same_packet_kind (magazine low) (packet_number low high) sent received
          (λ n. same_list_all (λ b. is_some (reading b)) (slice_range sent 2 10) (slice_range received 2 10)
          (length-range sent 2 10 (omega (arith, s.size)) (omega arith)
          ∙ sym (length-range received 2 10 (omega (arith, may.slot.size)) (omega arith)))
          (λ k l.
          let l8 : k < 8 = omega (arith, length-range sent 2 10 (omega (arith, s.size)) (omega arith)) in
          ap (λ b. is_some (reading b)) (get_or-range received 2 10 k l8)
          ∙ ap is_some (reads (2 + k) (omega arith) (λ f. let b = (free (2 + k) f).behind_header n in omega arith) (words.header n k l8))
          ∙ ap (λ b. is_some (reading b)) (sym (get_or-range sent 2 10 k l8))))
          (λ n. reads 2 (omega arith) (λ f. (free 2 f).not_links n) (words.links n))
          ∙ sym what

pub kind_is_kept : WordsHaveNumbers → WordsAreReadUnderOneWrongBit → KindIsKept
kind_is_kept numbers corrected sent received s clean some may = kept numbers corrected sent received s clean some may

pub received_as_sent : EachByteIsNearItself → EachSlotMayBeReceivedAsSent
received_as_sent itself slot s = record { slot = s; empty = λ e. e; near = λ x l. inr (itself (slice_index slot x)) }
