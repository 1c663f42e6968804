-- A packet 8/30 format 1 as it is written.
use Rattle.std.proofs.Common.{◌≡◌, ℕ, ◌+◌, ◌*◌, ◌/◌, ◌%◌, ◌<◌, ◌==◌, ◌||◌, Bool, true, false, List, [], ◌∷◌, ◌++◌, Option, Some, None, length}
use Rattle.std.proofs.Common.{length-append, append_assoc, take, drop, take_at, take_all, drop_at, map, refl, sym, ap, subst, ◌∙◌, arith, slice_index}
use Rattle.std.proofs.Common.{slice_range, get_or, ◌-◌}
use Rattle.std.proofs.lemmas.Bool.Decides.{nat_tests}
use Rattle.std.proofs.lemmas.List.{get_or-take, get_or-drop, length-map}
use Rattle.ttx_code.specs.Words.{reading, hamming_word, odd_byte}
use Rattle.ttx_code.specs.Laws.{WordsAreRead, OddBytesHoldTheirCodes}
use Rattle.ttx_packet.specs.Slots.{IsInfo, is_empty, is_clean, are_words, address_bytes, packet_kind, kind_of, read_number}
use Rattle.ttx_packet.specs.Laws.{AddressIsReadBack, IsReadBack}
use Rattle.ttx_header.specs.Ids.{Id}
use Rattle.ttx_links.specs.Sets.{link_bytes, SaysLink}
use Rattle.ttx_links.specs.Laws.{SaidLinkIsRead, WrittenLinkIsSaid}
use Rattle.ttx_info.specs.Infos.{half_byte, offset_byte, date_bytes, time_bytes, date_digits, time_digits, date_halves, time_halves, info_bytes}
use Rattle.ttx_info.specs.Infos.{SaysInfo}
use Rattle.ttx_info.specs.Laws.{WrittenInfosAreRead}
use Rattle.ttx_info.proofs.SaidInfo.{info_said}

length_link : (link : Option Id) → length (link_bytes 8 link) ≡ 6
length_link None = refl
length_link (Some id) = refl

or_true : (a : Bool) → (a || true) ≡ true
or_true true = refl
or_true false = refl

info_packet : (s : List ℕ) → packet_kind s 8 30 ≡ IsInfo
unfolding packet_kind
info_packet s = refl

clean_info : (s : List ℕ) → are_words (slice_range s 0 2) ≡ true → read_number s ≡ 30 → is_clean s ≡ true
unfolding is_clean
clean_info s front number = rw (front, number) (or_true (is_empty s))

-- a byte of a part
at_range : (s : List ℕ) (a b k : ℕ) → k < b - a → get_or s (a + k) 0 ≡ get_or (slice_range s a b) k 0
at_range s a b k l = sym (get_or-take (b - a) (drop a s) k 0 l ∙ get_or-drop a s k 0)

offset_halves : (halves : ℕ) (west : Bool) → halves < 32 → offset_byte halves west / 2 % 32 ≡ halves
offset_halves halves true l = omega arith
offset_halves halves false l = omega arith

offset_west : (halves : ℕ) (west : Bool) → halves < 32 → (offset_byte halves west / 64 % 2 == 1) ≡ west
offset_west halves true l = grind (arith, nat_tests)
offset_west halves false l = grind (arith, nat_tests)

digits_of_date : (s : List ℕ) (mjd : ℕ) → slice_index s 12 ≡ half_byte mjd 10000 → slice_index s 13 ≡ 16 * half_byte mjd 1000 + half_byte mjd 100 →
    slice_index s 14 ≡ 16 * half_byte mjd 10 + half_byte mjd 1 → date_digits s ≡ date_halves mjd
digits_of_date s mjd a b c =
    let d0 : slice_index s 12 % 16 ≡ half_byte mjd 10000 = omega (arith, a) in
    let d1 : slice_index s 13 / 16 ≡ half_byte mjd 1000 = omega (arith, b) in
    let d2 : slice_index s 13 % 16 ≡ half_byte mjd 100 = omega (arith, b) in
    let d3 : slice_index s 14 / 16 ≡ half_byte mjd 10 = omega (arith, c) in
    let d4 : slice_index s 14 % 16 ≡ half_byte mjd 1 = omega (arith, c) in
    λ i. d0 i ∷ d1 i ∷ d2 i ∷ d3 i ∷ d4 i ∷ []

digits_of_time : (s : List ℕ) (utc : ℕ) → slice_index s 15 ≡ 16 * half_byte utc 100000 + half_byte utc 10000 → slice_index s 16
    ≡ 16 * half_byte utc 1000 + half_byte utc 100 →
    slice_index s 17 ≡ 16 * half_byte utc 10 + half_byte utc 1 → time_digits s ≡ time_halves utc
digits_of_time s utc a b c =
    let d0 : slice_index s 15 / 16 ≡ half_byte utc 100000 = omega (arith, a) in
    let d1 : slice_index s 15 % 16 ≡ half_byte utc 10000 = omega (arith, a) in
    let d2 : slice_index s 16 / 16 ≡ half_byte utc 1000 = omega (arith, b) in
    let d3 : slice_index s 16 % 16 ≡ half_byte utc 100 = omega (arith, b) in
    let d4 : slice_index s 17 / 16 ≡ half_byte utc 10 = omega (arith, c) in
    let d5 : slice_index s 17 % 16 ≡ half_byte utc 1 = omega (arith, c) in
    λ i. d0 i ∷ d1 i ∷ d2 i ∷ d3 i ∷ d4 i ∷ d5 i ∷ []

module _ (read : WordsAreRead) (holds : OddBytesHoldTheirCodes) (address : AddressIsReadBack) (link : SaidLinkIsRead)
    (written : WrittenLinkIsSaid) where
  pub written_infos_are_read : WrittenInfosAreRead
  written_infos_are_read f is target =
      let s = info_bytes f in
      let front = address_bytes 8 30 ++ hamming_word f.designation ∷ [] in
      let initial = link_bytes 8 f.initial in
      let times = offset_byte f.halves f.west ∷ date_bytes f.mjd ++ time_bytes f.utc ++ 0 ∷ 0 ∷ 0 ∷ 0 ∷ [] in
      let text = map odd_byte f.text in
      let after = f.network ++ (times ++ text) in
      -- the packet, split before the link, the network, the times and the text
      let fourth : front ++ initial ++ f.network ++ times ++ text ≡ s = refl in
      let third : front ++ initial ++ f.network ++ (times ++ text) ≡ s = sym (append_assoc (front ++ initial ++ f.network) times text) in
      let second : front ++ initial ++ after ≡ s = sym (append_assoc (front ++ initial) f.network (times ++ text)) ∙ third in
      let first : front ++ (initial ++ after) ≡ s = sym (append_assoc front initial after) ∙ second in
      let l2 : length (front ++ initial) ≡ 9 = omega (arith, length-append front initial, length_link f.initial) in
      let l3 : length (front ++ initial ++ f.network) ≡ 11 = omega (arith, length-append (front ++ initial) f.network, l2, is.network) in
      let l4 : length (front ++ initial ++ f.network ++ times) ≡ 22 = omega (arith, length-append (front ++ initial ++ f.network) times, l3) in
      let l5 : length text ≡ 20 = length-map _ _ ∙ is.text in
      let size : length s ≡ 42 = omega (arith, length-append (front ++ initial ++ f.network ++ times) text, l4, l5) in
      let network : slice_range s 9 11 ≡ f.network =
      subst (λ t. slice_range t 9 11 ≡ f.network) second
      (ap (take 2) (drop_at (front ++ initial) after 9 l2) ∙ take_at f.network (times ++ text) 2 is.network) in
      let clock : slice_range s 11 22 ≡ times =
      subst (λ t. slice_range t 11 22 ≡ times) third
      (ap (take 11) (drop_at (front ++ initial ++ f.network) (times ++ text) 11 l3) ∙ take_at times text 11 refl) in
      let characters : slice_range s 22 42 ≡ text = ap (take 20) (drop_at (front ++ initial ++ f.network ++ times) text 22 l4)
      ∙ take_all 20 text (omega (arith, l5)) in
      let at = λ (k : ℕ) (l : k < 11).
      (let e : get_or s (11 + k) 0 ≡ get_or times k 0 = at_range s 11 22 k l ∙ ap (λ xs. get_or xs k 0) clock in e) in
      let third_byte : reading (slice_index s 2) ≡ Some f.designation =
      subst (λ t. reading (slice_index t 2) ≡ Some f.designation) first (read f.designation (omega (arith, is.range.designation))) in
      let says : SaysInfo f s = record {
        designation = third_byte;
        initial = subst (λ t. SaysLink 8 f.initial t 3) first (written 8 f.initial front after target);
        network = network;
        halves = ap (λ b. b / 2 % 32) (at 0 (omega arith)) ∙ offset_halves f.halves f.west is.range.halves;
        west = ap (λ b. b / 64 % 2 == 1) (at 0 (omega arith)) ∙ offset_west f.halves f.west is.range.halves;
        date = digits_of_date s f.mjd (at 1 (omega arith)) (at 2 (omega arith)) (at 3 (omega arith));
        time = digits_of_time s f.utc (at 4 (omega arith)) (at 5 (omega arith)) (at 6 (omega arith));
        text = characters;
      } in
      let back : IsReadBack 8 30 (hamming_word f.designation ∷ (initial ++ after)) = address 8 30 _ (omega arith) (omega arith) (omega arith) in
      record {
        kind = subst (λ t. kind_of t ≡ packet_kind t 8 30) first back.kind ∙ info_packet s;
        clean = subst (λ t. is_clean t ≡ true) first (clean_info (front ++ (initial ++ after)) back.words back.numbered);
        says = says;
        fields = info_said holds link f s is target size says;
      }
