-- A packet X/27/0 as it is written.
use Rattle.std.proofs.Common.{◌≡◌, ℕ, ◌+◌, ◌*◌, ◌/◌, ◌%◌, ◌<◌, ◌==◌, ◌&&◌, ◌||◌, Bool, true, false, if◌then◌else◌, List, [], ◌∷◌, ◌++◌, Option, Some}
use Rattle.std.proofs.Common.{None, length, length-append, append_assoc, take, take_at, take_all, drop_at, flat_map, refl, sym, ap, subst, ◌∙◌, arith}
use Rattle.std.proofs.Common.{bit_xor, slice_index, slice_range}
use Rattle.std.proofs.lemmas.List.Folds.{list_all-append}
use Rattle.ttx_code.specs.Words.{reading, hamming_word, is_word}
use Rattle.ttx_code.specs.Laws.{WordsAreRead, WordsAreWords}
use Rattle.ttx_packet.specs.Slots.{IsLinks, is_empty, is_clean, are_words, address_bytes, packet_kind, read_number}
use Rattle.ttx_packet.specs.Laws.{AddressIsReadBack, IsReadBack}
use Rattle.ttx_header.specs.Ids.{Id, IsSubcode}
use Rattle.ttx_header.specs.Laws.{WrittenWordsAreRead, AreNumbers, ReadNumbersAreNumbers, ReadBytesAreReadable}
use Rattle.ttx_links.specs.Sets.{IsLink, AreLinks, link_numbers, numbers_for, no_link, link_bytes, control_byte, links_bytes, SaysLink, SaysEach}
use Rattle.ttx_links.specs.Sets.{SaysLinks}
use Rattle.ttx_links.specs.Laws.{WrittenLinkIsSaid, WrittenLinksAreRead}
use Rattle.ttx_links.proofs.Magazines.{xor_below_8}
use Rattle.ttx_links.proofs.SaidLinks.{links_said}

numbers_are_small : (m : ℕ) (id : Id) → m < 8 → id.page < 256 → IsSubcode id.sub → AreNumbers (link_numbers m id)
numbers_are_small m id lm lp is = (omega arith, (omega (arith, lp), (omega arith, (omega arith, (omega arith, (omega (arith, is.top, lm), tt))))))

pub link_is_small : (mag : ℕ) (link : Option Id) → IsLink link → AreNumbers (numbers_for mag link)
link_is_small mag None is = numbers_are_small 0 no_link (omega arith) (omega arith) (record { top = omega arith; gap = refl })
link_is_small mag (Some id) is = numbers_are_small (bit_xor (mag % 8) (id.mag % 8)) id
    (xor_below_8 (mag % 8) (id.mag % 8) (omega arith) (omega arith)) is.ranges.page is.ranges.sub

length_link : (mag : ℕ) (link : Option Id) → length (link_bytes mag link) ≡ 6
length_link mag None = refl
length_link mag (Some id) = refl

length_each : (mag : ℕ) (links : List (Option Id)) → length (flat_map (link_bytes mag) links) ≡ 6 * length links
length_each mag [] = omega arith
length_each mag (link ∷ links) = omega
    (arith, length-append (link_bytes mag link) (flat_map (link_bytes mag) links), length_link mag link, length_each mag links)

or_true : (a : Bool) → (a || true) ≡ true
or_true true = refl
or_true false = refl

both : (a b : Bool) → a ≡ true → b ≡ true → (a && b) ≡ true
both true b e f = f
both false b e f = e

links_packet : (s : List ℕ) (mag : ℕ) → reading (slice_index s 2) ≡ Some 0 → packet_kind s mag 27 ≡ IsLinks mag
unfolding packet_kind
links_packet s mag r = rw r refl

clean_links : (s : List ℕ) → are_words (slice_range s 0 2) ≡ true → read_number s ≡ 27 → is_word (slice_index s 2) ≡ true → is_clean s ≡ true
unfolding is_clean
clean_links s front number third = rw (front, number, third) (or_true (is_empty s))

module _ (written : WrittenWordsAreRead) where
  pub link_written : WrittenLinkIsSaid
  link_written mag None before after is =
      (0, (let z : 0 < 8 = omega arith in z), (written before (numbers_for mag None) after (link_is_small mag None is)).0)
  link_written mag (Some id) before after is = (written before (numbers_for mag (Some id)) after (link_is_small mag (Some id) is)).0

  each_written : (mag : ℕ) (links : List (Option Id)) (before after : List ℕ) → AreLinks links →
      SaysEach mag links (before ++ (flat_map (link_bytes mag) links ++ after)) (length before)
  each_written mag [] before after is = tt
  each_written mag (link ∷ links) before after is =
      let first = link_bytes mag link in
      let rest = flat_map (link_bytes mag) links in
      let apart : first ++ rest ++ after ≡ first ++ (rest ++ after) = append_assoc first rest after in
      let there : before ++ first ++ (rest ++ after) ≡ before ++ (first ++ rest ++ after) = append_assoc before first (rest ++ after)
      ∙ ap (λ t. before ++ t) (sym apart) in
      let long : length (before ++ first) ≡ length before + 6 = omega (arith, length-append before first, length_link mag link) in (
        subst (λ t. SaysLink mag link (before ++ t) (length before)) (sym apart) (link_written mag link before (rest ++ after) is.0),
        subst (λ t. SaysEach mag links t (length before + 6)) there
            (subst (λ k. SaysEach mag links (before ++ first ++ (rest ++ after)) k) long (each_written mag links (before ++ first) after is.1)),
      )

  words_of_each : (mag : ℕ) (links : List (Option Id)) → AreLinks links → are_words (flat_map (link_bytes mag) links) ≡ true
  words_of_each mag [] is = refl
  words_of_each mag (link ∷ links) is =
      list_all-append is_word (link_bytes mag link) (flat_map (link_bytes mag) links)
      ∙ both _ _ (written [] (numbers_for mag link) [] (link_is_small mag link is.0)).1 (words_of_each mag links is.1)

  module _ (read : WordsAreRead) (words : WordsAreWords) (address : AddressIsReadBack) (numbers : ReadNumbersAreNumbers)
      (readable : ReadBytesAreReadable) where
    pub written_links_are_read : WrittenLinksAreRead
    written_links_are_read mag f from to is targets =
        let s = links_bytes mag f in
        let front = address_bytes mag 27 ++ hamming_word 0 ∷ [] in
        let links = flat_map (link_bytes mag) f.set.six in
        let n : ℕ = if f.set.show24 then 15 else 7 in
        let long : length links ≡ 36 = omega (arith, length_each mag f.set.six, is.six) in
        let small : n < 16 = low f.set.show24 in
        let control = written (front ++ links) (n ∷ []) f.crc (small, tt) in
        let split : front ++ links ++ (hamming_word n ∷ f.crc) ≡ s = append_assoc front links (hamming_word n ∷ f.crc) in
        let at : length (front ++ links) ≡ 39 = omega (arith, length-append front links, long) in
        let reads : reading (slice_index s 39) ≡ Some n =
        subst (λ t. reading (slice_index t 39) ≡ Some n) split
        (subst (λ k. reading (slice_index (front ++ links ++ (hamming_word n ∷ f.crc)) k) ≡ Some n) at control.0.0) in
        let ends : front ++ links ++ hamming_word n ∷ [] ++ f.crc ≡ s = append_assoc (front ++ links) (hamming_word n ∷ []) f.crc ∙ split in
        let before : length (front ++ links ++ hamming_word n ∷ []) ≡ 40 = omega (arith, length-append (front ++ links) (hamming_word n ∷ []), at) in
        let crc : slice_range s 40 42 ≡ f.crc =
        subst (λ t. slice_range t 40 42 ≡ f.crc) ends
        (ap (take 2) (drop_at (front ++ links ++ hamming_word n ∷ []) f.crc 40 before)
        ∙ take_all 2 f.crc (omega (arith, is.crc))) in
        let says : SaysLinks mag f s = record {
          links = each_written mag f.set.six front (control_byte f.set.show24 ∷ f.crc) targets;
          control = (n, reads, shows f.set.show24);
          crc = crc;
        } in
        let size : length s ≡ 42 = ap length (sym ends)
        ∙ omega (arith, length-append (front ++ links ++ hamming_word n ∷ []) f.crc, before, is.crc) in
        let part : slice_range s 3 40 ≡ links ++ hamming_word n ∷ [] =
        ap (take 37) (sym (append_assoc links (hamming_word n ∷ []) f.crc))
        ∙ take_at (links ++ hamming_word n ∷ []) f.crc 37 (omega (arith, length-append links (hamming_word n ∷ []), long)) in
        let exact : are_words (links ++ hamming_word n ∷ []) ≡ true =
        list_all-append is_word links (hamming_word n ∷ []) ∙ both _ _ (words_of_each mag f.set.six targets) control.1 in
        let back : IsReadBack mag 27 (hamming_word 0 ∷ (links ++ (hamming_word n ∷ f.crc))) = address mag 27 _ from to (omega arith) in
        record {
          kind = back.kind ∙ links_packet s mag (read 0 (omega arith));
          clean = clean_links s back.words back.numbered (words 0 (omega arith));
          exact = ap are_words part ∙ exact;
          says = says;
          set = links_said numbers readable mag f s is targets size says;
        }
      where
        low : (show24 : Bool) → (if show24 then 15 else 7) < 16
        low true = omega arith
        low false = omega arith

        shows : (show24 : Bool) → ((if show24 then 15 else 7) / 8 == 1) ≡ show24
        shows true = refl
        shows false = refl
