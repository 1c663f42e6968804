-- A readable packet X/27/0 encodes what is read from it.
use Rattle.std.proofs.Common.{◌≡◌, ℕ, ◌+◌, ◌*◌, ◌/◌, ◌%◌, ◌<◌, ◌≤◌, Bool, true, false, List, Option, Some, None, if◌then◌else◌, drop, refl, sym, ap}
use Rattle.std.proofs.Common.{subst, ◌∙◌, inl, inr, arith, bit_xor, slice_index, slice_range}
use Rattle.std.proofs.lemmas.Bool.{cases_Bool}
use Rattle.std.proofs.lemmas.List.{length-take-le, length-drop}
use Rattle.std.proofs.lemmas.Bool.Decides.{nat_tests}
use Rattle.ttx_code.specs.Words.{reading}
use Rattle.ttx_packet.specs.Slots.{are_readable}
use Rattle.ttx_header.specs.Headers.{ReadsFrom, number}
use Rattle.ttx_header.specs.Ids.{is_time_filling}
use Rattle.ttx_header.specs.Laws.{ReadableBytesHaveNumbers}
use Rattle.ttx_links.specs.Sets.{LinkSet, IsLink, AreLinks, link_numbers, target_at, linked, link_at, set_of, links_of, SaysLink}
use Rattle.ttx_links.specs.Laws.{ReadLinkIsSaid, ReadLinksAreSaid}
use Rattle.ttx_links.proofs.Magazines.{xor_below_8, xor_back, magazine_again, magazine_from, magazine_to}

-- readable bytes from k on
abbrev AreRead : List ℕ → ℕ → ℕ → Type 0
AreRead s from to = (x : ℕ) → from ≤ x → x < to → (reading (slice_index s x) ≡ Some (number s x)) × (number s x < 16)

-- M1 + 2 M2 + 4 M3
abbrev difference : List ℕ → ℕ → ℕ
difference s k = number s (k + 3) / 8 + 2 * (number s (k + 5) / 4)

module _ (mag : ℕ) (s : List ℕ) (k : ℕ) (read : AreRead s k (k + 6)) where
  n0 : (reading (slice_index s k) ≡ Some (number s k)) × (number s k < 16)
  n0 = read k (omega arith) (omega arith)

  n : (i : ℕ) → i < 6 → (reading (slice_index s (k + i)) ≡ Some (number s (k + i))) × (number s (k + i) < 16)
  n i l = read (k + i) (omega arith) (omega (arith, l))

  -- the byte at one position reads as this number
  reads_as : (i j m : ℕ) → i < 6 → k + i ≡ j → number s (k + i) ≡ m → reading (slice_index s j) ≡ Some m
  reads_as i j m l place same = subst (λ x. reading (slice_index s x) ≡ Some m) place ((n i l).0 ∙ ap Some same)

  six_numbers : ReadsFrom k s (link_numbers (difference s k) (target_at mag s k))
  six_numbers =
      let l0 = n0.1 in
      let l1 = (n 1 (omega arith)).1 in
      let l2 = (n 2 (omega arith)).1 in
      let l3 = (n 3 (omega arith)).1 in
      let l4 = (n 4 (omega arith)).1 in
      let l5 = (n 5 (omega arith)).1 in
      let id = target_at mag s k in
      let m = difference s k in
      let e0 : number s k ≡ id.page % 16 = omega (arith, l0) in
      let e1 : number s (k + 1) ≡ id.page / 16 = omega (arith, l0) in
      let e2 : number s (k + 2) ≡ id.sub % 16 = omega (arith, l2) in
      let e3 : number s (k + 3) ≡ id.sub / 16 % 8 + 8 * (m % 2) = omega (arith, l2, l3) in
      let e4 : number s (k + 4) ≡ id.sub / 256 % 16 = omega (arith, l2, l4) in
      let e5 : number s (k + 5) ≡ id.sub / 4096 + 4 * (m / 2) = omega (arith, l2, l3, l4, l5) in (
        n0.0 ∙ ap Some e0,
        (
          reads_as 1 (k + 1) _ (omega arith) (omega arith) e1,
          (
            reads_as 2 (k + 1 + 1) _ (omega arith) (omega arith) e2,
            (
              reads_as 3 (k + 1 + 1 + 1) _ (omega arith) (omega arith) e3,
              (
                reads_as 4 (k + 1 + 1 + 1 + 1) _ (omega arith) (omega arith) e4,
                (reads_as 5 (k + 1 + 1 + 1 + 1 + 1) _ (omega arith) (omega arith) e5, tt),
              ),
            ),
          ),
        ),
      )

  small : difference s k < 8
  small = omega (arith, (n 3 (omega arith)).1, (n 5 (omega arith)).1)

  -- no link: page FF with subcode 3F7F
  none_said : is_time_filling (target_at mag s k) ≡ true → SaysLink mag None s k
  none_said filling =
      let page : (target_at mag s k).page ≡ 255 = grind (arith, nat_tests) in
      let sub : (target_at mag s k).sub ≡ 16255 = grind (arith, nat_tests) in (
        difference s k,
        small,
        subst (λ ns. ReadsFrom k s ns)
            (λ i. link_numbers (difference s k) (record { mag = 8; page = page i; sub = sub i })) six_numbers,
      )

  some_said : SaysLink mag (Some (target_at mag s k)) s k
  some_said =
      let m = difference s k in
      let own = mag % 8 in
      let other : (target_at mag s k).mag % 8 ≡ bit_xor own m = magazine_again (bit_xor own m) (xor_below_8 own m (omega arith) small) in
      let back : m ≡ bit_xor own ((target_at mag s k).mag % 8) = sym (ap (bit_xor own) other ∙ xor_back own m (omega arith) small) in
      subst (λ d. ReadsFrom k s (link_numbers d (target_at mag s k))) back six_numbers

  is_target : is_time_filling (target_at mag s k) ≡ false → IsLink (Some (target_at mag s k))
  is_target linked =
      let l0 = n0.1 in
      let l1 = (n 1 (omega arith)).1 in
      let l2 = (n 2 (omega arith)).1 in
      let l4 = (n 4 (omega arith)).1 in
      let low = bit_xor (mag % 8) (difference s k) in
      record {
        ranges = record {
          mag_from = magazine_from low;
          mag_to = magazine_to low;
          page = omega (arith, l0, l1);
          sub = record { top = omega (arith, l2, l4); gap = omega (arith, l2, l4) };
        };
        link = linked;
      }

  pub link_read : IsLink (link_at mag s k) × SaysLink mag (link_at mag s k) s k
  link_read =
      elim (cases_Bool (is_time_filling (target_at mag s k))) as (λ _. IsLink (link_at mag s k) × SaysLink mag (link_at mag s k) s k) [
        | inl filling ↦ subst (λ l. IsLink l × SaysLink mag l s k) (sym (no_target filling)) (tt, none_said filling)
        | inr leads ↦ subst (λ l. IsLink l × SaysLink mag l s k) (sym (a_target leads)) (is_target leads, some_said)
      ]
    where
      no_target : is_time_filling (target_at mag s k) ≡ true → linked (target_at mag s k) ≡ None
      no_target filling = rw filling refl

      a_target : is_time_filling (target_at mag s k) ≡ false → linked (target_at mag s k) ≡ Some (target_at mag s k)
      a_target leads = rw leads refl

pub if_some : (b : Bool) (x y : LinkSet) → (if b then Some x else None) ≡ Some y → (b ≡ true) × (x ≡ y)
if_some true x y e = (refl, ap (λ o. the o) e)
  where
    the : Option LinkSet → LinkSet
    the None = x
    the (Some z) = z
if_some false x y e = cc

module _ (numbers : ReadableBytesHaveNumbers) where
  pub read_link_is_said : ReadLinkIsSaid
  read_link_is_said mag s k is inside readable = link_read mag s k (numbers s k (k + 6) is inside readable)

  pub read_links_are_said : ReadLinksAreSaid
  unfolding links_of
  read_links_are_said mag s set is e =
      let (readable, same) = if_some (are_readable (slice_range s 3 40)) (set_of mag s) set e in
      let read = numbers s 3 40 is (omega arith) readable in
      let link = λ (k : ℕ) (low : 3 ≤ k) (high : k + 6 ≤ 39).
      link_read mag s k (λ x from to. read x (omega (arith, low, from)) (omega (arith, high, to))) in
      let (t1, s1) = link 3 (omega arith) (omega arith) in
      let (t2, s2) = link 9 (omega arith) (omega arith) in
      let (t3, s3) = link 15 (omega arith) (omega arith) in
      let (t4, s4) = link 21 (omega arith) (omega arith) in
      let (t5, s5) = link 27 (omega arith) (omega arith) in
      let (t6, s6) = link 33 (omega arith) (omega arith) in
      let control = read 39 (omega arith) (omega arith) in (
        same,
        record { six = refl; crc = length-take-le 2 (drop 40 s) (omega (arith, length-drop 40 s, is.size)) },
        subst (λ set. AreLinks set.six) same (t1, (t2, (t3, (t4, (t5, (t6, tt)))))),
        record { links = (s1, (s2, (s3, (s4, (s5, (s6, tt)))))); control = (number s 39, control.0, refl); crc = refl },
      )
