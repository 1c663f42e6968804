-- A packet X/27/0 that its bytes encode.
use Rattle.std.proofs.Common.{◌≡◌, ℕ, zero, suc, ◌+◌, ◌*◌, ◌/◌, ◌%◌, ◌<◌, ◌==◌, List, [], ◌∷◌, ◌++◌, Option, Some, None, length, length-append, refl}
use Rattle.std.proofs.Common.{ap, ap₂, subst, ◌∙◌, arith, true, bit_xor, slice_range}
use Rattle.std.specs.Prelude.{unwrap_or}
use Rattle.ttx_packet.specs.Slots.{are_readable, magazine}
use Rattle.ttx_header.specs.Headers.{ReadsFrom, number}
use Rattle.ttx_header.specs.Ids.{Id, id_at, IsSubcode}
use Rattle.ttx_header.specs.Laws.{ReadBytesAreReadable, ReadNumbersAreNumbers}
use Rattle.ttx_links.specs.Sets.{LinksFields, IsLinksFields, IsLink, AreLinks, link_numbers, numbers_for, no_link, target_magazine, target_at, linked}
use Rattle.ttx_links.specs.Sets.{link_at, links_of, SaysLink, SaysEach, SaysLinks}
use Rattle.ttx_links.specs.Laws.{SaidLinkIsRead}
use Rattle.ttx_links.proofs.Magazines.{xor_below_8, xor_back, magazine_back}

reads_append : (s : List ℕ) (k : ℕ) (xs ys : List ℕ) → ReadsFrom k s xs → ReadsFrom (k + length xs) s ys → ReadsFrom k s (xs ++ ys)
reads_append s k [] ys r q = subst (λ j. ReadsFrom j s ys) (let e : k + 0 ≡ k = omega arith in e) q
reads_append s k (x ∷ xs) ys r q = (
  r.0,
  reads_append s (k + 1) xs ys r.1
      (subst (λ j. ReadsFrom j s ys) (let e : k + suc (length xs) ≡ k + 1 + length xs = omega arith in e) q),
)

-- the numbers of bytes that encode a link
link_reads : (mag : ℕ) (link : Option Id) (s : List ℕ) (k : ℕ) → SaysLink mag link s k → (ns : List ℕ) × (length ns ≡ 6) × ReadsFrom k s ns
link_reads mag None s k (m, l, r) = (link_numbers m no_link, refl, r)
link_reads mag (Some id) s k r = (numbers_for mag (Some id), refl, r)

each_reads : (mag : ℕ) (links : List (Option Id)) (s : List ℕ) (k : ℕ) → SaysEach mag links s k → (ns : List ℕ)
    × (length ns ≡ 6 * length links) × ReadsFrom k s ns
each_reads mag [] s k r = ([], omega arith, tt)
each_reads mag (link ∷ links) s k r =
    let (ms, e, q) = link_reads mag link s k r.0 in
    let (ns, f, p) = each_reads mag links s (k + 6) r.1 in (
      ms ++ ns,
      omega (arith, length-append ms ns, e, f),
      reads_append s k ms ns q (subst (λ j. ReadsFrom j s ns) (let g : k + 6 ≡ k + length ms = omega (arith, e) in g) p),
    )

-- links read one after another
abbrev links_from : ℕ → List ℕ → ℕ → ℕ → List (Option Id)
links_from mag s k zero = []
links_from mag s k (suc n) = link_at mag s k ∷ links_from mag s (k + 6) n

module _ (numbers : ReadNumbersAreNumbers) where
  target_said : (mag m : ℕ) (id : Id) (s : List ℕ) (k : ℕ) → id.page < 256 → IsSubcode id.sub → m < 8 → ReadsFrom k s (link_numbers m id) →
      target_at mag s k ≡ id_at (target_magazine mag m) id.page id.sub
  target_said mag m id s k lp is lm reads =
      let n0 : number s k ≡ id.page % 16 = ap (λ o. unwrap_or o 0) reads.0 in
      let n1 : number s (k + 1) ≡ id.page / 16 = numbers s k (link_numbers m id) reads 1 (omega arith) in
      let n2 : number s (k + 2) ≡ id.sub % 16 = numbers s k (link_numbers m id) reads 2 (omega arith) in
      let n3 : number s (k + 3) ≡ id.sub / 16 % 8 + 8 * (m % 2) = numbers s k (link_numbers m id) reads 3 (omega arith) in
      let n4 : number s (k + 4) ≡ id.sub / 256 % 16 = numbers s k (link_numbers m id) reads 4 (omega arith) in
      let n5 : number s (k + 5) ≡ id.sub / 4096 + 4 * (m / 2) = numbers s k (link_numbers m id) reads 5 (omega arith) in
      let difference : number s (k + 3) / 8 + 2 * (number s (k + 5) / 4) ≡ m = omega (arith, n3, n5, is.top) in
      let page : number s k + 16 * number s (k + 1) ≡ id.page = omega (arith, n0, n1) in
      let sub : number s (k + 2) + 16 * (number s (k + 3) % 8) + 256 * number s (k + 4) + 4096 * (number s (k + 5) % 4) ≡ id.sub =
      omega (arith, n2, n3, n4, n5, is.top, is.gap) in
      λ i. id_at (target_magazine mag (difference i)) (page i) (sub i)

  link_said : (mag : ℕ) (link : Option Id) (s : List ℕ) (k : ℕ) → IsLink link → SaysLink mag link s k → link_at mag s k ≡ link
  link_said mag None s k is (m, l, r) =
      ap linked (target_said mag m no_link s k (omega arith) (record { top = omega arith; gap = refl }) l r)
  link_said mag (Some id) s k is r =
      let m = bit_xor (mag % 8) (id.mag % 8) in
      let same : target_magazine mag m ≡ id.mag = ap magazine (xor_back (mag % 8) (id.mag % 8) (omega arith) (omega arith))
      ∙ magazine_back id.mag is.ranges.mag_from is.ranges.mag_to in
      let target : target_at mag s k ≡ id =
      target_said mag m id s k is.ranges.page is.ranges.sub (xor_below_8 (mag % 8) (id.mag % 8) (omega arith) (omega arith)) r
      ∙ ap (λ n. id_at n id.page id.sub) same in
      ap linked target ∙ rw is.link refl

  each_said : (mag : ℕ) (links : List (Option Id)) (s : List ℕ) (k : ℕ) → AreLinks links → SaysEach mag links s k →
      links_from mag s k (length links) ≡ links
  each_said mag [] s k is r = refl
  each_said mag (link ∷ links) s k is r = ap₂ (λ x xs. x ∷ xs) (link_said mag link s k is.0 r.0) (each_said mag links s (k + 6) is.1 r.1)

  module _ (readable : ReadBytesAreReadable) where
    pub said_link_is_read : SaidLinkIsRead
    said_link_is_read mag link s k is says inside =
        let (ns, long, reads) = link_reads mag link s k says in (
          link_said mag link s k is says,
          subst (λ n. are_readable (slice_range s k (k + n)) ≡ true) long (readable s k ns (omega (arith, long, inside)) reads),
        )

    pub links_said : (mag : ℕ) (f : LinksFields) (s : List ℕ) → IsLinksFields f → AreLinks f.set.six → length s ≡ 42 →
        SaysLinks mag f s → links_of mag s ≡ Some f.set
    unfolding links_of
    links_said mag f s is targets size says =
        let (n, control, shows) = says.control in
        let (ns, long, reads) = each_reads mag f.set.six s 3 says.links in
        let six : links_from mag s 3 6 ≡ f.set.six =
        subst (λ n. links_from mag s 3 n ≡ f.set.six) is.six (each_said mag f.set.six s 3 targets says.links) in
        let at : 39 ≡ 3 + length ns = omega (arith, long, is.six) in
        let all : ReadsFrom 3 s (ns ++ n ∷ []) = reads_append s 3 ns (n ∷ []) reads (subst (λ j. ReadsFrom j s (n ∷ [])) at (control, tt)) in
        let whole : 3 + length (ns ++ n ∷ []) ≡ 40 = omega (arith, length-append ns (n ∷ []), long, is.six) in
        let all_readable : are_readable (slice_range s 3 40) ≡ true =
        subst (λ j. are_readable (slice_range s 3 j) ≡ true) whole (readable s 3 (ns ++ n ∷ []) (omega (arith, whole, size)) all) in
        let show24 : (number s 39 / 8 == 1) ≡ f.set.show24 = ap (λ o. unwrap_or o 0 / 8 == 1) control ∙ shows in
        rw all_readable (ap Some (λ i. record { six = six i; show24 = show24 i }))
