-- One change: a stream that is a pair of cycles up to some slot, and from slot 0 on another stream, carries what both of them carry.
use Rattle.std.proofs.Common.{◌≡◌, ℕ, ℤ, pos, ◌+ℤ◌, ◌-ℤ◌, ◌<ℤ◌, ◌≤ℤ◌, true, refl, sym, ap, ◌∙◌, subst, inl, inr, arith}
use Rattle.std.proofs.lemmas.Int.{ints}
use Rattle.std.proofs.lemmas.Bool.{both_ways}
use Rattle.ttx_packet.specs.Slots.{IsSlot, is_clean}
use Rattle.ttx_page.specs.Packets.{packet_of}
use Rattle.ttx_page.specs.Pages.{Page, needed}
use Rattle.ttx_page.specs.declared.selection.Selection.{Selection}
use Rattle.ttx_page.specs.declared.item.Item.{Item}
use Rattle.ttx_page.specs.declared.item.Item.TheVariants.{Head as TheHead, Row as TheRow, Links as TheLinks}
use Rattle.ttx_page.specs.declared.class.Class.{Class}
use Rattle.ttx_page.specs.Streams.{Stream, heads, heads_page, heads_matched, IsLatestHeader, IsOwned}
use Rattle.ttx_page.specs.Steady.{IsChecked, IsTrueTo}
use Rattle.ttx_page.proofs.SlotDistances.{cases_ltz}
use Rattle.ttx_receiver.specs.Laws.{IsBrought}
use Rattle.ttx_proof.specs.Carried.{Carries, AgreeingStreamsBring, AgreeingStreamsCarry}
use Rattle.ttx_proof.proofs.AgreeingStreams.{owned_on}

-- s is the pair's stream before slot `until`; from slot 0 on it is the rest, moved by d slots
module _ (bring : AgreeingStreamsBring) (carry : AgreeingStreamsCarry) (s pair rest : Stream) (d until : ℤ)
    (below : (i : ℤ) → i <ℤ until → s i ≡ pair i)
    (above : (i : ℤ) → pos 0 ≤ℤ i → s i ≡ rest (i -ℤ d)) (p : Page) (sel : Selection) (class : Class) (lines repeat limit : ℕ)
    (long : pos limit ≤ℤ until) (carried : (tau : ℤ) → Carries pair p sel class lines repeat limit tau)
    (goes_on : (tau : ℤ) → Carries rest p sel class lines repeat limit tau)
    (head : ℤ) (not_before : pos 0 ≤ℤ head) (soon : head <ℤ until) (is_header : heads p.id.mag (packet_of (s head)) ≡ true) where
  later : (begin : ℤ) → pos 0 ≤ℤ begin → Carries s p sel class lines repeat limit begin
  later begin le =
      let e : (begin -ℤ d) +ℤ d ≡ begin = omega (arith, ints) in
      subst (Carries s p sel class lines repeat limit) e
      (carry rest s d (begin -ℤ d)
      (λ i low. let f : (i +ℤ d) -ℤ d ≡ i = omega (arith, ints) in above (i +ℤ d) (omega (arith, ints)) ∙ ap rest f)
      p sel class lines repeat limit (goes_on (begin -ℤ d)))

  -- what is under a header before slot 0 comes before the first header from slot 0 on
  before_head : (mag : ℕ) (h j : ℤ) → mag ≡ p.id.mag → h <ℤ pos 0 → IsLatestHeader s mag h j → j <ℤ until
  before_head mag h j e lt a = elim (cases_ltz j until) as (λ _. j <ℤ until) [
    | inl low ↦ low
    | inr high ↦ absurd (both_ways _ (a.none_between head (omega (arith, ints)) (omega (arith, ints)))
        (subst (λ m. heads m (packet_of (s head)) ≡ true) (sym e) is_header))
  ]

  near : (item : Item) (h j : ℤ) → h <ℤ pos 0 → IsOwned s p.id item h j → j <ℤ until
  near TheHead h j lt o = let e = o.0 in omega (arith, ints)
  near (TheRow r) h j lt o = before_head p.id.mag h j refl lt o.0
  near TheLinks h j lt o = before_head p.id.mag h j refl lt o.0

  same : (i : ℤ) → i <ℤ until → pair (i +ℤ pos 0) ≡ s i
  same i lt = let e : i +ℤ pos 0 ≡ i = omega (arith, ints) in ap pair e ∙ sym (below i lt)

  items : (item : Item) → IsChecked p item → (h j : ℤ) → IsOwned s p.id item h j → IsTrueTo p item (s j)
  items item checked h j o = elim (cases_ltz h (pos 0)) as (λ _. IsTrueTo p item (s j)) [
    | inr ge ↦ (later (pos 0) (omega (arith, ints))).steady.items item checked h j ge o
    | inl lt ↦
        let low = near item h j lt o in
        subst (IsTrueTo p item) (same j low)
        ((carried h).steady.items item checked (h +ℤ pos 0) (j +ℤ pos 0) (omega (arith, ints))
        (owned_on s pair (pos 0) h j (λ i a b. same i (omega (arith, ints))) p.id item o))
  ]

  slots : (j : ℤ) → IsSlot (s j) × (is_clean (s j) ≡ true)
  slots j = elim (cases_ltz j (pos 0)) as (λ _. IsSlot (s j) × (is_clean (s j) ≡ true)) [
    | inl lt ↦
        let e = below j (omega (arith, ints)) in
        let k : j ≤ℤ j = omega (arith, ints) in
        (subst IsSlot (sym e) ((carried j).steady.slots j k), ap is_clean e ∙ (carried j).steady.clean j k)
    | inr ge ↦ let a = (later (pos 0) (omega (arith, ints))).steady in (a.slots j ge, a.clean j ge)
  ]

  selected : (j : ℤ) → heads_matched sel (packet_of (s j)) ≡ true → heads_page p.id (packet_of (s j)) ≡ true
  selected j h = elim (cases_ltz j (pos 0)) as (λ _. heads_page p.id (packet_of (s j)) ≡ true) [
    | inl lt ↦
        let e = below j (omega (arith, ints)) in
        ap (λ x. heads_page p.id (packet_of x)) e
        ∙ (carried j).steady.selected j (omega (arith, ints)) (sym (ap (λ x. heads_matched sel (packet_of x)) e) ∙ h)
    | inr ge ↦ (later (pos 0) (omega (arith, ints))).steady.selected j ge h
  ]

  brought : (tau : ℤ) (item : Item) → needed p item ≡ true → IsBrought s p class lines repeat item tau (tau +ℤ pos limit)
  brought tau item need = elim (cases_ltz tau (pos 0)) as (λ _. IsBrought s p class lines repeat item tau (tau +ℤ pos limit)) [
    | inr ge ↦ (later tau ge).brought item need
    | inl lt ↦
        let e : tau +ℤ pos 0 ≡ tau = omega (arith, ints) in
        let f : (tau +ℤ pos limit) +ℤ pos 0 ≡ tau +ℤ pos limit = omega (arith, ints) in
        let there = bring pair s (pos 0) tau (tau +ℤ pos limit)
        (λ i a b. let k : i +ℤ pos 0 ≡ i = omega (arith, ints) in ap s k ∙ below i (omega (arith, ints))) p class lines repeat item
        ((carried tau).brought item need) in
        subst (λ z. IsBrought s p class lines repeat item z (tau +ℤ pos limit)) e
        (subst (λ z. IsBrought s p class lines repeat item (tau +ℤ pos 0) z) f there)
  ]

  pub carries_over : (tau : ℤ) → Carries s p sel class lines repeat limit tau
  carries_over tau = record {
    steady = record {
      slots = λ j _. (slots j).0;
      clean = λ j _. (slots j).1;
      selected = λ j _ h. selected j h;
      items = λ item checked h j _ o. items item checked h j o;
    };
    brought = brought tau;
  }
