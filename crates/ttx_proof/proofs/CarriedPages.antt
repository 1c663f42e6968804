-- What a stream brings and carries of a page; another stream that is the same there brings and carries the same.
use Rattle.std.proofs.Common.{◌≡◌, ℕ, ℤ, pos, ◌+ℤ◌, ◌-ℤ◌, ◌≤ℤ◌, sym, ap, ◌∙◌, subst, inl, inr, arith}
use Rattle.std.proofs.lemmas.Int.{ints}
use Rattle.ttx_packet.specs.Slots.{IsSlot, is_clean}
use Rattle.ttx_page.specs.Packets.{packet_of}
use Rattle.ttx_page.specs.Pages.{Page}
use Rattle.ttx_page.specs.declared.selection.Selection.{Selection}
use Rattle.ttx_page.specs.declared.item.Item.{Item}
use Rattle.ttx_page.specs.declared.class.Class.{Class}
use Rattle.ttx_page.specs.Streams.{Stream, heads_page, heads_matched, IsOwned}
use Rattle.ttx_page.specs.Steady.{IsTrueTo}
use Rattle.ttx_receiver.specs.Laws.{IsSteadyFrom, HasHeaderBetween, IsBrought}
use Rattle.ttx_proof.specs.Carried.{Carries, AgreeingStreamsBring, AgreeingStreamsCarry}
use Rattle.ttx_proof.proofs.AgreeingStreams.{OwnerLaws, owned_off, sent_on}

pub agreeing_streams_bring : OwnerLaws → AgreeingStreamsBring
agreeing_streams_bring laws s t d begin end same p class lines repeat item b =
    elim b as (λ _. IsBrought t p class lines repeat item (begin +ℤ d) (end +ℤ d)) [
      | inl a ↦ inl (sent_on laws s t d begin end same p.id lines repeat item a)
      | inr a ↦ inr (a.0, a.1, header a.2)
    ]
  where
    header : HasHeaderBetween s p begin end → HasHeaderBetween t p (begin +ℤ d) (end +ℤ d)
    header a =
        let low = a.not_before in
        let lt = a.before in
        record {
          slot = a.slot +ℤ d;
          not_before = omega (arith, ints);
          before = omega (arith, ints);
          is_header = ap (λ x. heads_page p.id (packet_of x)) (same a.slot a.not_before a.before) ∙ a.is_header;
        }

-- from slot begin on, t is s moved by d slots
module _ (laws : OwnerLaws) (s t : Stream) (d begin : ℤ) (same : (i : ℤ) → begin ≤ℤ i → t (i +ℤ d) ≡ s i) where
  here : (i : ℤ) → (begin +ℤ d) ≤ℤ i → t i ≡ s (i -ℤ d)
  here i le = let e : i ≡ (i -ℤ d) +ℤ d = omega (arith, ints) in ap t e ∙ same (i -ℤ d) (omega (arith, ints))

  owned_back : (p : Page) (item : Item) (h j : ℤ) → (begin +ℤ d) ≤ℤ h → IsOwned t p.id item h j → IsOwned s p.id item (h -ℤ d) (j -ℤ d)
  owned_back p item h j le owned =
      let e : h ≡ (h -ℤ d) +ℤ d = omega (arith, ints) in
      let f : j ≡ (j -ℤ d) +ℤ d = omega (arith, ints) in
      owned_off s t d (h -ℤ d) (j -ℤ d) (λ i low high. same i (omega (arith, ints))) p.id item
      (subst (λ z. IsOwned t p.id item z ((j -ℤ d) +ℤ d)) e (subst (λ z. IsOwned t p.id item h z) f owned))

  steady_on : (p : Page) (sel : Selection) → IsSteadyFrom s p sel begin → IsSteadyFrom t p sel (begin +ℤ d)
  steady_on p sel a = record {
    slots = λ j le. subst IsSlot (sym (here j le)) (a.slots (j -ℤ d) (omega (arith, ints)));
    clean = λ j le. ap is_clean (here j le) ∙ a.clean (j -ℤ d) (omega (arith, ints));
    selected = λ j le h. ap (λ x. heads_page p.id (packet_of x)) (here j le)
        ∙ a.selected (j -ℤ d) (omega (arith, ints)) (sym (ap (λ x. heads_matched sel (packet_of x)) (here j le)) ∙ h);
    items = λ item checked h j le owned.
        let o = laws.first t p.id item h j owned in
        subst (IsTrueTo p item) (sym (here j (omega (arith, ints))))
        (a.items item checked (h -ℤ d) (j -ℤ d) (omega (arith, ints)) (owned_back p item h j le owned));
  }

  carries_on : (p : Page) (sel : Selection) (class : Class) (lines repeat limit : ℕ) → Carries s p sel class lines repeat limit begin →
      Carries t p sel class lines repeat limit (begin +ℤ d)
  carries_on p sel class lines repeat limit a = record {
    steady = steady_on p sel a.steady;
    brought = λ item need.
        let e : (begin +ℤ pos limit) +ℤ d ≡ (begin +ℤ d) +ℤ pos limit = omega (arith, ints) in
        subst (IsBrought t p class lines repeat item (begin +ℤ d)) e
        (agreeing_streams_bring laws s t d begin (begin +ℤ pos limit) (λ i low high. same i low) p class lines repeat item (a.brought item need));
  }

pub agreeing_streams_carry : OwnerLaws → AgreeingStreamsCarry
agreeing_streams_carry laws s t d begin same = carries_on laws s t d begin same
