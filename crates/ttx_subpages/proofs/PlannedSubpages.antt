-- A planned cycle sends its subpages whole.
use Rattle.std.proofs.Common.{◌≡◌, ℕ, zero, suc, ◌<◌, Bool, true, false, ◌==◌, List, [], ◌∷◌, length, map, get_or, slice_get, Some, refl, sym}
use Rattle.std.proofs.Common.{ap, ◌∙◌, subst, inl, inr, arith, eqb-true, eq-eqb}
use Rattle.std.proofs.lemmas.Bool.{and_from, and_parts, both_ways}
use Rattle.std.specs.Prelude.{All}
use Rattle.ttx_header.specs.Ids.{Id, same_id}
use Rattle.ttx_page.specs.Laws.{EachSlotTurns}
use Rattle.ttx_page.specs.Packets.{Packet, Empty, Unreadable, Header, Row, Links, Info, Other, packet_of}
use Rattle.ttx_page.specs.Pages.{Page, IsPage}
use Rattle.ttx_page.specs.declared.selection.Selection.TheVariants.{AnySub}
use Rattle.ttx_page.specs.declared.class.Class.TheVariants.{Any}
use Rattle.ttx_page.specs.Streams.{repeated, turned, heads_page, heads_matched}
use Rattle.ttx_source.specs.Services.{Authored, ServiceFields, IsAuthored, pages_of}
use Rattle.ttx_certify.specs.Laws.{ArePages}
use Rattle.ttx_plan.specs.Acceptance.{IsPlanned}
use Rattle.ttx_plan.specs.Laws.{PlannedHeadersAreOwn}
use Rattle.ttx_plan.specs.WholeBlocks.{PlannedBlocksAreWhole}
use Rattle.ttx_subpages.specs.WholeBlocks.{IsSubpage, SendsWhole}
use Rattle.ttx_subpages.specs.Laws.{AcceptedAreSeen}
use Rattle.ttx_subpages.specs.PlannedSubpages.{PlannedSendWhole, PlannedAreSeen}

page_at : (pages : List Authored) (k : ℕ) (a : Authored) → slice_get pages k ≡ Some a → slice_get (map (λ authored. authored.page) pages) k ≡ Some a.page
page_at [] k a e = cc
page_at (b ∷ pages) zero a e = let f : Some b ≡ Some a = e in let g : b ≡ a = cc in ap (λ x. Some x.page) g
page_at (b ∷ pages) (suc k) a e = page_at pages k a e

are_pages : (serial : Bool) (pages : List Authored) → All (IsAuthored serial) pages → ArePages (map (λ authored. authored.page) pages)
are_pages serial [] all n p e = cc
are_pages serial (a ∷ pages) all zero p e =
    let f : Some a.page ≡ Some p = e in let g : a.page ≡ p = cc in subst IsPage g ((all 0 a (omega arith)).page)
are_pages serial (a ∷ pages) all (suc n) p e = are_pages serial pages (λ k d lt. all (suc k) d (omega arith)) n p e

same : (id : Id) → same_id id id ≡ true
same id = and_from _ _ (and_from _ _ (eq-eqb id.mag id.mag refl) (eq-eqb id.page id.page refl)) (eq-eqb id.sub id.sub refl)

module _ (turn : EachSlotTurns) (headers : PlannedHeadersAreOwn) (whole : PlannedBlocksAreWhole) (late : Bool) (service : ServiceFields)
    (cycle : List (List ℕ)) (c : IsPlanned late Any service cycle) (mag number : ℕ) (p : Page) (sub : IsSubpage (pages_of service) mag number p) where
  no_filler : number ≡ 0xff → ⊥
  no_filler e = (are_pages service.serial service.pages c.service_is.pages sub.index p sub.listed).page (sub.number_is ∙ e)

  abbrev Own : Packet → Type 0
  Own pkt = (q : Page) × IsSubpage (pages_of service) mag number q × (heads_page q.id pkt ≡ true)

  own : (n : ℕ) → n < length cycle → (pkt : Packet) → packet_of (get_or cycle n []) ≡ pkt → heads_matched (AnySub mag number) pkt ≡ true → Own pkt
  own n lt (Header id control text) is h =
      let parts = and_parts (mag == id.mag) (number == id.page) h in
      let m = eqb-true mag id.mag parts.0 in
      let k = eqb-true number id.page parts.1 in
      elim (headers c.places late Any service cycle c.service_is c.said c.carries n lt id control text is) as (λ _. Own (Header id control text)) [
        | inl filler ↦ absurd (no_filler (k ∙ eqb-true id.page 0xff ((and_parts (id.page == 0xff) _ filler).0)))
        | inr o ↦ (
          o.authored.page,
          record {
            index = o.index;
            listed = page_at service.pages o.index o.authored o.listed;
            mag_is = ap (λ x. x.mag) (sym o.id_is) ∙ sym m;
            number_is = ap (λ x. x.page) (sym o.id_is) ∙ sym k;
          },
          subst (λ x. same_id x id ≡ true) o.id_is (same id),
        )
      ]
  own n lt (Row m k text) is h = absurd (both_ways false refl h)
  own n lt (Links m content) is h = absurd (both_ways false refl h)
  own n lt Empty is h = absurd (both_ways false refl h)
  own n lt Unreadable is h = absurd (both_ways false refl h)
  own n lt Info is h = absurd (both_ways false refl h)
  own n lt Other is h = absurd (both_ways false refl h)

pub planned_send_whole : EachSlotTurns → PlannedHeadersAreOwn → PlannedBlocksAreWhole → PlannedSendWhole
planned_send_whole turn headers whole late service cycle c mag number p sub h = record {
  own = own turn headers whole late service cycle c mag number p sub (turned (length cycle) h) ((turn (length cycle) h c.some).inside)
      (packet_of (repeated cycle h)) refl;
  whole = λ q subq head item need.
      let b = whole late Any service cycle c subq.index q subq.listed h head item need in
      record { slot = b.0; owned = b.1; sure = b.2 };
}

pub planned_are_seen : AcceptedAreSeen → PlannedSendWhole → PlannedAreSeen
planned_are_seen seen send service cycle c is_cycle w is_certificate lines accepts gap followed mag number p sub =
    seen cycle (pages_of service) w is_cycle (are_pages service.serial service.pages c.service_is.pages) is_certificate accepts gap followed
    mag number (subst (λ n. SendsWhole (repeated cycle) (pages_of service) n mag number) (sym lines) (send true service cycle c mag number p sub)) p sub
