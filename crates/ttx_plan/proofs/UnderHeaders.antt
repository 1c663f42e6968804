-- Each row and X/27/0 of a planned cycle is a packet of the page whose header it is under; each slot is clean, each header is a page's own.
use Rattle.std.proofs.Common.{◌≡◌, ℕ, suc, ◌+◌, ◌<◌, Bool, true, false, List, [], length, drop, get_or, Some, refl, sym, ap, ◌∙◌, subst, inl, inr}
use Rattle.std.proofs.Common.{arith}
use Rattle.std.specs.Prelude.{slice_get}
use Rattle.std.proofs.lemmas.Bool.{eq-eqb, and_from}
use Rattle.ttx_header.specs.Ids.{Id, same_id}
use Rattle.ttx_packet.specs.Slots.{is_clean}
use Rattle.ttx_page.specs.declared.class.Class.{Class}
use Rattle.ttx_page.specs.declared.item.Item.{Item}
use Rattle.ttx_page.specs.Packets.{packet_of}
use Rattle.ttx_page.specs.Streams as S
use Rattle.ttx_source.specs.Services.{Authored, ServiceFields, IsAuthored}
use Rattle.ttx_plan.specs.declared.packet.Packet.{Packet}
use Rattle.ttx_plan.specs.declared.packet.Slot.TheVariants.{Empty, Sent}
use Rattle.ttx_plan.specs.Contents.{page_header_bytes, rest_of}
use Rattle.ttx_plan.specs.Laws.{PlannedHeadersAreOwn, PlannedIsClean}
use Rattle.ttx_plan.specs.Packets.{is_page_header, is_row_or_links, bytes_of}
use Rattle.ttx_plan.proofs.ListElements.{Has}
use Rattle.ttx_plan.proofs.PlannedSlots.{IsPlannedLayout, laid_out, bytes_at, heads_at, slots_led}
use Rattle.ttx_plan.proofs.QueueBlocks.{HeadsOwn, HeadsBlock}
use Rattle.ttx_plan.proofs.QueueSlots.{heads, of_queue}
use Rattle.ttx_plan.proofs.ReadPackets.{LawsBelow, Fits, page_fields, header_is, late_fit, untainted}
use Rattle.ttx_plan.proofs.SlotsAfterHeaders.{header_of, latest_before, tail_at, before_header, after_header}

pub planned_is_clean : LawsBelow → PlannedIsClean
planned_is_clean laws places late class service cycle is said carries n lt =
    let l = laid_out laws places late class service cycle is said carries in
    ap is_clean (bytes_at _ _ _ _ _ cycle l n lt) ∙ (l.reads n).clean

pub planned_headers_are_own : LawsBelow → PlannedHeadersAreOwn
planned_headers_are_own laws places late class service cycle is said carries n lt id control text e =
    let l = laid_out laws places late class service cycle is said carries in
    (subst (Fits service.pages service.serial (get_or l.slots n Empty)) (sym (ap packet_of (bytes_at _ _ _ _ _ cycle l n lt)) ∙ e)
    (l.reads n).fits).own

-- the header of a page
pub page_head : LawsBelow → (serial : Bool) (authored : Authored) → IsAuthored serial authored →
    S.heads_page authored.page.id (packet_of (page_header_bytes authored.page)) ≡ true
page_head laws serial authored a =
    ap (S.heads_page authored.page.id) (header_is laws _ (page_fields serial authored a)) ∙ same authored.page.id
  where
    same : (id : Id) → same_id id id ≡ true
    same id = and_from _ _ (and_from _ _ (eq-eqb id.mag id.mag refl) (eq-eqb id.page id.page refl)) (eq-eqb id.sub id.sub refl)

-- The packet in slot n is one of a page's, more than a field after the page's header, which is the latest of the magazine, and no header
-- between them ends the page.
pub record IsUnderPage (service : ServiceFields) (class : Class) (cycle : List (List ℕ)) (n mag : ℕ) : Type 0 where
  pub index : ℕ
  pub authored : Authored
  pub listed : slice_get service.pages index ≡ Some authored
  pub kept : IsAuthored service.serial authored
  pub mag_is : mag ≡ authored.page.id.mag
  pub item : Has (get_or cycle n []) (rest_of class authored.page)
  pub header : ℕ
  pub later : header + service.lines < n
  pub is_header : S.heads_page authored.page.id (packet_of (get_or cycle header [])) ≡ true
  pub none_between : (i : ℕ) → header < i → i < n → S.heads mag (packet_of (get_or cycle i [])) ≡ false
  pub untainted : (i : ℕ) → header < i → i < n → S.ends_serial mag (packet_of (get_or cycle i [])) ≡ false

module _ (laws : LawsBelow) (places : List ℕ) (late : Bool) (class : Class) (service : ServiceFields) (cycle : List (List ℕ))
    (l : IsPlannedLayout places late class service cycle) where
  under_block : (n queue i : ℕ) (h p : Packet) → n < length cycle → get_or l.slots n Empty ≡ Sent queue p → is_row_or_links p.kind ≡ true → i < n →
      get_or l.slots i Empty ≡ Sent queue h → ((k : ℕ) → i < k → k < n → heads queue (get_or l.slots k Empty) ≡ false) →
      HeadsBlock service.pages service.serial class queue h (of_queue queue (drop (suc i) l.slots)) → IsUnderPage service class cycle n (suc queue)
  under_block n queue i h p lt at late lt_n header_at none b =
      let o = b.of_page in
      let before : i < length cycle = omega (arith, lt_n, lt) in
      let s = l.spaced queue i n (record {
        header = h;
        packet = p;
        header_at = header_at;
        opens = ap (λ x. is_page_header x.kind) b.header_is;
        packet_at = at;
        late = late;
        earlier = lt_n;
        none_between = none;
      }) in
      record {
        index = o.index;
        authored = o.authored;
        listed = o.listed;
        kept = o.kept;
        mag_is = omega (arith, o.queue_is, o.kept.page.id.mag_from);
        item = subst (λ x. Has x (rest_of class o.authored.page)) (sym (bytes_at _ _ _ _ _ cycle l n lt ∙ ap bytes_of at))
            (subst (Has p.bytes) o.rest_is (after_header queue (λ x. Has x.bytes b.rest) l.slots i n p b.own lt_n at late none));
        header = i;
        later = s.0;
        is_header = ap (λ x. S.heads_page o.authored.page.id (packet_of x)) (bytes_at _ _ _ _ _ cycle l i before ∙ ap bytes_of header_at
            ∙ ap (λ x. x.bytes) b.header_is ∙ o.header_is) ∙ page_head laws service.serial o.authored o.kept;
        none_between = λ k low high. heads_at _ _ _ _ _ cycle l k queue (omega (arith, high, lt)) ∙ none k low high;
        untainted = λ k low high. ap (λ x. S.ends_serial (suc queue) (packet_of x)) (bytes_at _ _ _ _ _ cycle l k (omega (arith, high, lt)))
            ∙ untainted service.pages service.serial (get_or l.slots k Empty) _ (l.reads k).fits (λ e m. s.1 e k m low high) (suc queue);
      }

  pub under : (n : ℕ) → n < length cycle → (mag : ℕ) (item : Item) → S.carries mag item (packet_of (get_or cycle n [])) ≡ true →
      IsUnderPage service class cycle n mag
  under n lt mag item c =
      let f = late_fit service.pages service.serial (get_or l.slots n Empty) item _ (l.reads n).fits mag
      (ap (λ x. S.carries mag item (packet_of x)) (sym (bytes_at _ _ _ _ _ cycle l n lt)) ∙ c) in
      let led = slots_led _ _ _ _ _ cycle l f.queue f.below in
      subst (IsUnderPage service class cycle n) (sym f.mag_is)
      (elim (latest_before f.queue l.slots n) as (λ _. IsUnderPage service class cycle n (suc f.queue)) [
        | inl none ↦ absurd (before_header f.queue (λ p. ⊥) l.slots n f.packet led.0 f.slot_is f.late none)
        | inr a ↦
            let h = header_of f.queue (get_or l.slots a.place Empty) a.is_header in
            elim (tail_at f.queue (HeadsOwn service.pages service.serial class f.queue) l.slots a.place h.packet led.1 h.is h.early) as
            (λ _. IsUnderPage service class cycle n (suc f.queue)) [
              | inl filling ↦ absurd (after_header f.queue (λ p. ⊥) l.slots a.place n f.packet filling.1 a.earlier f.slot_is f.late a.none_between)
              | inr b ↦ under_block n f.queue a.place h.packet f.packet lt f.slot_is f.late a.earlier h.is a.none_between b
            ]
      ])
