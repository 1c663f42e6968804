-- Headers in the stream of a repeated cycle: the latest one before a row or X/27/0, and what comes after the header of a page.
use Rattle.std.proofs.Common.{◌≡◌, ℕ, suc, ◌-◌, ◌<◌, ◌≤◌, ℤ, pos, ◌+ℤ◌, ◌-ℤ◌, ◌<ℤ◌, nat_abs, Bool, true, false, List, [], length, drop, get_or}
use Rattle.std.proofs.Common.{Some, not, refl, sym, ap, ◌∙◌, subst, inl, inr, arith, mod-eq_of_lt}
use Rattle.std.specs.Prelude.{slice_get}
use Rattle.std.proofs.lemmas.Bool.{both_ways, and_from, eq-eqb}
use Rattle.std.proofs.lemmas.Int.{ints}
use Rattle.ttx_page.specs.declared.class.Class.{Class}
use Rattle.ttx_page.specs.declared.item.Item.TheVariants.{Head as TheHead, Row as TheRow, Links as TheLinks}
use Rattle.ttx_page.specs.Laws.{Turn}
use Rattle.ttx_page.specs.Packets.{packet_of}
use Rattle.ttx_page.specs.Steady.{HasHeader}
use Rattle.ttx_page.specs.Streams.{Stream, turned, repeated, heads, heads_page, ends_serial, IsLatestHeader, CannotBeMissed}
use Rattle.ttx_page.proofs.Owners.{page_heads}
use Rattle.ttx_page.proofs.SlotDistances.{cases_ltz}
use Rattle.ttx_source.specs.Services.{Authored, ServiceFields, IsAuthored}
use Rattle.ttx_plan.specs.declared.packet.Packet.{Packet}
use Rattle.ttx_plan.specs.declared.packet.Slot.TheVariants.{Empty, Sent}
use Rattle.ttx_plan.specs.Acceptance.{IsPlanned}
use Rattle.ttx_plan.specs.Blocks.{header_packet}
use Rattle.ttx_plan.specs.Carries.{blocks_sent_at}
use Rattle.ttx_plan.specs.Contents.{page_header_bytes}
use Rattle.ttx_plan.specs.Laws.{PlannedIsSure}
use Rattle.ttx_plan.proofs.ListElements.{Has}
use Rattle.ttx_plan.specs.Packets.{is_row_or_links, bytes_of}
use Rattle.ttx_plan.proofs.PlannedSlots.{IsPlannedLayout, laid_out, bytes_at, heads_at, sent_within, sent_block}
use Rattle.ttx_plan.proofs.QueueBlocks.{Brings, queue_has}
use Rattle.ttx_plan.proofs.QueueSlots.{heads as slot_heads, of_queue}
use Rattle.ttx_plan.proofs.ReadPackets.{LawsBelow}
use Rattle.ttx_plan.proofs.ServicePages.{authored_is}
use Rattle.ttx_plan.proofs.SlotsAfterHeaders.{header_of, comes_after, slot_with}
use Rattle.ttx_plan.proofs.UnderHeaders.{IsUnderPage, under, page_head}

pub one_latest : (s : Stream) (mag : ℕ) (g h j : ℤ) → IsLatestHeader s mag g j → IsLatestHeader s mag h j → g ≡ h
one_latest s mag g h j a b = elim (cases_ltz g h) as (λ _. g ≡ h) [
  | inl lt ↦ absurd (both_ways _ (a.none_between h lt b.earlier) b.is_header)
  | inr ge ↦ elim (cases_ltz h g) as (λ _. g ≡ h) [
    | inl lt ↦ absurd (both_ways _ (b.none_between g lt a.earlier) a.is_header)
    | inr le ↦ omega (arith, ints)
  ]
]

-- a period that begins with slot `by`
module _ (cycle : List (List ℕ)) (by : ℤ) (same : (j : ℤ) → turned (length cycle) (j +ℤ by) ≡ turned (length cycle) j) where
  pub slot_back : (k : ℕ) → k < length cycle → repeated cycle (pos k +ℤ by) ≡ get_or cycle k []
  slot_back k lt = ap (λ x. get_or cycle x []) (same (pos k) ∙ mod-eq_of_lt lt)

  pub all_between : (P : List ℕ → Type 0) (i j : ℕ) → j ≤ length cycle → ((k : ℕ) → i < k → k < j → P (get_or cycle k [])) →
      (x : ℤ) → (pos i +ℤ by) <ℤ x → x <ℤ (pos j +ℤ by) → P (repeated cycle x)
  all_between P i j le each x low high =
      let e : x ≡ pos (nat_abs (x -ℤ by)) +ℤ by = omega (arith, ints) in
      let from : i < nat_abs (x -ℤ by) = omega (arith, ints) in
      let to : nat_abs (x -ℤ by) < j = omega (arith, ints) in
      subst P (sym (ap (repeated cycle) e ∙ slot_back (nat_abs (x -ℤ by)) (omega (arith, to, le)))) (each (nat_abs (x -ℤ by)) from to)

  pub latest_in : (mag i j : ℕ) → i < j → j < length cycle → heads mag (packet_of (get_or cycle i [])) ≡ true →
      ((k : ℕ) → i < k → k < j → heads mag (packet_of (get_or cycle k [])) ≡ false) → IsLatestHeader (repeated cycle) mag (pos i +ℤ by) (pos j +ℤ by)
  latest_in mag i j lt within is none = record {
    earlier = omega (arith, ints, lt);
    is_header = ap (λ x. heads mag (packet_of x)) (slot_back i (omega (arith, lt, within))) ∙ is;
    none_between = all_between (λ s. heads mag (packet_of s) ≡ false) i j (omega (arith, within)) none;
  }

pub latest_here : (cycle : List (List ℕ)) (mag : ℕ) (j : ℤ) (t : Turn (length cycle) j) (header : ℕ) → header < turned (length cycle) j →
    heads mag (packet_of (get_or cycle header [])) ≡ true →
    ((i : ℕ) → header < i → i < turned (length cycle) j → heads mag (packet_of (get_or cycle i [])) ≡ false) →
    IsLatestHeader (repeated cycle) mag (pos header +ℤ t.by) j
latest_here cycle mag j t header lt is none = subst (IsLatestHeader (repeated cycle) mag (pos header +ℤ t.by)) (sym t.place)
    (latest_in cycle t.by t.same mag header (turned (length cycle) j) lt t.inside is none)

-- each transmission is sure

sure_here : (service : ServiceFields) (class : Class) (cycle : List (List ℕ)) (mag : ℕ) (h j : ℤ) (t : Turn (length cycle) j) →
    IsUnderPage service class cycle (turned (length cycle) j) mag → IsLatestHeader (repeated cycle) mag h j →
    CannotBeMissed (repeated cycle) service.lines mag h j
sure_here service class cycle mag h j t u latest =
    let e : h ≡ pos u.header +ℤ t.by = one_latest (repeated cycle) mag h (pos u.header +ℤ t.by) j latest
    (latest_here cycle mag j t u.header (omega (arith, u.later)) (ap (λ m. heads m (packet_of (get_or cycle u.header []))) u.mag_is
    ∙ page_heads u.authored.page.id _ u.is_header) u.none_between) in (
      omega (arith, ints, e, t.place, u.later),
      λ i low high. all_between cycle t.by t.same (λ s. ends_serial mag (packet_of s) ≡ false) u.header (turned (length cycle) j)
          (omega (arith, t.inside)) u.untainted i (subst (λ x. x <ℤ i) e low) (subst (λ x. i <ℤ x) t.place high),
    )

pub planned_is_sure : LawsBelow → PlannedIsSure
planned_is_sure laws places late class service cycle is said carries some page TheHead h j owned = tt
planned_is_sure laws places late class service cycle is said carries some page (TheRow r) h j owned =
    let t = laws.turn (length cycle) j some in
    sure_here service class cycle page.mag h j t (under laws places late class service cycle
    (laid_out laws places late class service cycle is said carries) (turned (length cycle) j) t.inside page.mag (TheRow r) owned.2) owned.0
planned_is_sure laws places late class service cycle is said carries some page TheLinks h j owned =
    let t = laws.turn (length cycle) j some in
    sure_here service class cycle page.mag h j t (under laws places late class service cycle
    (laid_out laws places late class service cycle is said carries) (turned (length cycle) j) t.inside page.mag TheLinks owned.2) owned.0

-- a header of a page, and what comes after it

module _ (laws : LawsBelow) (places : List ℕ) (late : Bool) (class : Class) (service : ServiceFields) (cycle : List (List ℕ))
    (l : IsPlannedLayout places late class service cycle) (some : 0 < length cycle) (own : Authored) (a : IsAuthored service.serial own)
    (h : ℤ) (is : heads_page own.page.id (packet_of (repeated cycle h)) ≡ true) where
  pub record IsSlotOf (packet : Packet) : Type 0 where
    pub at : get_or l.slots (turned (length cycle) h) Empty ≡ Sent (own.page.id.mag - 1) packet
    pub early : is_row_or_links packet.kind ≡ false
    pub same : repeated cycle h ≡ packet.bytes

  mag_is : own.page.id.mag ≡ suc (own.page.id.mag - 1)
  mag_is = omega (arith, a.page.id.mag_from)

  pub its_slot : (packet : Packet) × IsSlotOf packet
  its_slot =
      let place = turned (length cycle) h in
      let inside = (laws.turn (length cycle) h some).inside in
      let f = header_of (own.page.id.mag - 1) (get_or l.slots place Empty) (sym (heads_at _ _ _ _ _ cycle l place (own.page.id.mag - 1) inside)
      ∙ ap (λ m. heads m (packet_of (get_or cycle place []))) (sym mag_is) ∙ page_heads own.page.id (packet_of (repeated cycle h)) is) in
      (f.packet, record { at = f.is; early = f.early; same = bytes_at _ _ _ _ _ cycle l place inside ∙ ap bytes_of f.is })

  -- the packet that comes after it, in the stream
  pub record IsAfter (Q : Packet → Type 0) : Type 0 where
    pub packet : Packet
    pub is_it : Q packet
    pub slot : ℤ
    pub latest : IsLatestHeader (repeated cycle) own.page.id.mag h slot
    pub same : repeated cycle slot ≡ packet.bytes
    pub heads_it : is_row_or_links packet.kind ≡ false → heads own.page.id.mag (packet_of (repeated cycle slot)) ≡ true

  pub after : (Q : Packet → Type 0) → Brings Q (of_queue (own.page.id.mag - 1) (drop (suc (turned (length cycle) h)) l.slots)) → IsAfter Q
  after Q b =
      let t = laws.turn (length cycle) h some in
      let c = comes_after (own.page.id.mag - 1) Q l.slots (turned (length cycle) h) b in
      let within = sent_within _ _ _ _ _ cycle l c.place (own.page.id.mag - 1) c.packet c.at in
      let back = slot_back cycle t.by t.same c.place within in
      record {
        packet = c.packet;
        is_it = c.is;
        slot = pos c.place +ℤ t.by;
        latest = subst (λ x. IsLatestHeader (repeated cycle) own.page.id.mag x (pos c.place +ℤ t.by)) (sym t.place)
            (latest_in cycle t.by t.same own.page.id.mag (turned (length cycle) h) c.place c.later within
            (page_heads own.page.id (packet_of (repeated cycle h)) is)
            (λ k low high. ap (λ m. heads m (packet_of (get_or cycle k []))) mag_is
            ∙ heads_at _ _ _ _ _ cycle l k (own.page.id.mag - 1) (omega (arith, high, within)) ∙ c.none_between k low high));
        same = back ∙ bytes_at _ _ _ _ _ cycle l c.place within ∙ ap bytes_of c.at;
        heads_it = λ early. ap (λ x. heads own.page.id.mag (packet_of x)) back ∙ ap (λ m. heads m (packet_of (get_or cycle c.place []))) mag_is
            ∙ heads_at _ _ _ _ _ cycle l c.place (own.page.id.mag - 1) within ∙ ap (slot_heads (own.page.id.mag - 1)) c.at
            ∙ and_from _ _ (eq-eqb (own.page.id.mag - 1) _ refl) (ap not early);
      }

-- each page has a header
pub has_header : LawsBelow → (late : Bool) (class : Class) (service : ServiceFields) (cycle : List (List ℕ)) → IsPlanned late class service cycle →
    (n : ℕ) (own : Authored) → slice_get service.pages n ≡ Some own → HasHeader (repeated cycle) own.page.id
has_header laws late class service cycle c n own listed =
    let l = laid_out laws c.places late class service cycle c.service_is c.said c.carries in
    let a = authored_is service.serial service.pages c.service_is.pages n own listed in
    let queue = own.page.id.mag - 1 in
    let small : own.page.id.mag - 1 < 8 = omega (arith, a.page.id.mag_from, a.page.id.mag_to) in
    let head = header_packet (page_header_bytes own.page) in
    let k = sent_block c.places late class service.serial service.pages c.service_is.pages c.in_range n own listed in
    let s = slot_with queue head l.slots (subst (Has head) (sym (l.in_queue queue small))
    (queue_has service.serial (blocks_sent_at c.places late class service.pages) _ k.among)) in
    let within = sent_within _ _ _ _ _ cycle l s.0 queue head s.1 in
    record {
      slot = pos s.0;
      is_header = ap (λ x. heads_page own.page.id (packet_of x)) (ap (λ x. get_or cycle x []) (mod-eq_of_lt within)
          ∙ bytes_at _ _ _ _ _ cycle l s.0 within ∙ ap bytes_of s.1) ∙ page_head laws service.serial own a;
    }
