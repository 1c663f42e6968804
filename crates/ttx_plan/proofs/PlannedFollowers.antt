-- In a cycle that is planned for receivers that show a page late, each page is followed by another page number.
use Rattle.std.proofs.Common.{◌≡◌, ℕ, suc, ◌-◌, ◌<◌, Bool, true, false, not, eqb, List, [], ◌∷◌, length, sym, ap, ◌∙◌, subst, arith}
use Rattle.std.specs.Prelude.{All}
use Rattle.std.specs.List.{AllByRecursion}
use Rattle.std.proofs.lemmas.Bool.{eqb-true, ne_eqb, and_from, and_parts, or_left, or_right}
use Rattle.ttx_header.specs.Ids.{Id}
use Rattle.ttx_page.specs.declared.class.Class.{Class}
use Rattle.ttx_page.specs.Followers.{heads_another, IsFollowedByAnother}
use Rattle.ttx_page.specs.Packets as P
use Rattle.ttx_page.specs.Packets.{packet_of}
use Rattle.ttx_page.specs.Streams as S
use Rattle.ttx_page.specs.Streams.{repeated, turned}
use Rattle.ttx_source.specs.Services.{Authored, ServiceFields, IsAuthored}
use Rattle.ttx_plan.specs.Blocks.{Block, placed, rounds_to, has_pages}
use Rattle.ttx_plan.specs.Carries.{blocks_of, blocks_sent_at}
use Rattle.ttx_plan.specs.Following.{PlannedIsFollowed}
use Rattle.ttx_plan.proofs.Alternating.{number_in, number, Alternates, IsOther, IsNumbered, header_number, alternates}
use Rattle.ttx_plan.proofs.PlacedBlocks.{placed_all}
use Rattle.ttx_plan.proofs.PlannedSlots.{IsPlannedLayout, laid_out}
use Rattle.ttx_plan.proofs.QueueSlots.{of_queue}
use Rattle.ttx_plan.proofs.ReadPackets.{LawsBelow, page_fields}
use Rattle.ttx_plan.proofs.RepeatedHeaders.{its_slot, after}
use Rattle.ttx_plan.proofs.SentBlocks.{rounds_all, any_led}
use Rattle.ttx_plan.proofs.ServicePages.{authored_is, page_there}
use Rattle.ttx_plan.proofs.SlotsAfterHeaders.{tail_at}

-- the queue of each block is in use
in_use : (all some : List Block) (queue : ℕ) → (has_pages some queue ≡ true → has_pages all queue ≡ true) →
    AllByRecursion (λ b. eqb b.queue queue ≡ true → has_pages all queue ≡ true) some
in_use all [] queue more = tt
in_use all (b ∷ some) queue more = (
  λ e. more (or_left (eqb b.queue queue) (has_pages some queue) e),
  in_use all some queue (λ e. more (or_right (eqb b.queue queue) (has_pages some queue) e)),
)

numbered : LawsBelow → (serial : Bool) (class : Class) (pages : List Authored) → All (IsAuthored serial) pages →
    AllByRecursion IsNumbered (blocks_of class pages)
numbered laws serial class [] a = tt
numbered laws serial class (p ∷ pages) a = (
  header_number laws _ (page_fields serial p (a 0 p (omega arith))),
  numbered laws serial class pages (λ k d lt. a (suc k) d (omega arith)),
)

queue_alternates : LawsBelow → (places : List ℕ) (class : Class) (service : ServiceFields) (cycle : List (List ℕ))
    (l : IsPlannedLayout places true class service cycle) → All (IsAuthored service.serial) service.pages → (queue : ℕ) → queue < 8 →
    Alternates (of_queue queue l.slots)
queue_alternates laws places class service cycle l a queue lt =
    let blocks = placed places (blocks_of class service.pages) in
    let sent = blocks_sent_at places true class service.pages in
    subst Alternates (sym (l.in_queue queue lt))
    (alternates laws service.serial queue lt (has_pages sent queue) [] (rounds_to blocks 8)
    (rounds_all IsNumbered blocks 8 (placed_all IsNumbered (λ place b n. n) places (blocks_of class service.pages)
    (numbered laws service.serial class service.pages a)))
    (in_use sent (rounds_to blocks 8) queue (λ e. any_led true [] (rounds_to blocks 8) queue ∙ e)))

its_number : (page : Id) (x : P.Packet) → S.heads_page page x ≡ true → number_in x ≡ page.page
its_number page (P.Header id control text) e =
    sym (eqb-true page.page id.page (and_parts (eqb page.mag id.mag) (eqb page.page id.page) (and_parts _ (eqb page.sub id.sub) e).0).1)
its_number page x e = absurd (apart e)
  where
    apart : false ≡ true → ⊥
    apart e = cc

another_is : (page : Id) (x : P.Packet) → S.heads page.mag x ≡ true → (number_in x ≡ page.page → ⊥) → heads_another page x ≡ true
another_is page (P.Header id control text) e ne = and_from (eqb id.mag page.mag) _ e (ap not (ne_eqb id.page page.page ne))
another_is page x e ne = e

pub planned_is_followed : LawsBelow → PlannedIsFollowed
planned_is_followed laws class service cycle c n p e =
    let there = page_there service.pages n p e in
    let own = there.0 in
    let a = authored_is service.serial service.pages c.service_is.pages n own there.1 in
    let l = laid_out laws c.places true class service cycle c.service_is c.said c.carries in
    subst (λ q. IsFollowedByAnother (repeated cycle) q.id) there.2 (λ h is.
    let s = its_slot laws c.places true class service cycle l c.some own a h is in
    let own_number : number s.0.bytes ≡ own.page.id.page = ap number (sym s.1.same) ∙ its_number own.page.id (packet_of (repeated cycle h)) is in
    let f = after laws c.places true class service cycle l c.some own a h is (IsOther (number s.0.bytes))
    (tail_at (own.page.id.mag - 1) _ l.slots (turned (length cycle) h) s.0 (queue_alternates laws c.places class service cycle l c.service_is.pages
    (own.page.id.mag - 1) (omega (arith, a.page.id.mag_from, a.page.id.mag_to))) s.1.at s.1.early
    (λ q. a.page.page (sym own_number ∙ q))) in
    record {
      slot = f.slot;
      next = f.latest;
      another = another_is own.page.id (packet_of (repeated cycle f.slot)) (f.heads_it f.is_it.0)
          (λ q. f.is_it.1 (ap number (sym f.same) ∙ q ∙ sym own_number));
    })
