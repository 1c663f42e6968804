use Rattle.std.proofs.Common.{pos, sym, ap, ◌∙◌, subst, arith}
use Rattle.std.proofs.lemmas.Bool.{both_ways}
use Rattle.ttx_page.specs.Packets.{packet_of}
use Rattle.ttx_page.specs.Streams.{repeated}
use Rattle.ttx_witness.specs.faults.Comparing.{heads_other_subpage, OtherHeaderAt}
use Rattle.ttx_witness.specs.faults.Faults.{Never, IsFirstAt}
use Rattle.ttx_witness.proofs.lemmas.faults.OverOnePeriod.{slot_is, never_other, other_is, one_more}
use Rattle.ttx_witness.proofs.faults.page_faults.first_other_header.Goals as goal

pub returns-then-heads_other_subpage : goal.returns-then-heads_other_subpage
returns-then-heads_other_subpage c =
    let here = ap (λ x. heads_other_subpage c.args.page (packet_of x)) (slot_is c.slots-slots.result.now c.loop-j.j c.loop-j-test.true)
    ∙ sym c.heads_other_subpage.ensures ∙ c.if-heads_other_subpage.true in
    subst (λ x. IsFirstAt x (OtherHeaderAt (repeated x) c.args.page) c.loop-j.j) c.slots-slots.ensures.slots
    (record {
      within = c.loop-j-test.true;
      here = (other_is (repeated c.slots-slots.result.now) c.args.page (pos c.loop-j.j)).0 here;
      none_before = c.loop-j.invariant.none;
    })

pub loop-j-preserved : goal.loop-j-preserved
loop-j-preserved c = record {
  none = one_more (λ i. OtherHeaderAt (repeated c.slots-slots.result.now) c.args.page (pos i)) c.loop-j.j c.loop-j.invariant.none
      (λ h. both_ways _ c.if-heads_other_subpage.false
      (c.heads_other_subpage.ensures ∙ ap (λ x. heads_other_subpage c.args.page (packet_of x))
      (sym (slot_is c.slots-slots.result.now c.loop-j.j c.loop-j-test.true))
      ∙ (other_is (repeated c.slots-slots.result.now) c.args.page (pos c.loop-j.j)).1 h));
}

pub returns : goal.returns
returns c = subst (λ x. Never (OtherHeaderAt (repeated x) c.args.page)) c.slots-slots.ensures.slots
    (never_other c.slots-slots.result.now c.slots-slots.ensures.cycle.some c.args.page
    (λ i lt. c.loop-j.invariant.none i (omega (arith, c.loop-j-test.false))))
