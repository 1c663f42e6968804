use Rattle.std.proofs.Common.{◌≡◌, ◌∙◌, ◌+◌, ℕ, None, Option, length, get_or, sym, ap, subst, arith}
use Rattle.std.proofs.lemmas.List.{length-replicate}
use Rattle.ttx_page.specs.Packets.{packet_of}
use Rattle.ttx_page.specs.Streams.{repeated}
use Rattle.ttx_witness.specs.faults.OtherSubpages.{place, heads_other, HeadsOtherAt, TellsBelow, AreOtherHeaders}
use Rattle.ttx_witness.proofs.lemmas.faults.OverOnePeriod.{slot_is}
use Rattle.ttx_witness.proofs.lemmas.faults.OtherSubpages.{first_more, first_none, first_all}
use Rattle.ttx_witness.proofs.faults.other_subpages.first_other_headers.Goals as goal

pub loop-j-init : goal.loop-j-init
loop-j-init c = record {
  size = ap length c.in_ok-first.ensures ∙ length-replicate {A = Option ℕ} 2048 None;
  told = λ mag number low high small. first_none (HeadsOtherAt c.args.subcodes.now (repeated c.slots-slots.result.now) mag number)
      c.in_ok-first.first.items c.in_ok-first.ensures (place mag number);
}

pub loop-j-preserved : goal.loop-j-preserved
loop-j-preserved c =
    let cycle = c.slots-slots.result.now in let table = c.args.subcodes.now in let j = c.loop-j.j in
    record {
      size = c.note_slot.ensures.size;
      told = λ mag number low high small.
          let at = ap (λ x. heads_other table mag number (packet_of x)) (slot_is cycle j c.loop-j-test.true) in
          subst (TellsBelow (HeadsOtherAt table (repeated cycle) mag number) (j + 1)) (sym (c.note_slot.ensures.noted mag number low high small))
          (first_more (HeadsOtherAt table (repeated cycle) mag number) j _ ((λ e. at ∙ e), (λ e. sym at ∙ e))
          (get_or c.loop-j.first.items (place mag number) None) (c.loop-j.invariant.told mag number low high small));
    }

pub returns-clause-first : goal.returns-clause-first
returns-clause-first c =
    let cycle = c.slots-slots.result.now in
    let e : c.loop-j.j ≡ length cycle = omega (arith, c.loop-j-test.false, c.loop-j.auto.j-end) in
    subst (λ x. AreOtherHeaders x c.args.subcodes.now c.loop-j.first.items) c.slots-slots.ensures.slots
    (λ mag number low high small. first_all cycle c.slots-slots.ensures.cycle.some c.args.subcodes.now mag number
    (get_or c.loop-j.first.items (place mag number) None)
    (subst (λ n. TellsBelow (HeadsOtherAt c.args.subcodes.now (repeated cycle) mag number) n
    (get_or c.loop-j.first.items (place mag number) None)) e (c.loop-j.invariant.told mag number low high small)))
