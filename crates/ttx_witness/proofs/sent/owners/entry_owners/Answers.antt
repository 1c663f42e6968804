use Rattle.std.proofs.Common.{rules, ◌≡◌, pos, ◌-◌, ◌-ℤ◌, length, None, sym, ap, ◌∙◌, subst, arith}
use Rattle.ttx_page.specs.Streams.{repeated}
use Rattle.ttx_witness.specs.sent.ItemTransmissions.{owner_scan, owner_moved}
use Rattle.ttx_witness.specs.sent.Collected.{seen_by, IsForeign}
use Rattle.ttx_witness.proofs.lemmas.sent.EntryOwners.{slot_here, scan_moved, scan_none, none_at}
use Rattle.ttx_witness.proofs.sent.owners.entry_owners.Goals as goal

pub loop-j-init : goal.loop-j-init
loop-j-init c = record {
  owners = λ ids index i id at is. ap (seen_by i) (none_at (id.mag - 1))
      ∙ scan_none (pos 0 -ℤ pos (length c.slots-slots.result.now)) id (repeated c.slots-slots.result.now);
  apart = λ ids index m i id lt at d. subst (IsForeign i) (sym (none_at m)) tt;
}

pub loop-j-preserved : goal.loop-j-preserved
loop-j-preserved c =
    let slots = c.slots-slots.result.now in
    record {
      owners = λ ids index i id at is.
          scan_moved (pos 0 -ℤ pos (length slots)) id (repeated slots) c.loop-j.j _ _ _ _ (search rules)
          (slot_here slots c.loop-j.j _ (omega (arith, c.loop-j-test.true))) (c.note_owner.ensures.after ids _ (c.indexed_header.ensures ids index) i id at is)
          (c.loop-j.invariant.owners ids index i id at is);
      apart = λ ids index. c.note_owner.ensures.apart ids _ (c.indexed_header.ensures ids index) (c.loop-j.invariant.apart ids index);
    }

pub returns-clause-owners : goal.returns-clause-owners
unfolding owner_scan
returns-clause-owners c = λ ids next index i id at is.
    let e = c.slots-slots.ensures.slots in
    let n : c.loop-j.j ≡ length c.slots-slots.result.now = omega (arith, c.loop-j-test.false) in
    c.loop-j.invariant.owners ids index i id at is
    ∙ ap (λ j. owner_moved (pos 0 -ℤ pos (length c.slots-slots.result.now)) (owner_scan id (repeated c.slots-slots.result.now) None j)) n
    ∙ ap (λ s. owner_moved (pos 0 -ℤ pos (length s)) (owner_scan id (repeated s) None (length s))) e
