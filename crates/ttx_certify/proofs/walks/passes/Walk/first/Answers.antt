use Rattle.std.proofs.Common.{rules, ◌≡◌, None, length, arith}
use Rattle.ttx_witness.specs.sent.Collected.{owner_for}
use Rattle.ttx_certify.specs.walks.Passing.{ids}
use Rattle.ttx_certify.proofs.walk_lemmas.GrowingLists.{one_longer, owner_grown}
use Rattle.ttx_certify.proofs.walks.passes.Walk.first.Goals as goal

pub returns-clause-stands : goal.returns-clause-stands
returns-clause-stands c = λ x old.
    let z = c.args.slot.now in
    let l = one_longer x z in
    let walk = c.args.self.now in
    let read = c.indexed_header-header.ensures (ids walk) old.ready.index in
    record {
      ready = record { index = old.ready.index; subcodes = old.ready.subcodes };
      few = omega (arith, c.if-self-ge65536.false, old.count);
      count = omega (arith, old.count);
      owners = record {
        each = λ i id at is. owner_grown x z id None (owner_for walk.owners i id) (owner_for c.note_owner.new.owners i id) _
            (let e : walk.count ≡ length x = old.count in search (rules, e)) (old.owners.each i id at is)
            (c.note_owner.ensures.after (ids walk) z read i id at is);
        apart = c.note_owner.ensures.apart (ids walk) z read old.owners.apart;
      };
      nothing = record { tracks = old.nothing.tracks; facts = old.nothing.facts; others = old.nothing.others };
    }
