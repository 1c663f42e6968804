use Rattle.std.proofs.Common.{◌≡◌, ℕ, slice_get, Some, ◌-◌, pos, ◌-ℤ◌, [], length, get_or, false, true, refl, None, sym, ap, ◌∙◌, subst, arith}
use Rattle.ttx_header.specs.Ids.{Id, IsId}
use Rattle.ttx_page.specs.Streams.{repeated}
use Rattle.ttx_witness.specs.sent.ItemTransmissions.{owner_scan, owner_moved, sent_scan, entry_owner}
use Rattle.ttx_certify.specs.walks.Passing.{ids}
use Rattle.ttx_certify.proofs.walk_lemmas.OwnersBetween.{FromZero, scan_from_zero, moved_seen, facts_none}
use Rattle.ttx_certify.proofs.walks.passes.Walk.begin_second.Goals as goal

pub returns-clause-stands : goal.returns-clause-stands
unfolding sent_scan owner_scan
returns-clause-stands c = λ x old.
    let walk = c.args.self in
    let entry = λ (i : ℕ) (id : Id) (at : slice_get (ids walk) i ≡ Some id) (is : IsId id).
    (let e = old.owners.each i id at is in
    let h = is.mag_from in let g = is.mag_to in
    moved_seen i walk.count (get_or walk.owners (id.mag - 1) None) (get_or c.all_moved-entry.result (id.mag - 1) None)
    (omega (arith, old.few, old.count))
    (c.all_moved-entry.ensures.moved (id.mag - 1) (omega arith)) (subst FromZero (sym e) (scan_from_zero id (repeated x) (length x)))
    ∙ ap (owner_moved (pos 0 -ℤ pos walk.count)) e ∙ ap (λ n. owner_moved (pos 0 -ℤ pos n) (owner_scan id (repeated x) None (length x))) old.count) in
    record {
      ready = record { index = old.ready.index; subcodes = old.ready.subcodes };
      few = old.few;
      entry = entry;
      over = ((λ e. absurd (let h : false ≡ true = e in cc)), (λ lt. absurd (omega arith)));
      passed = λ few. record {
        count = refl;
        owners = record { each = entry; apart = λ m i id lt at d. c.all_moved-entry.ensures.foreign m i lt (old.owners.apart m i id lt at d) };
        kept = record {
          tracks = old.nothing.tracks;
          facts = λ i p at. let f = old.nothing.facts i p at
              in record {
                value = f.value;
                here = f.here;
                is = facts_none _ p (repeated []) None (entry_owner x p.id) f.value f.is;
              };
          others = old.nothing.others;
        };
        slots = λ k d lt. absurd (omega arith);
        bad = λ j lt. absurd (omega arith);
      };
    }
