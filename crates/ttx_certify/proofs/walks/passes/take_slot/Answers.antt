use Rattle.std.proofs.Common.{rules, ◌≡◌, ◌++◌, ◌∷◌, [], length, get_or, None, sym, subst}
use Rattle.ttx_page.specs.Streams.{repeated}
use Rattle.ttx_witness.specs.Coverage.{Certificate, IsCertificate}
use Rattle.ttx_witness.specs.sent.Collected.{owner_for}
use Rattle.ttx_witness.specs.faults.OtherSubpages.{place, AreAllSubcodes, HeadsOtherAt, TellsBelow}
use Rattle.ttx_witness.proofs.SentItems.{ids_are, id_of_page}
use Rattle.ttx_certify.specs.walks.PackedTracks.{IsTrackedAt}
use Rattle.ttx_certify.specs.walks.Passing.{ids, walk_pages, walk_certificate}
use Rattle.ttx_certify.proofs.walk_lemmas.GrowingLists.{owner_grown, others_more}
use Rattle.ttx_certify.proofs.walk_lemmas.AfterOneSlot.{grown, facts_more}
use Rattle.ttx_certify.proofs.walks.passes.take_slot.Goals as goal

pub returns-clause-ready : goal.returns-clause-ready
returns-clause-ready c = λ ready.
    let walk = c.args.walk.now in
    record {
      index = ready.index;
      subcodes = subst (λ v. AreAllSubcodes (walk_pages walk) (length walk.pages.now) v.items)
          (sym c.note_other_header.ensures.subcodes) ready.subcodes;
    }

pub returns-clause-taken : goal.returns-clause-taken
returns-clause-taken c = λ entry y ready count seen kept.
    let walk = c.args.walk.now in
    let z = c.args.slot.now in
    let w : Certificate = walk_certificate walk in
    let is : IsCertificate w = (c.certificates_keep_their_rules.ensures walk.certificate.now).1 in
    let end : walk.count ≡ length y = count in
    let read = c.indexed_header-header.ensures (ids walk) ready.index in (
      record {
        each = λ i id at is_id. owner_grown y z id (entry id) (owner_for walk.owners i id) (owner_for c.note_owner.new.owners i id) _
            (search (rules, end)) (seen.each i id at is_id)
            (c.note_owner.ensures.after (ids walk) z read i id at is_id);
        apart = c.note_owner.ensures.apart (ids walk) z read seen.apart;
      },
      record {
        tracks = λ i p item at it.
            let at_id = id_of_page walk.pages.now i p at in
            subst (λ ts. IsTrackedAt w p item ts i c.note.new.self.each.items)
            (grown w is p i c.sent_in_slot-sent.result y z (entry p.id) (owner_for walk.owners i p.id) _ (search (rules, end))
            (seen.each i p.id at_id (ids_are c.pages_keep_their_rules.ensures walk.pages.now i p.id at_id))
            c.lines-lines.result c.lines-lines.ensures
            (λ item it. c.sent_in_slot-sent.ensures.sent (ids walk) read seen.apart i p.id item at_id it) item it)
            (c.note.ensures i p item _ at it (kept.tracks i p item at it));
        facts = λ i p at.
            let h = kept.facts i p at in
            let t = c.note_sent.ensures.noted i p h.value at h.here in
            let at_id = id_of_page walk.pages.now i p at in
            record {
              value = t.value;
              here = t.here;
              is = facts_more w is p i c.sent_in_slot-sent.result y z (entry p.id) (owner_for walk.owners i p.id) _
                  (search (rules, end)) (seen.each i p.id at_id
                  (ids_are c.pages_keep_their_rules.ensures walk.pages.now i p.id at_id))
                  c.lines-lines.result c.lines-lines.ensures
                  (λ item it. c.sent_in_slot-sent.ensures.sent (ids walk) read seen.apart i p.id item at_id it)
                  c.limit-limit.result c.limit-limit.ensures walk.count end h.value t.value h.is t.is;
            };
        others = λ mag number low high small.
            subst (λ v. TellsBelow (HeadsOtherAt v.items (repeated (y ++ z ∷ [])) mag number) (length (y ++ z ∷ []))
            (get_or c.note_other_header.new.others.first.items (place mag number) None))
            (sym c.note_other_header.ensures.subcodes)
            (others_more walk.others.subcodes.items mag number y z _ _ walk.count end
            (c.note_other_header.ensures.noted (ids walk) z read mag number low high small) (kept.others mag number low high small));
      },
    )
