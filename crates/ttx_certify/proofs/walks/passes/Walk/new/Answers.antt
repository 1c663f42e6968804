use Rattle.std.proofs.Common.{◌-◌, [], length, map, refl, sym, ap, subst, arith}
use Rattle.std.proofs.lemmas.List.{length-map}
use Rattle.std.proofs.lemmas.Option.{slice_get_within}
use Rattle.ttx_page.specs.Views.{page_of}
use Rattle.ttx_page.specs.Streams.{repeated}
use Rattle.ttx_certificate.specs.Certificates.{certificate_of}
use Rattle.ttx_witness.specs.sent.Collected.{seen_by, IsForeign}
use Rattle.ttx_witness.specs.faults.OtherSubpages.{place, HeadsOtherAt}
use Rattle.ttx_witness.specs.sent.ItemTransmissions.{owner_scan, sent_scan}
use Rattle.ttx_witness.proofs.SentItems.{none_at}
use Rattle.ttx_witness.proofs.FirstFaults.{first_none}
use Rattle.ttx_certify.proofs.walk_lemmas.BeforeFirstSlot.{nothing_noted, nothing_tracked}
use Rattle.ttx_certify.proofs.walks.passes.Walk.new.Goals as goal

pub returns-clause-stands : goal.returns-clause-stands
unfolding owner_scan sent_scan
returns-clause-stands c =
    let pages = c.args.pages.now in
    record {
      ready = record { index = c.in_ok-index.ensures; subcodes = c.in_ok-subcodes.ensures.subcodes };
      few = omega arith;
      count = refl;
      owners = record {
        each = λ i id at is. ap (seen_by i) (none_at (id.mag - 1));
        apart = λ m i id lt at d. subst (IsForeign i) (sym (none_at m)) tt;
      };
      nothing = record {
        tracks = λ i p item at it.
            let lt = slice_get_within (map page_of pages) i p at in
            let l = length-map pages page_of in
            let count = c.in_ok-tracks.ensures.count in
            nothing_tracked (certificate_of c.args.certificate.now) p item it c.in_ok-tracks.tracks.each.items c.in_ok-tracks.ensures.nothing i
            (omega arith);
        facts = λ i p at.
            let lt = slice_get_within (map page_of pages) i p at in
            let l = length-map pages page_of in
            nothing_noted (certificate_of c.args.certificate.now) p (repeated []) c.in_ok-facts.facts.items
            (length pages) i c.in_ok-facts.ensures (omega arith);
        others = λ mag number low high small. first_none (HeadsOtherAt c.in_ok-subcodes.subcodes.items (repeated []) mag number)
            c.in_ok-first.first.items c.in_ok-first.ensures (place mag number);
      };
    }
