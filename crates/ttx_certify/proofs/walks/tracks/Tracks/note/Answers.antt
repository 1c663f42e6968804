use Rattle.std.proofs.Common.{◌≡◌, ◌<◌, ◌++◌, length, map, set, slice_get, Some, refl, sym, ap, ◌∙◌, subst, arith}
use Rattle.std.proofs.lemmas.List.{length-map}
use Rattle.std.proofs.lemmas.Option.{slice_get_read, slice_get_within}
use Rattle.ttx_page.specs.Streams.{run_length}
use Rattle.ttx_page.specs.Views.{page_of}
use Rattle.ttx_certificate.specs.Certificates.{certificate_of}
use Rattle.ttx_witness.specs.sent.OneSlot.{sent_of}
use Rattle.ttx_witness.proofs.FirstFaults.{page_here, placed}
use Rattle.ttx_witness.proofs.SentItems.{item_one}
use Rattle.ttx_certify.specs.walks.PackedTracks.{IsTrackedAt}
use Rattle.ttx_certify.proofs.walk_lemmas.NamedSlots.{named_slots}
use Rattle.ttx_certify.proofs.walk_lemmas.ChangedTracks.{item_below, silent, tracked_more, tracked_nothing, tracked_page}
use Rattle.ttx_certify.proofs.walks.tracks.Tracks.note.Goals as goal

pub returns-in_default : goal.returns-in_default
returns-in_default c = λ i p item ts at it h.
    tracked_nothing (certificate_of c.args.certificate.now) i p item ts c.args.self.now.each.items (sent_of i item c.args.sent)
    (ap (sent_of i item) c.in_default.is) h

pub returns-then-index-pages : goal.returns-then-index-pages
returns-then-index-pages c = λ i p item ts at it h.
    let s = c.in-Some.sent in
    let pages = c.args.pages.now in
    let lt = slice_get_within (map page_of pages) i p at in
    let l = length-map pages page_of in
    tracked_nothing (certificate_of c.args.certificate.now) i p item ts c.args.self.now.each.items (sent_of i item c.args.sent)
    (ap (sent_of i item) c.in-Some.is ∙ silent s i item (λ n q. omega (arith, c.if-index-pages.true))) h

pub returns-then-index-len : goal.returns-then-index-len
returns-then-index-len c = λ i p item ts at it h.
    let s = c.in-Some.sent in
    let lt = slice_get_within c.args.self.now.each.items i h.value h.here in
    tracked_nothing (certificate_of c.args.certificate.now) i p item ts c.args.self.now.each.items (sent_of i item c.args.sent)
    (ap (sent_of i item) c.in-Some.is ∙ silent s i item (λ n q. omega (arith, c.if-index-len.true, c.len.ensures))) h

pub returns-then-sent-ge26 : goal.returns-then-sent-ge26
returns-then-sent-ge26 c = λ i p item ts at it h.
    let s = c.in-Some.sent in
    let low = item_below item it in
    tracked_nothing (certificate_of c.args.certificate.now) i p item ts c.args.self.now.each.items (sent_of i item c.args.sent)
    (ap (sent_of i item) c.in-Some.is ∙ silent s i item (λ n q. omega (arith, c.if-sent-ge26.true))) h

pub returns : goal.returns
returns c = λ i p item ts at it h.
    let s = c.in-Some.sent in
    let w = certificate_of c.args.certificate.now in
    let pages = c.args.pages.now in
    let all = c.args.self.now.each.items in
    let page = c.index-pages-index.result in
    let q = page_of page in
    let own = c.item_of-item.result in
    let old = c.index_mut.result.now in
    let new = c.take_of_page.new.page in
    let repeat = c.repeat_of-repeat.result in
    let lim = c.limit.result in
    let starts = c.starts_near-near.result.1.now in
    let lt : s.page < length all = omega (arith, c.if-index-len.false, c.len.ensures) in
    let at_q : slice_get (map page_of pages) s.page ≡ Some q = page_here pages s.page page c.if-index-pages.false c.index-pages-index.is in
    subst (λ o. IsTrackedAt w p item (ts ++ sent_of i item o) i (set all s.page new)) (sym c.in-Some.is)
    (tracked_page w i p item ts all s old new (slice_get_read all _ s.page old refl lt c.index_mut.ensures.value) lt c.take_of_page.ensures.others
    (λ x at_x page_is number_is.
    let k = c.take_of_page.ensures.taken x at_x in
    let same : own ≡ item = item_one own item c.item_of-item.ensures.item it (c.item_of-item.ensures.number ∙ sym number_is) in
    let same_page : q ≡ p = placed _ q p at_q (ap (slice_get (map page_of pages)) page_is ∙ at) in
    let length_is : repeat ≡ run_length w.repeat item = c.repeat_of-repeat.ensures.repeat ∙ ap (run_length w.repeat) same in
    let named : starts ≡ w.starts p.id item = c.starts_near-near.ensures ∙ ap (λ id. w.starts id own) c.id.ensures
    ∙ ap (λ r. w.starts r.id own) same_page ∙ ap (w.starts p.id) same in
    record {
      value = k.value;
      here = k.here;
      is = tracked_more w p item repeat lim starts s.transmission x k.value length_is c.limit.ensures named
          (named_slots c.certificates_keep_their_rules.ensures c.args.certificate.now p.id item) k.is ts;
    }) h)
