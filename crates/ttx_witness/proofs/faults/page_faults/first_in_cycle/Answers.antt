use Rattle.std.proofs.Common.{◌≡◌, ◌+◌, [], pos, slice_index_or, length, refl, sym, ap, ◌∙◌, subst, arith}
use Rattle.ttx_page.specs.Packets.{packet_of}
use Rattle.ttx_page.specs.Streams.{repeated}
use Rattle.ttx_page.specs.Views.{page_of}
use Rattle.ttx_witness.specs.sent.ItemTransmissions.{owner_scan, entry_owner}
use Rattle.ttx_witness.specs.faults.Comparing.{is_mine, mine_after, sends, is_number_of}
use Rattle.ttx_witness.specs.faults.FirstSlots.{IsAfter, AreFirstTaken, SentBelow}
use Rattle.ttx_witness.proofs.lemmas.faults.FirstSlots.{taken_more, none_taken, sent_more}
use Rattle.ttx_witness.proofs.lemmas.faults.OverOnePeriod.{slot_is, mine_scan}
use Rattle.ttx_witness.proofs.faults.page_faults.first_in_cycle.Goals as goal

pub loop-j-init : goal.loop-j-init
unfolding owner_scan
loop-j-init c =
    let p = page_of c.args.page.now in let x = c.slots-slots.result.now in
    record {
      mine = c.requires ∙ ap (λ y. is_mine (entry_owner y p.id)) (sym c.slots-slots.ensures.slots);
      first = subst (AreFirstTaken p (repeated x) (SentBelow p.id (repeated x) (entry_owner x p.id) 0)) (sym c.none_yet-first.ensures)
          (none_taken p (repeated x) (SentBelow p.id (repeated x) (entry_owner x p.id) 0) (λ item j t. let lt = t.0 in absurd (omega arith)));
    }

pub loop-j-preserved : goal.loop-j-preserved
loop-j-preserved c =
    let p = page_of c.args.page.now in let x = c.slots-slots.result.now in let s = repeated x in let n = c.loop-j.j in
    let entry = entry_owner x p.id in
    let sent = c.item_sent-sent.result in
    let slot = slice_index_or x n [] in
    let here = slot_is x n c.loop-j-test.true in
    record {
      mine = c.mine_after-mine.ensures
          ∙ ap (λ page. mine_after page (packet_of slot) c.loop-j.mine) c.id-in-loop-j.ensures
          ∙ ap (λ y. mine_after p.id (packet_of y) c.loop-j.mine) (sym here)
          ∙ ap (λ m. mine_after p.id (packet_of (s (pos n))) m) c.loop-j.invariant.mine
          ∙ mine_scan p.id s entry n;
      first = taken_more p s s (SentBelow p.id s entry n) (SentBelow p.id s entry (n + 1)) (λ item. is_number_of item sent) n
          (sent_more p.id s entry n (n + 1) refl (λ item. is_number_of item sent)
          (λ item it. c.item_sent-sent.ensures item it
          ∙ ap (λ page. sends page item (packet_of slot) c.loop-j.mine) c.id.ensures
          ∙ ap (λ y. sends p.id item (packet_of y) c.loop-j.mine) (sym here)
          ∙ ap (sends p.id item (packet_of (s (pos n)))) c.loop-j.invariant.mine))
          (λ item i t. refl) c.loop-j.first c.note_sent.new.first
          (subst (λ y. IsAfter p (λ item. is_number_of item sent) y n c.loop-j.first c.note_sent.new.first) (sym here) c.note_sent.ensures)
          c.loop-j.invariant.first;
    }

pub returns : goal.returns
returns c =
    let p = page_of c.args.page.now in let x = c.slots-slots.result.now in
    let n : c.loop-j.j ≡ length x = omega (arith, c.loop-j-test.false, c.loop-j.auto.j-end) in
    subst (λ y. AreFirstTaken p (repeated y) (SentBelow p.id (repeated y) (entry_owner y p.id) (length y)) c.loop-j.first)
    c.slots-slots.ensures.slots
    (subst (λ k. AreFirstTaken p (repeated x) (SentBelow p.id (repeated x) (entry_owner x p.id) k) c.loop-j.first) n
    c.loop-j.invariant.first)
