use Rattle.std.proofs.Common.{All, length, ◌∙◌, ap, subst}
use Rattle.ttx_packet.specs.Slots.{IsSlot}
use Rattle.ttx_cycle.specs.Counters.{inner_of}
use Rattle.ttx_cycle.specs.Cycles.{slots_of}
use Rattle.ttx_cycle.specs.Files.{file_of}
use Rattle.ttx_files.specs.Feeds.{IsReadHead}
use Rattle.ttx_recognition.specs.Recognition.{judged, IsRecognised}
use Rattle.ttx_monitor.specs.FeedVerdicts.{StartsAt}
use Rattle.ttx_monitor.proofs.HeardFeeds.{first_period, first_left, begins, if_both}
use Rattle.ttx_monitor.proofs.begun_feed.open.Goals as goal

pub returns-clause-bytes : goal.returns-clause-bytes
returns-clause-bytes g c =
    let cycle = slots_of c.args.cycle.now in
    let head = c.in_ok-head.head in
    let start = c.start_in-start.result in
    let old = g.R.Read.remaining (inner_of c.args.feed.now) in
    let mid = g.R.Read.remaining (inner_of c.read_head.new.feed) in
    let each = subst (All IsSlot) c.as_slice.ensures.value c.are_slots.ensures in
    let read = subst (λ xs. IsReadHead (length xs) old mid head) c.slots.ensures.slots c.in_ok-head.ensures.bytes in
    let period = first_period cycle old mid head.slots.items head.end each read in
    let left = first_left (length cycle) old mid head.slots.items head.end each read c.new.result c.new.ensures.waiting c.new.ensures.end in
    let starts = subst (λ xs. StartsAt cycle xs c.args.named start) c.as_slice-2.ensures.value c.start_in-start.ensures in
    if_both _ _ _ old (λ bytes p l. record {
      found = (
        head.slots.items,
        p,
        subst (λ b. IsRecognised (judged b) c.recognise-found.result) (c.as_flattened.ensures.value ∙ ap file_of c.as_slice-3.ensures.value)
            c.recognise-found.ensures,
      );
      begins = begins cycle head.slots.items c.args.named start bytes starts p;
      left = l;
    })
    period left
