use Rattle.std.proofs.Common.{◌++◌, ◌∷◌, [], drop, Ok, ap, ◌∙◌, subst, if◌then◌else◌}
use Rattle.std.proofs.lemmas.List.{drop-append-le}
use Rattle.ttx_cycle.specs.Counters.{inner_of}
use Rattle.ttx_files.specs.Feeds.{AnswersSlot}
use Rattle.ttx_monitor.proofs.WaitingSlots.{one_more}
use Rattle.ttx_monitor.proofs.ahead.Ahead.read_one.Goals as goal

pub returns-else-is_err-clause-left : goal.returns-else-is_err-clause-left
returns-else-is_err-clause-left g c =
    let a = c.args.self.now in
    let old = a.slots.items in
    let slot = c.next_slot.new.slot in
    let rem = g.R.Read.remaining (inner_of c.args.feed.now) in
    let rem' = g.R.Read.remaining (inner_of c.next_slot.new.feed) in
    let is = c.push.ensures.items ∙ ap (λ b. if b then old ++ slot ∷ [] else old) c.if-is_err.ensures.negation in
    let t = subst (λ n. AnswersSlot rem rem' slot (Ok n)) c.in-Slot.is c.in_ok-next_slot.ensures.bytes in
    one_more a _ rem rem' slot c.requires c.requires (ap (drop a.at) is ∙ drop-append-le a.at old (slot ∷ []) a.inside) t.0 t.1
