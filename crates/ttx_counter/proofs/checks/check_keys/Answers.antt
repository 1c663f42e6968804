use Rattle.std.proofs.Common.{◌≡◌, ◌↔◌, true, refl}
use Rattle.std.proofs.lemmas.Bool.{both_ways}
use Rattle.ttx_page.specs.Streams.{repeated}
use Rattle.ttx_page.specs.Views.{page_of}
use Rattle.ttx_cycle.specs.Cycles.{slots_of, slots_of-IsCycle}
use Rattle.ttx_counter.specs.Counters.{counter_run_of}
use Rattle.ttx_counter.specs.Checking.{IsJudgedWithin, IsRefuting}
use Rattle.ttx_counter.proofs.SortedHits.{keys_are}
use Rattle.ttx_counter.proofs.CheckIsExact.{refuting_apart, decided_within, on_ok}
use Rattle.ttx_counter.proofs.checks.check_keys.Goals as goal

pub returns-then-not-are_apart : goal.returns-then-not-are_apart
returns-then-not-are_apart c = (
  (λ f. absurd (both_ways _ refl f)),
  (λ r. absurd (both_ways _ c.if-not-are_apart.true
      (c.are_apart.ensures.1 (refuting_apart c.each_byte_is_near_itself.ensures c.each_slot_turns.ensures
      (slots_of c.args.cycle.now) (slots_of-IsCycle c.args.cycle.now) (page_of c.args.page.now)
      (counter_run_of c.args.counter.now) c.args.keys.now c.requires.all c.requires.same r)))),
)

pub ends_wrong-requires-clause-keys : goal.ends_wrong-requires-clause-keys
ends_wrong-requires-clause-keys c = keys_are (repeated (slots_of c.args.cycle.now)) _ _ (counter_run_of c.args.counter.now).hits
    c.args.keys.now c.requires.all c.requires.same

pub returns : goal.returns
returns c =
    let cycle = slots_of c.args.cycle.now in
    let p = page_of c.args.page.now in
    let k = counter_run_of c.args.counter.now in
    on_ok (IsJudgedWithin (repeated cycle) c.args.keys.now p k) (λ b. (b ≡ true) ↔ IsRefuting cycle p k) c.ends_wrong.result
    (λ b j. decided_within c.each_byte_is_near_itself.ensures c.each_slot_turns.ensures cycle
    (slots_of-IsCycle c.args.cycle.now) p k c.args.keys.now c.requires.all c.requires.same b
    (c.are_apart.ensures.0 c.if-not-are_apart.false) j)
    c.ends_wrong.ensures
