use Rattle.std.proofs.Common.{map, sym, subst, arith}
use Rattle.std.proofs.lemmas.List.{length-map}
use Rattle.std.proofs.lemmas.Option.{slice_get_within}
use Rattle.ttx_page.specs.Views.{page_of, memory_of}
use Rattle.ttx_cycle.specs.Cycles.{slots_of, slots_of-IsCycle}
use Rattle.std.specs.Prelude.{IsPermutation}
use Rattle.std.proofs.lemmas.Bool.{both_ways}
use Rattle.ttx_counter.specs.Counters.{counter_run_of}
use Rattle.ttx_counter.specs.Keys.{hit_key}
use Rattle.ttx_counter.proofs.ReplayedMemory.{apart, each, replayed}
use Rattle.ttx_counter.proofs.replays.replay.Goals as goal

pub returns-then-not-is : goal.returns-then-not-is
returns-then-not-is c = λ is. both_ways _ c.if-not-is.true (c.in_ok-is.ensures.1 is)

pub page_at-page-requires : goal.page_at-page-requires
page_at-page-requires c =
    let is = c.in_ok-is.ensures.0 c.if-not-is.false in
    let l = length-map c.args.pages.now page_of in
    let lt = slice_get_within (map page_of c.args.pages.now) c.args.counter.now.page is.page is.here in
    omega arith

pub memory_after-requires-clause-apart : goal.memory_after-requires-clause-apart
memory_after-requires-clause-apart c =
    apart (slots_of c.args.cycle.now) (map page_of c.args.pages.now) (counter_run_of c.args.counter.now) c.deref-2.result.now
    (c.in_ok-is.ensures.0 c.if-not-is.false)
    (subst (λ ks. IsPermutation (map hit_key c.args.counter.now.hits.items) ks) (sym c.deref-2.ensures.value)
    (subst (λ hs. IsPermutation (map hit_key hs) c.in_ok-keys.keys.items) c.deref.ensures.value c.in_ok-keys.ensures.same))

pub memory_after-requires-clause-keys : goal.memory_after-requires-clause-keys
memory_after-requires-clause-keys c =
    each (slots_of c.args.cycle.now) (map page_of c.args.pages.now) (counter_run_of c.args.counter.now) c.deref-2.result.now
    (c.in_ok-is.ensures.0 c.if-not-is.false)
    (subst (λ ks. IsPermutation (map hit_key c.args.counter.now.hits.items) ks) (sym c.deref-2.ensures.value)
    (subst (λ hs. IsPermutation (map hit_key hs) c.in_ok-keys.keys.items) c.deref.ensures.value c.in_ok-keys.ensures.same))

pub returns : goal.returns
returns c =
    replayed (slots_of c.args.cycle.now) (map page_of c.args.pages.now) (counter_run_of c.args.counter.now) c.deref-2.result.now
    (c.in_ok-is.ensures.0 c.if-not-is.false)
    (subst (λ ks. IsPermutation (map hit_key c.args.counter.now.hits.items) ks) (sym c.deref-2.ensures.value)
    (subst (λ hs. IsPermutation (map hit_key hs) c.in_ok-keys.keys.items) c.deref.ensures.value c.in_ok-keys.ensures.same))
    c.each_slot_turns.ensures (slots_of-IsCycle c.args.cycle.now) (page_of c.page_at-page.result.now)
    (memory_of c.memory_after.result) c.page_at-page.ensures c.memory_after.ensures
