-- The memory after a counter-run.
use Rattle.std.proofs.Common.{◌≡◌, ℕ, ◌<◌, pos, ◌+ℤ◌, List, [], length, get_or, map, Some, ap, ◌∙◌}
use Rattle.std.specs.Prelude.{IsPermutation, slice_get}
use Rattle.ttx_cycle.specs.Files.{IsCycle}
use Rattle.ttx_page.specs.Pages.{Page}
use Rattle.ttx_page.specs.Memories.{Memory}
use Rattle.ttx_page.specs.Laws.{EachSlotTurns}
use Rattle.ttx_page.specs.Receivers.{scripted}
use Rattle.ttx_page.specs.Streams.{Stream, repeated}
use Rattle.ttx_page.specs.declared.class.Class.TheVariants.{Any}
use Rattle.ttx_receiver.specs.Tuning.{Script, script_at, tuned_at}
use Rattle.ttx_counter.specs.Counters.{CounterRun, IsCounterRun, selection_for}
use Rattle.ttx_counter.specs.Hearing.{IsHitBy, IsHeard}
use Rattle.ttx_counter.specs.Keys.{hit_key, key_at, IsKey, AreHitOnce}
use Rattle.ttx_counter.specs.Replaying.{IsLeft, IsReplayed}
use Rattle.ttx_counter.proofs.SortedHits.{keys_are, apart_to, hits_to}
use Rattle.ttx_counter.proofs.CheckIsExact.{slots_are, same_page}
use Rattle.ttx_counter.proofs.HitsKeepTheRule as E
use Rattle.ttx_counter.proofs.ReceivedSlots.{script_memory}

unfoldable pub left : (s : Stream) (keys : List ℕ) (p : Page) (c : CounterRun) (m : Memory) (old new : Script) → IsHeard s c.start c.slots keys old new →
    old ≡ script_at (tuned_at (selection_for c.any_sub p.id) c.lines c.former) c.choices → m ≡ new.tuned.memory → IsLeft s keys p c m
left s keys p c m old new h is e = record {
  received = h.received;
  count = h.count;
  each = h.each;
  memory = e ∙ ap (λ r. r.tuned.memory) h.reached ∙ script_memory old h.received
      ∙ ap (λ (o : Script). scripted Any o.tuned.lines o.tuned.selection o.choices o.tuned.memory h.received) is;
}

module _ (cycle : List (List ℕ)) (pages : List Page) (c : CounterRun) (keys : List ℕ) (is : IsCounterRun cycle pages c)
    (same : IsPermutation (map hit_key c.hits) keys) where
  pub apart : AreHitOnce keys
  apart = apart_to (repeated cycle) c.start c.slots c.hits keys is.hits.each same is.hits.once

  pub each : (i : ℕ) → i < length keys → IsKey (key_at keys i)
  each = keys_are (repeated cycle) c.start c.slots c.hits keys is.hits.each same

  heard : (i : ℕ) → i < c.slots → IsHitBy keys i (repeated cycle (pos c.start +ℤ pos i)) (get_or is.received i [])
  heard i lt = hits_to (repeated cycle) c.start c.slots c.hits keys is.hits.each same i _ _ (is.with_hits.each i lt)

  pub same_received : EachSlotTurns → IsCycle cycle → (p : Page) (m : Memory) → slice_get pages c.page ≡ Some p →
      (l : IsLeft (repeated cycle) keys p c m) → (p ≡ is.page) × (l.received ≡ is.received)
  same_received turns is_cycle p m here l = (
    same_page pages c.page p is.page here is.here,
    E.only_list (repeated cycle) (slots_are turns cycle is_cycle) p.id c.start c.slots c.repeat keys each l.received is.received
        l.count is.with_hits.count l.each heard,
  )

  unfoldable pub replayed : EachSlotTurns → IsCycle cycle → (p : Page) (m : Memory) → slice_get pages c.page ≡ Some p →
      IsLeft (repeated cycle) keys p c m → IsReplayed cycle pages c m
  replayed turns is_cycle p m here l =
      let e = same_received turns is_cycle p m here l in
      record {
        is = is;
        memory = l.memory ∙ ap (λ x. scripted Any c.lines (selection_for c.any_sub x.id) c.choices c.former l.received) e.0
            ∙ ap (scripted Any c.lines (selection_for c.any_sub is.page.id) c.choices c.former) e.1;
      }
