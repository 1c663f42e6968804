-- The choices that a receiver with a script takes while slots pass.
use Rattle.std.proofs.Common.{◌≡◌, ℕ, suc, ◌+◌, Bool, ◌∷◌, ◌++◌, [], List, length, refl, sym, ap, ◌∙◌, subst, arith, if◌then◌else◌, pos, ◌+ℤ◌}
use Rattle.std.proofs.lemmas.List.{append_assoc, append-nil}
use Rattle.ttx_cycle.specs.Files.{IsCycle}
use Rattle.ttx_page.specs.Laws.{EachSlotTurns}
use Rattle.ttx_page.specs.Memories.{Memory}
use Rattle.ttx_page.specs.Pages.{Page}
use Rattle.ttx_page.specs.Receivers.{next_choice, later_choices}
use Rattle.ttx_page.specs.Streams.{Stream, repeated}
use Rattle.ttx_receiver.specs.Tuning.{Script, script_step, script_at, tuned_at, chooses}
use Rattle.std.specs.Prelude.{IsPermutation, slice_get, Some, map}
use Rattle.ttx_counter.specs.Counters.{CounterRun, IsCounterRun, selection_for}
use Rattle.ttx_counter.specs.Hearing.{IsHitBy, script_after, IsHeard}
use Rattle.ttx_counter.specs.Keys.{hit_key}
use Rattle.ttx_counter.specs.Following.{Taken, takes, choice_at, taken_at, taken_from, IsHeardTaking, IsLeftTaking, IsFollowed}
use Rattle.ttx_counter.specs.Replaying.{IsLeft}
use Rattle.ttx_counter.proofs.ReceivedSlots.{heard_none, heard_more}
use Rattle.ttx_counter.proofs.ReplayedMemory.{left, replayed, same_received}

taken_more : (r : Script) (n : ℕ) (received : List (List ℕ)) (slot : List ℕ) →
    taken_from r n (received ++ slot ∷ []) ≡ taken_from r n received ++ taken_at (script_after r received) (n + length received) slot
unfolding taken_from script_after
taken_more r n [] slot = append-nil (taken_at r n slot) ∙ ap (λ k. taken_at r k slot) (omega arith)
taken_more r n (x ∷ received) slot =
    ap (λ z. taken_at r n x ++ z) (taken_more (script_step r x) (suc n) received slot)
    ∙ sym (append_assoc (taken_at r n x) (taken_from (script_step r x) (suc n) received)
    (taken_at (script_after (script_step r x) received) (suc n + length received) slot))
    ∙ ap (λ k. (taken_at r n x ++ taken_from (script_step r x) (suc n) received) ++ taken_at (script_after (script_step r x) received) k slot)
    (omega arith)

pub none_taken : (s : Stream) (start : ℕ) (keys : List ℕ) (r : Script) (taken : List Taken) → taken ≡ [] → IsHeardTaking s start 0 keys r r taken
unfolding taken_from heard_none
none_taken s start keys r taken none = record { heard = heard_none s start keys r; taken_is = none }

-- the script that is left is what the receiver has left
pub left_after : (now new : Script) (slot : List ℕ) (choices later : List Bool) (has : Bool) → choices ≡ now.choices →
    has ≡ chooses now.tuned slot → later ≡ later_choices has choices → new ≡ script_step now slot → later ≡ new.choices
left_after now new slot choices later has is has_is later_is step =
    later_is ∙ ap (λ b. later_choices b choices) has_is ∙ ap (later_choices (chooses now.tuned slot)) is ∙ sym (ap (λ r. r.choices) step)

pub more_taken : (s : Stream) (start n : ℕ) (keys : List ℕ) (old now new : Script) (slot : List ℕ) (choices : List Bool) (has chosen : Bool)
    (choice : Taken) (taken more : List Taken) → IsHitBy keys n (s (pos start +ℤ pos n)) slot → new ≡ script_step now slot →
    choices ≡ now.choices → has ≡ chooses now.tuned slot → chosen ≡ next_choice has choices → choice ≡ choice_at now n →
    more ≡ taken ++ (if chosen then choice ∷ [] else []) → IsHeardTaking s start n keys old now taken →
    IsHeardTaking s start (n + 1) keys old new more
unfolding heard_more
more_taken s start n keys old now new slot choices has chosen choice taken more hit step is has_is takes_is choice_is more_is h =
    let rs = h.heard.received in
    let at : n ≡ 0 + length rs = let q = h.heard.count in omega arith in
    let t : chosen ≡ next_choice (chooses now.tuned slot) now.choices =
    takes_is ∙ ap (λ b. next_choice b choices) has_is ∙ ap (next_choice (chooses now.tuned slot)) is in
    let here : (if chosen then choice ∷ [] else []) ≡ taken_at now n slot =
    ap (λ b. if b then choice ∷ [] else []) t
    ∙ ap (λ x. if next_choice (chooses now.tuned slot) now.choices then x ∷ [] else []) choice_is in
    record {
      heard = heard_more s start n keys old now new slot hit step h.heard;
      taken_is = more_is ∙ ap (λ z. taken ++ z) here ∙ ap (λ z. z ++ taken_at now n slot) h.taken_is
          ∙ ap (λ r. taken_from old 0 rs ++ taken_at r n slot) h.heard.reached
          ∙ ap (λ k. taken_from old 0 rs ++ taken_at (script_after old rs) k slot) at ∙ sym (taken_more old 0 rs slot);
    }

pub left_taking : (s : Stream) (keys : List ℕ) (p : Page) (c : CounterRun) (m : Memory) (taken : List Taken) (old new : Script) →
    IsHeardTaking s c.start c.slots keys old new taken →
    old ≡ script_at (tuned_at (selection_for c.any_sub p.id) c.lines c.former) c.choices → m ≡ new.tuned.memory →
    IsLeftTaking s keys p c m taken
unfolding left
left_taking s keys p c m taken old new h is e = record {
  left = left s keys p c m old new h.heard is e;
  taken_is = h.taken_is ∙ ap (λ r. taken_from r 0 h.heard.received) is;
}

module _ (cycle : List (List ℕ)) (pages : List Page) (c : CounterRun) (keys : List ℕ) (is : IsCounterRun cycle pages c)
    (same : IsPermutation (map hit_key c.hits) keys) where
  pub followed : EachSlotTurns → IsCycle cycle → (p : Page) (m : Memory) (taken : List Taken) → slice_get pages c.page ≡ Some p →
      IsLeftTaking (repeated cycle) keys p c m taken → IsFollowed cycle pages c m taken
  unfolding replayed
  followed turns is_cycle p m taken here l =
      let e = same_received cycle pages c keys is same turns is_cycle p m here l.left in
      record {
        replayed = replayed cycle pages c keys is same turns is_cycle p m here l.left;
        taken_is = l.taken_is
            ∙ ap (λ (q : Page). taken_from (script_at (tuned_at (selection_for c.any_sub q.id) c.lines c.former) c.choices) 0 l.left.received) e.0
            ∙ ap (taken_from (script_at (tuned_at (selection_for c.any_sub is.page.id) c.lines c.former) c.choices) 0) e.1;
      }
