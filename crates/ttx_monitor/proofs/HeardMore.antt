-- What a monitor makes of one more slot of a feed that has stayed within the rule.
use Rattle.std.proofs.Common.{◌≡◌, ℕ, ◌+◌, ◌-◌, ◌^◌, ◌<◌, ◌≤◌, List, [], ◌∷◌, ◌++◌, length, Option, Some, None, refl, sym, ap, ◌∙◌, subst, inl, inr, arith}
use Rattle.std.proofs.Common.{append_assoc}
use Rattle.std.proofs.lemmas.List.{length_push}
use Rattle.ttx_packet.specs.Laws.{RowsAreNumbered}
use Rattle.ttx_cycle.specs.Cycles.{slots_of-IsCycle}
use Rattle.ttx_page.specs.Laws.{EachSlotTurns, StreamsMove}
use Rattle.ttx_counter.specs.Streaks.{StreaksDecide}
use Rattle.ttx_cycle.specs.Files.{file_of}
use Rattle.ttx_monitor.specs.Watching.{Watched, IsWithin}
use Rattle.ttx_monitor.specs.Breaches.{IsHeard}
use Rattle.ttx_monitor.specs.Standing.{Stands}
use Rattle.ttx_monitor.specs.Waiting.{IsLeft}
use Rattle.ttx_monitor.specs.Events.{moved, since, IsShift}
use Rattle.ttx_monitor.specs.Stepping.{IsNext}
use Rattle.ttx_monitor.specs.Feeds.{IsWhole, IsBroken, IsSlipped, IsEnding, IsOver, HearsAll}
use Rattle.ttx_monitor.specs.declared.ahead.Ahead.{Ahead}
use Rattle.ttx_monitor.specs.declared.breach.Breach.{Breach}
use Rattle.ttx_monitor.specs.declared.event.Event.{Event}
use Rattle.ttx_monitor.specs.declared.feed_verdict.Heard.{Heard}
use Rattle.ttx_monitor.specs.declared.feed_verdict.Heard.TheVariants.{End, Broken, Slipped}
use Rattle.ttx_monitor.specs.declared.monitor.Monitor.{Monitor}
use Rattle.ttx_monitor.proofs.FirstState.{first_kept}
use Rattle.ttx_monitor.proofs.HeardFeeds.{file_more}
use Rattle.ttx_monitor.proofs.KeptIsWithin.{kept_within}

pub nothing_within : RowsAreNumbered → EachSlotTurns → StreamsMove → StreaksDecide → (w : Watched) (m : Monitor) → Stands m w [] → IsWithin w []
nothing_within numbers turns move decide w m st =
    let cyc : 0 < length w.cycle = subst (λ l. 0 < length l) st.cycle (slots_of-IsCycle m.cycle.now).some in
    kept_within numbers turns move decide w cyc st.some m.table.items st.table [] (first_kept w m.table.items st.some)

-- so many slots of a feed are heard, and within the rule
pub record HeardSo (w : Watched) (bytes : List ℕ) (m : Monitor) (a : Ahead) (remaining : Option (List ℕ)) (count : ℕ) : Type 0 where
  pub feed : List (List ℕ)
  pub rest : List ℕ
  pub size : length feed ≡ count
  pub same : bytes ≡ file_of feed ++ rest
  pub stands : Stands m w feed
  pub within : IsWithin w feed
  pub left : IsLeft a remaining rest

module _ (w : Watched) (bytes : List ℕ) (m : Monitor) (a : Ahead) (remaining : Option (List ℕ)) (count : ℕ)
    (h : HeardSo w bytes m a remaining count) where
  pub so_ended : (after : Monitor) (rest : ℕ) → rest < 42 → length h.rest ≡ rest → Stands after w h.feed → IsWhole w bytes after rest
  so_ended after rest few left stands = record {
    feed = h.feed;
    tail = h.rest;
    same = h.same;
    ended = inl (few, left);
    stands = stands;
    within = h.within;
  }

  pub so_long : (rest : ℕ) → 2 ^ 64 - 1 ≤ count → IsWhole w bytes m rest
  so_long rest long = record {
    feed = h.feed;
    tail = h.rest;
    same = h.same;
    ended = inr (let size = h.size in omega arith);
    stands = h.stands;
    within = h.within;
  }

  module _ (after : Monitor) (ahead : Ahead) (left : Option (List ℕ)) (e : Event) (next : IsNext w h.feed h.rest after ahead left e) where
    same_more : bytes ≡ (file_of h.feed ++ next.slot) ++ next.after
    same_more = h.same ∙ ap (λ l. file_of h.feed ++ l) next.same ∙ sym (append_assoc (file_of h.feed) next.slot next.after)

    in_place : e.shift ≡ None → IsHeard w h.feed next.slot e.breach
    in_place none = subst (λ s. IsHeard (moved w (length h.feed) s) (since h.feed s) next.slot e.breach) none next.event.breach

    shift_here : (shift : Option ℕ) → e.shift ≡ shift → IsShift w (length h.feed) (next.slot ++ next.after) next.slot shift
    shift_here shift is = subst (λ s. IsShift w (length h.feed) (next.slot ++ next.after) next.slot s) is
        (subst (λ b. IsShift w (length h.feed) b next.slot e.shift) next.same next.event.shift)

    pub so_more : e.shift ≡ None → e.breach ≡ None → HeardSo w bytes after ahead left (count + 1)
    so_more none fine = record {
      feed = h.feed ++ next.slot ∷ [];
      rest = next.after;
      size = length_push h.feed next.slot ∙ ap (λ n. n + 1) h.size;
      same = same_more ∙ ap (λ l. l ++ next.after) (file_more h.feed next.slot);
      stands = subst (λ s. Stands after (moved w (length h.feed) s) (since h.feed s ++ next.slot ∷ [])) none next.stands;
      within = (subst (λ b. IsHeard w h.feed next.slot b) fine (in_place none)).2 h.within;
      left = next.left;
    }

    pub so_broken : (breach : Breach) → e.shift ≡ None → e.breach ≡ Some breach → IsBroken w bytes count breach
    so_broken breach none is = record {
      feed = h.feed;
      received = next.slot;
      rest = next.after;
      same = same_more;
      is_slot = next.is_slot;
      within = h.within;
      in_place = shift_here None none;
      how = subst (λ b. IsHeard w h.feed next.slot b) is (in_place none);
      slot_is = sym h.size;
    }

    pub so_slipped : (by : ℕ) → e.shift ≡ Some by → IsSlipped w bytes count by
    so_slipped by is = record {
      feed = h.feed;
      received = next.slot;
      rest = next.after;
      same = same_more;
      is_slot = next.is_slot;
      within = h.within;
      how = shift_here (Some by) is;
      slot_is = sym h.size;
    }

    over : (shift : Option ℕ) → Stands after (moved w (length h.feed) shift) (since h.feed shift ++ next.slot ∷ []) → IsOver after w.cycle
    over None stands = (w, h.feed ++ next.slot ∷ [], stands, refl)
    over (Some by) stands = (moved w (length h.feed) (Some by), next.slot ∷ [], stands, refl)

    pub so_ending : (heard : Heard) → IsEnding count e heard → HearsAll w bytes after heard
    so_ending (End rest) is = absurd is
    so_ending (Broken slot breach) is = subst (λ n. IsBroken w bytes n breach) (sym is.0) (so_broken breach is.1 is.2)
    so_ending (Slipped slot by) is = (
      subst (λ n. IsSlipped w bytes n by) (sym is.0) (so_slipped by is.1),
      over e.shift next.stands,
    )

pub none_heard : RowsAreNumbered → EachSlotTurns → StreamsMove → StreaksDecide → (w : Watched) (bytes : List ℕ) (m : Monitor) (a : Ahead)
    (remaining : Option (List ℕ)) → Stands m w [] → IsLeft a remaining bytes → HeardSo w bytes m a remaining 0
none_heard numbers turns move decide w bytes m a remaining stands left = record {
  feed = [];
  rest = bytes;
  size = refl;
  same = refl;
  stands = stands;
  within = nothing_within numbers turns move decide w m stands;
  left = left;
}
