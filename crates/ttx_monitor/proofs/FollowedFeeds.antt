-- A feed that is followed by one slot more.
use Rattle.std.proofs.Common.{◌≡◌, ℕ, ◌+◌, ◌-◌, ◌^◌, ◌<◌, min, Bool, true, false, if◌then◌else◌, ◌||◌, ◌&&◌, not, List, [], ◌∷◌, ◌++◌, length, take, Option, Some, None, Err, refl, sym, ap, ◌∙◌, subst, arith}
use Rattle.std.proofs.Common.{append_assoc, append-nil}
use Rattle.std.specs.Option.{is_some}
use Rattle.std.specs.Io.KnownBytes.{Appends, Keeps}
use Rattle.std.proofs.KnownBytes.{Appends-nil, Appends-trans, Appends-kept}
use Rattle.std.proofs.lemmas.List.{length_push}
use Rattle.ttx_cycle.specs.Files.{file_of}
use Rattle.ttx_monitor.specs.Watching.{Watched, IsWithin}
use Rattle.ttx_monitor.specs.Breaches.{IsHeard}
use Rattle.ttx_monitor.specs.Standing.{Stands}
use Rattle.ttx_monitor.specs.Waiting.{IsLeft}
use Rattle.ttx_monitor.specs.Events.{moved, since, IsWalk}
use Rattle.ttx_monitor.specs.Feeds.{HearsAll}
use Rattle.ttx_monitor.specs.Stepping.{IsNext}
use Rattle.ttx_monitor.specs.Tallies.{nothing_yet, added, tally_of, is_bad, bad_of, is_last}
use Rattle.ttx_monitor.specs.Wordings.{Telling, event_text, told_text}
use Rattle.ttx_monitor.specs.Followed.{WritesEvent, CountsFollowed, IsEnd, IsFollowed, IsStopped, IsUnwritten, IsCutOff, Follows}
use Rattle.ttx_monitor.specs.declared.ahead.Ahead.{Ahead}
use Rattle.ttx_monitor.specs.declared.event.Event.{Event}
use Rattle.ttx_monitor.specs.declared.live_feed.Following.{Following}
use Rattle.ttx_monitor.specs.declared.live_feed.FollowFault.{FollowFault}
use Rattle.ttx_monitor.specs.declared.live_feed.FollowFault.TheVariants.{Feed, Write}
use Rattle.ttx_monitor.specs.declared.live_feed.Followed.{Followed}
use Rattle.ttx_files.specs.declared.faults.FeedFault.TheVariants.{Read, NoMemory}
use Rattle.ttx_monitor.specs.declared.monitor.Monitor.{Monitor}
use Rattle.ttx_monitor.specs.declared.tally.Tally.{Tally}
use Rattle.ttx_packet.specs.Laws.{RowsAreNumbered}
use Rattle.ttx_page.specs.Laws.{EachSlotTurns, StreamsMove}
use Rattle.ttx_counter.specs.Streaks.{StreaksDecide}
use Rattle.ttx_monitor.proofs.HeardMore.{HeardSo, nothing_within, so_ending}
use Rattle.ttx_monitor.proofs.HeardFeeds.{file_more}

tally_more : (t : Tally) (events : List Event) (e : Event) → tally_of t (events ++ e ∷ []) ≡ added (tally_of t events) e
tally_more t [] e = refl
tally_more t (f ∷ events) e = tally_more (added t f) events e

told_more : (g : Telling) (t : Tally) (events : List Event) (e : Event) →
    told_text g t (events ++ e ∷ []) ≡ told_text g t events ++ event_text g (tally_of t events) e
told_more g t [] e = append-nil (event_text g t e)
told_more g t (f ∷ events) e =
    ap (λ s. event_text g t f ++ s) (told_more g (added t f) events e)
    ∙ sym (append_assoc (event_text g t f) (told_text g (added t f) events) (event_text g (tally_of (added t f) events) e))

fine : (shift : Option ℕ) {B : Type 0} (breach : Option B) → (is_some shift || is_some breach) ≡ false → (shift ≡ None) × (breach ≡ None)
fine None None h = (refl, refl)
fine None (Some b) h = cc
fine (Some s) breach h = cc

unbad : (b : Bool) → ◌≡◌ {A = ℕ} (if b then 1 else 0) 0 → b ≡ false
unbad false e = refl
unbad true e = absurd (omega arith)

fine_of : (e : Event) → bad_of e ≡ 0 → (e.shift ≡ None) × (e.breach ≡ None)
fine_of e h = fine e.shift e.breach (unbad (is_bad e) h)

last_one : (all bad : Bool) → (not all && bad) ≡ true → (all ≡ false) × (bad ≡ true)
last_one true bad h = cc
last_one false bad h = (refl, h)

not_last : (all bad : Bool) → all ≡ false → (not all && bad) ≡ false → bad ≡ false
not_last true bad one h = cc
not_last false bad one h = h

good_of : (b : Bool) → b ≡ false → ◌≡◌ {A = ℕ} (if b then 1 else 0) 0
good_of false e = refl
good_of true e = cc

pub record FollowedSo (w : Watched) (bytes : List ℕ) (g : Telling) (f : Following) (remaining old new : Option (List ℕ)) (count : ℕ) : Type 0 where
  pub at : Watched
  pub slots : List (List ℕ)
  pub left : List ℕ
  pub events : List Event
  pub size : length events ≡ count
  pub stands : Stands f.monitor at slots
  pub waits : IsLeft f.ahead remaining left
  pub walk : (more : List Event) (tail : List ℕ) → IsWalk at slots left more tail → IsWalk w [] bytes (events ++ more) tail
  pub out : Appends old new (told_text g nothing_yet events)
  pub tally : f.tally ≡ tally_of nothing_yet events
  pub none : g.all ≡ false → f.tally.breaches ≡ 0
  pub clean : f.tally.breaches ≡ 0 → (at ≡ w) × (bytes ≡ file_of slots ++ left) × IsWithin w slots × (length slots ≡ length events)

module _ (w : Watched) (bytes : List ℕ) (g : Telling) (f : Following) (remaining old new : Option (List ℕ)) (count : ℕ)
    (h : FollowedSo w bytes g f remaining old new count) where
  walked : IsWalk w [] bytes h.events h.left
  walked = subst (λ es. IsWalk w [] bytes es h.left) (append-nil h.events) (h.walk [] h.left refl)

  pub so_followed : (after : Following) (rest : ℕ) → after.tally ≡ f.tally → Stands after.monitor h.at h.slots → IsEnd rest h.left h.events →
      IsFollowed w bytes g after old new rest
  so_followed after rest same stands ended = record {
    events = h.events;
    left = h.left;
    walk = walked;
    ended = ended;
    tally = same ∙ h.tally;
    out = h.out;
    none = λ one. subst (λ t. t.breaches ≡ 0) (sym same) (h.none one);
    clean = λ none.
        let c = h.clean (subst (λ t. t.breaches ≡ 0) same none) in
        record {
          slots = h.slots;
          size = c.3;
          same = c.1;
          stands = subst (λ v. Stands after.monitor v h.slots) c.0 stands;
          within = c.2;
        };
  }

  pub so_cut_off : (newest : Option (List ℕ)) → Keeps new newest → IsCutOff w bytes g old newest
  so_cut_off newest keeps = record {
    events = h.events;
    left = h.left;
    walk = walked;
    out = Appends-kept old new newest (told_text g nothing_yet h.events) h.out keeps;
  }

  module _ (m : Monitor) (a : Ahead) (left : Option (List ℕ)) (e : Event) (next : IsNext h.at h.slots h.left m a left e) where
    walked_on : (more : List Event) (tail : List ℕ) →
        IsWalk (moved h.at (length h.slots) e.shift) (since h.slots e.shift ++ next.slot ∷ []) next.after more tail →
        IsWalk w [] bytes ((h.events ++ e ∷ []) ++ more) tail
    walked_on more tail on = subst (λ es. IsWalk w [] bytes es tail) (sym (append_assoc h.events (e ∷ []) more))
        (h.walk (e ∷ more) tail (next.slot, next.after, next.same, next.is_slot, next.event, on))

    walked_to : IsWalk w [] bytes (h.events ++ e ∷ []) next.after
    walked_to = subst (λ es. IsWalk w [] bytes es next.after) (append-nil (h.events ++ e ∷ [])) (walked_on [] next.after refl)

    out_more : (newest : Option (List ℕ)) → Appends new newest (event_text g f.tally e) → Appends old newest (told_text g nothing_yet (h.events ++ e ∷ []))
    out_more newest out = subst (Appends old newest) (sym (told_more g nothing_yet h.events e))
        (Appends-trans old new newest (told_text g nothing_yet h.events) (event_text g (tally_of nothing_yet h.events) e) h.out
        (subst (λ t. Appends new newest (event_text g t e)) h.tally out))

    pub so_unwritten : (newest : Option (List ℕ)) (written : ℕ) → written < length (event_text g f.tally e) →
        Appends new newest (take written (event_text g f.tally e)) → IsUnwritten w bytes g old newest written
    so_unwritten newest written few out = record {
      events = h.events;
      event = e;
      left = next.after;
      walk = walked_to;
      few = subst (λ t. written < length (event_text g t e)) h.tally few;
      out = Appends-trans old new newest (told_text g nothing_yet h.events) (take written (event_text g (tally_of nothing_yet h.events) e)) h.out
          (subst (λ t. Appends new newest (take written (event_text g t e))) h.tally out);
    }

    pub so_fault : (T : Type 0) (after : Following) (newest : Option (List ℕ)) (fault : FollowFault) →
        WritesEvent {T = T} (event_text g f.tally e) new newest (Err fault) → Follows w bytes g after old newest (Err fault)
    so_fault T after newest (Feed Read) out = absurd out
    so_fault T after newest (Feed NoMemory) out = so_cut_off newest out
    so_fault T after newest (Write written) out = so_unwritten newest written out.0 out.1

    -- the slots before are heard as those of a feed that stays within the rule
    heard_before : f.tally.breaches ≡ 0 → HeardSo w bytes f.monitor f.ahead remaining count
    heard_before none = let c = h.clean none in record {
      feed = h.slots;
      rest = h.left;
      size = c.3 ∙ h.size;
      same = c.1;
      stands = subst (λ v. Stands f.monitor v h.slots) c.0 h.stands;
      within = c.2;
      left = h.waits;
    }

    pub so_stopped : (after : Following) (newest : Option (List ℕ)) → after.monitor ≡ m → after.tally ≡ added f.tally e →
        Appends new newest (event_text g f.tally e) → is_last g.all e ≡ true → IsStopped w bytes g after old newest count e
    unfolding heard_before
    so_stopped after newest is_m counted out last = let one = last_one g.all (is_bad e) last in record {
      events = h.events;
      left = next.after;
      walk = walked_to;
      out = out_more newest out;
      one = one.0;
      bad = one.1;
      first = subst (λ t. t.breaches ≡ 0) h.tally (h.none one.0);
      slot_is = sym h.size;
      tally = counted ∙ ap (λ t. added t e) h.tally ∙ sym (tally_more nothing_yet h.events e);
      heard = λ heard ending.
          let none = h.none one.0 in
          let here = subst (λ v. IsNext v h.slots h.left m a left e) (h.clean none).0 next in
          subst (λ z. HearsAll w bytes z heard) (sym is_m) (so_ending w bytes f.monitor f.ahead remaining count (heard_before none) m a left e here heard ending);
    }

    pub so_on : (after : Following) (newest : Option (List ℕ)) → after.monitor ≡ m → after.ahead ≡ a → after.tally ≡ added f.tally e →
        Appends new newest (event_text g f.tally e) → is_last g.all e ≡ false → FollowedSo w bytes g after left old newest (count + 1)
    so_on after newest is_m is_a counted out goes_on = record {
      at = moved h.at (length h.slots) e.shift;
      slots = since h.slots e.shift ++ next.slot ∷ [];
      left = next.after;
      events = h.events ++ e ∷ [];
      size = length_push h.events e ∙ ap (λ n. n + 1) h.size;
      stands = subst (λ z. Stands z (moved h.at (length h.slots) e.shift) (since h.slots e.shift ++ next.slot ∷ [])) (sym is_m) next.stands;
      waits = subst (λ z. IsLeft z left next.after) (sym is_a) next.left;
      walk = walked_on;
      out = out_more newest out;
      tally = counted ∙ ap (λ t. added t e) h.tally ∙ sym (tally_more nothing_yet h.events e);
      none = λ one. subst (λ t. t.breaches ≡ 0) (sym counted)
          (let before = h.none one in let here = good_of (is_bad e) (not_last g.all (is_bad e) one goes_on) in omega arith);
      clean = λ none.
          let z : min (f.tally.breaches + bad_of e) (2 ^ 64 - 1) ≡ 0 = sym (ap (λ t. t.breaches) counted) ∙ none in
          let c = h.clean (omega arith) in
          let both = fine_of e (omega arith) in
          let heard = subst (λ b. IsHeard h.at h.slots next.slot b) both.1
          (subst (λ s. IsHeard (moved h.at (length h.slots) s) (since h.slots s) next.slot e.breach) both.0 next.event.breach) in
          let same = c.1 ∙ ap (λ l. file_of h.slots ++ l) next.same ∙ sym (append_assoc (file_of h.slots) next.slot next.after)
          ∙ ap (λ l. l ++ next.after) (file_more h.slots next.slot) in
          let within = (subst (λ v. IsWithin v h.slots → IsWithin v (h.slots ++ next.slot ∷ [])) c.0 heard.2) c.2 in (
            subst (λ s. moved h.at (length h.slots) s ≡ w) (sym both.0) c.0,
            subst (λ s. bytes ≡ file_of (since h.slots s ++ next.slot ∷ []) ++ next.after) (sym both.0) same,
            subst (λ s. IsWithin w (since h.slots s ++ next.slot ∷ [])) (sym both.0) within,
            subst (λ s. length (since h.slots s ++ next.slot ∷ []) ≡ length (h.events ++ e ∷ [])) (sym both.0)
                (length_push h.slots next.slot ∙ ap (λ n. n + 1) c.3 ∙ sym (length_push h.events e)),
          );
    }

-- a fault of what is told of a slot is none of the feed
pub not_of_feed : (T : Type 0) (text : List ℕ) (old new : Option (List ℕ)) (fault : FollowFault) → WritesEvent {T = T} text old new (Err fault) →
    (n m : ℕ) → m ≡ n → CountsFollowed {T = Followed} (Err fault) n m
not_of_feed T text old new (Feed Read) out n m e = absurd out
not_of_feed T text old new (Feed NoMemory) out n m e = e
not_of_feed T text old new (Write written) out n m e = e

pub none_followed : RowsAreNumbered → EachSlotTurns → StreamsMove → StreaksDecide → (w : Watched) (bytes : List ℕ) (g : Telling) (f : Following)
    (remaining out : Option (List ℕ)) → Stands f.monitor w [] → IsLeft f.ahead remaining bytes → f.tally ≡ nothing_yet →
    FollowedSo w bytes g f remaining out out 0
none_followed numbers turns move decide w bytes g f remaining out stands left none = record {
  at = w;
  slots = [];
  left = bytes;
  events = [];
  size = refl;
  stands = stands;
  waits = left;
  walk = λ more tail h. h;
  out = Appends-nil out;
  tally = none;
  none = λ _. ap (λ t. t.breaches) none;
  clean = λ _. (refl, refl, nothing_within numbers turns move decide w f.monitor stands, refl);
}
