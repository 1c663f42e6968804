-- The cursors agree with the rule that looks back at the slots sent.
use Rattle.std.proofs.Common.{◌≡◌, ℕ, suc, ◌+◌, ◌-◌, ◌<◌, ◌≤◌, Bool, true, false, not, ◌&&◌, cond, List, [], ◌∷◌, length, take, Option, Some, None}
use Rattle.std.proofs.Common.{refl, sym, ap, ◌∙◌, subst, arith, ltb, eqb, get_or, set}
use Rattle.std.specs.Prelude.{slice_get, Vec}
use Rattle.std.specs.List.{list_any, find}
use Rattle.std.specs.declared.alloc.Global.{Global}
use Rattle.std.proofs.Math.ListN.{length-set}
use Rattle.std.proofs.lemmas.Bool.{cond-false, both_ways, and_right}
use Rattle.std.proofs.lemmas.Bool.Decides.{nat_tests}
use Rattle.ttx_plan.specs.declared.packet.Packet.{Packet}
use Rattle.ttx_plan.specs.declared.packet.Slot.{Slot}
use Rattle.ttx_plan.specs.declared.packet.Slot.TheVariants.{Empty, Info, Sent}
use Rattle.ttx_plan.specs.declared.cursors.Cursors.{Cursors}
use Rattle.ttx_plan.specs.Packets.{has_header, is_page_header, is_row_or_links}
use Rattle.ttx_plan.specs.Turns.{Magazines, sent_by, turn_from, order, next_of, may_go, is_ready, sending, chosen, next_slot, is_info_due, or_info}
use Rattle.ttx_plan.specs.Turns.{slot_after}
use Rattle.ttx_plan.specs.Cursors.{queue_at, offered, is_free, picked, slot_by_cursors, cursors_after, magazines_of}
use Rattle.ttx_plan.proofs.WaitingMagazines.{until, recent_until}
use Rattle.ttx_plan.proofs.ListElements.{set_cond, raised}
use Rattle.ttx_plan.proofs.FirstInOrder.{order_same, found_ready}

pub record Tracks (lines : ℕ) (cursors : Cursors) (before : List Slot) : Type 0 where
  pub sent_size : length cursors.sent ≡ 8
  pub free_size : length cursors.free_at ≡ 8
  pub sent : (m : ℕ) → m < 8 → get_or cursors.sent m 0 ≡ sent_by m before
  pub free : (m : ℕ) → m < 8 → get_or cursors.free_at m 0 - length before ≡ until (has_header m) lines before
  pub from : cursors.from ≡ turn_from before
  pub from_most : turn_from before ≤ 8

free_recent : (lines m free : ℕ) (before : List Slot) → free - length before ≡ until (has_header m) lines before →
    ltb (length before) free ≡ list_any (has_header m) (take lines before)
free_recent lines m free before e = sym (recent_until (has_header m) lines before ∙ ap (λ x. ltb 0 x) (sym e) ∙ pos free (length before))
  where
    pos : (a b : ℕ) → ltb 0 (a - b) ≡ ltb b a
    pos a b = grind (arith, nat_tests)

pub free_is_ready : (lines : ℕ) (info : Option (List ℕ)) (queues : List (Vec Packet Global)) (cursors : Cursors) (before : List Slot) →
    Tracks lines cursors before →
    (m : ℕ) → m < 8 → is_free queues cursors (length before) m ≡ is_ready (magazines_of lines info queues) before m
free_is_ready lines info queues cursors before t m lt =
    let w : ltb (length before) (get_or cursors.free_at m 0) ≡ list_any (has_header m) (take lines before) =
    free_recent lines m (get_or cursors.free_at m 0) before (t.free m lt) in
    ap (λ x. offered (slice_get (queue_at queues m) x) (ltb (length before) (get_or cursors.free_at m 0))) (t.sent m lt)
    ∙ same (slice_get (queue_at queues m) (sent_by m before)) w
  where
    same : (o : Option Packet) → ltb (length before) (get_or cursors.free_at m 0) ≡ list_any (has_header m) (take lines before) →
        offered o (ltb (length before) (get_or cursors.free_at m 0)) ≡ may_go (magazines_of lines info queues) m before o
    same None w = refl
    same (Some packet) w = ap (λ x. not (is_row_or_links packet.kind && x)) w

-- the slot that follows from the cursors is the one of the rule
pub sends_turn : (lines : ℕ) (info : Option (List ℕ)) (queues : List (Vec Packet Global)) (cursors : Cursors) (before : List Slot) →
    Tracks lines cursors before →
    or_info info (is_info_due lines (length before)) (slot_by_cursors queues cursors (length before))
    ≡ slot_after (magazines_of lines info queues) before
sends_turn lines info queues cursors before t =
    ap (or_info info (is_info_due lines (length before))) (
    ap (λ o. picked queues cursors (find (is_free queues cursors (length before)) (order o))) t.from
    ∙ ap (picked queues cursors) (order_same _ _ (turn_from before) (free_is_ready lines info queues cursors before t))
    ∙ pick (find (is_ready (magazines_of lines info queues) before) (order (turn_from before))) refl)
  where
    pick : (o : Option ℕ) → find (is_ready (magazines_of lines info queues) before) (order (turn_from before)) ≡ o →
        picked queues cursors o ≡ chosen (magazines_of lines info queues) before o
    pick None e = refl
    pick (Some m) e = ap (λ x. sending m (slice_get (queue_at queues m) x))
        (t.sent m ((found_ready (is_ready (magazines_of lines info queues) before) (turn_from before) m e).1))

-- no packet yet
pub tracks_none : (lines : ℕ) (cursors : Cursors) → length cursors.sent ≡ 8 → length cursors.free_at ≡ 8 →
    ((m : ℕ) → m < 8 → get_or cursors.sent m 0 ≡ 0) → ((m : ℕ) → m < 8 → get_or cursors.free_at m 0 ≡ 0) → cursors.from ≡ 0 → Tracks lines cursors []
tracks_none lines cursors s f sent free from = record {
  sent_size = s;
  free_size = f;
  sent = sent;
  free = λ m lt. let e : get_or cursors.free_at m 0 ≡ 0 = free m lt in omega arith;
  from = from;
  from_most = omega arith;
}

-- what a slot by the rule of turns can be
abbrev pub IsFrom : Magazines → List Slot → Slot → Type 0
IsFrom mags before Empty = find (is_ready mags before) (order (turn_from before)) ≡ None
IsFrom mags before (Info bytes) = (mags.info ≡ Some bytes) × (is_info_due mags.lines (length before) ≡ true)
IsFrom mags before (Sent queue packet) = (queue < 8) × (next_of mags queue before ≡ Some packet) × (is_ready mags before queue ≡ true)

idle : (lines : ℕ) (cursors : Cursors) (before : List Slot) (slot : Slot) → Tracks lines cursors before →
    ((m : ℕ) → sent_by m (slot ∷ before) ≡ sent_by m before) → ((m : ℕ) → has_header m slot ≡ false) → turn_from (slot ∷ before)
    ≡ turn_from before → Tracks lines cursors (slot ∷ before)
idle lines cursors before slot t s o f = record {
  sent_size = t.sent_size;
  free_size = t.free_size;
  sent = λ m lt. t.sent m lt ∙ sym (s m);
  free = λ m lt.
      let e : get_or cursors.free_at m 0 - length before ≡ until (has_header m) lines before = t.free m lt in
      let g : cond (has_header m slot) lines (until (has_header m) lines before - 1) ≡ until (has_header m) lines before - 1 =
      cond-false (has_header m slot) lines _ (o m) in
      omega arith;
  from = t.from ∙ sym f;
  from_most = subst (λ x. x ≤ 8) (sym f) t.from_most;
}

freed : (xs : List ℕ) (b : Bool) (queue m at lines u : ℕ) → queue < length xs → get_or xs m 0 - at ≡ u →
    get_or (cond b (set xs queue (at + lines + 1)) xs) m 0 - suc at ≡ cond (eqb queue m && b) lines (u - 1)
freed xs false queue m at lines u lt was = rw (and_right (eqb queue m) false refl) (omega (arith, was))
freed xs true queue m at lines u lt was = ap (λ n. n - suc at) (set_cond xs queue m (at + lines + 1) lt) ∙ by (eqb queue m)
  where
    by : (c : Bool) → cond c (at + lines + 1) (get_or xs m 0) - suc at ≡ cond (c && true) lines (u - 1)
    by true = omega arith
    by false = omega (arith, was)

cond_size : (b : Bool) (xs : List ℕ) (i y : ℕ) → length xs ≡ 8 → length (cond b (set xs i y) xs) ≡ 8
cond_size true xs i y e = length-set xs i y ∙ e
cond_size false xs i y e = e

pub tracks_more : (lines : ℕ) (mags : Magazines) (cursors : Cursors) (before : List Slot) (slot : Slot) → Tracks lines cursors before →
    IsFrom mags before slot →
    Tracks lines (cursors_after cursors lines (length before) slot) (slot ∷ before)
tracks_more lines mags cursors before Empty t h = idle lines cursors before Empty t (λ m. refl) (λ m. refl) refl
tracks_more lines mags cursors before (Info bytes) t h = idle lines cursors before (Info bytes) t (λ m. refl) (λ m. refl) refl
tracks_more lines mags cursors before (Sent queue packet) t h =
    let lt : queue < 8 = h.0 in
    record {
      sent_size = length-set cursors.sent queue (get_or cursors.sent queue 0 + 1) ∙ t.sent_size;
      free_size = cond_size (is_page_header packet.kind) cursors.free_at queue (length before + lines + 1) t.free_size;
      sent = λ m small. raised cursors.sent queue m (sent_by m before) (omega (arith, t.sent_size)) (t.sent m small);
      free = λ m small. freed cursors.free_at (is_page_header packet.kind) queue m (length before) lines
          (until (has_header m) lines before) (omega (arith, t.free_size)) (t.free m small);
      from = omega arith;
      from_most = omega arith;
    }

-- what the rule of turns gives
pub turn_from_queues : (mags : Magazines) (before : List Slot) → IsFrom mags before (slot_after mags before)
turn_from_queues mags before = by_info mags.info (is_info_due mags.lines (length before)) refl refl
  where
    by_next : (m : ℕ) (o : Option Packet) → m < 8 → next_of mags m before ≡ o → is_ready mags before m ≡ true → IsFrom mags before (sending m o)
    by_next m None lt e ready = absurd (both_ways false refl (ap (may_go mags m before) (sym e) ∙ ready))
    by_next m (Some packet) lt e ready = (lt, e, ready)

    by_found : (o : Option ℕ) → find (is_ready mags before) (order (turn_from before)) ≡ o → IsFrom mags before (chosen mags before o)
    by_found None e = e
    by_found (Some m) e = let r = found_ready (is_ready mags before) (turn_from before) m e in by_next m (next_of mags m before) r.1 refl r.0

    by_info : (info : Option (List ℕ)) (due : Bool) → mags.info ≡ info → is_info_due mags.lines (length before) ≡ due →
        IsFrom mags before (or_info info due (next_slot mags before))
    by_info None due e f = by_found (find (is_ready mags before) (order (turn_from before))) refl
    by_info (Some bytes) true e f = (e, f)
    by_info (Some bytes) false e f = by_found (find (is_ready mags before) (order (turn_from before))) refl
