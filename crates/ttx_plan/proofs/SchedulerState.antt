-- What the scheduler has done so far.
use Rattle.std.proofs.Common.{◌≡◌, ℕ, ◌+◌, ◌*◌, ◌<◌, ◌≤◌, true, false, List, [], ◌∷◌, ◌++◌, length, Option, refl, sym, ap, ◌∙◌, subst, arith, cond}
use Rattle.std.proofs.Common.{replicate, ◌-◌, drop, length-drop}
use Rattle.std.proofs.lemmas.List.{get_or-replicate}
use Rattle.std.specs.Prelude.{Vec}
use Rattle.std.specs.declared.alloc.Global.{Global}
use Rattle.ttx_plan.specs.declared.packet.Packet.{Packet}
use Rattle.ttx_plan.specs.declared.packet.Slot.{Slot}
use Rattle.ttx_plan.specs.declared.packet.Slot.TheVariants.{Empty, Info, Sent}
use Rattle.ttx_plan.specs.declared.cursors.Cursors.{Cursors}
use Rattle.ttx_plan.specs.Packets.{sent_bytes, bytes_of, holds_packet}
use Rattle.ttx_plan.specs.Turns.{Magazines, queue_of, sent_by, slot_after, KeepsTurns, ends_sent, is_info_due, or_info, missing, IsParallel}
use Rattle.ttx_plan.specs.Cursors.{slot_by_cursors, cursors_after, magazines_of}
use Rattle.ttx_plan.specs.Counting.{sum_to, slots_for}
use Rattle.ttx_plan.proofs.CursorsLookBack.{Tracks, IsFrom, turn_from_queues, sends_turn, tracks_none, tracks_more}
use Rattle.ttx_plan.proofs.Lengths.{padded_length}
use Rattle.ttx_plan.proofs.MagazineSums.{sum_none}
use Rattle.ttx_plan.proofs.WaitingBound.{left_of, total, sent_bytes_length, few_infos, all_slots, room}
use Rattle.ttx_plan.proofs.WaitingBound.{left_less, left_work, total_falls, sent_most, others}
use Rattle.ttx_plan.proofs.WaitingBound.{infos, ends_info}

pub record State (mags : Magazines) (cursors : Cursors) (slots : List (List ℕ)) (left : ℕ) : Type 0 where
  pub before : List Slot
  pub turns : KeepsTurns mags before
  pub tracks : Tracks mags.lines cursors before
  pub slots_are : slots ≡ sent_bytes before
  pub left_is : left ≡ left_of mags before
  pub small : total mags before ≤ sum_to 8 (λ m. slots_for mags.lines (queue_of mags m))
  pub ends : left ≡ 0 → ends_sent before ≡ true

abbrev pub cursors_none : Cursors
cursors_none = record { sent = replicate 8 0; free_at = replicate 8 0; from = 0 }

pub start : (mags : Magazines) (cursors : Cursors) (left : ℕ) → cursors ≡ cursors_none → left
    ≡ sum_to 8 (λ m. length (queue_of mags m)) → 0 < left → State mags cursors [] left
start mags cursors left e n some = subst (λ x. State mags x [] left) (sym e) (record {
  before = [];
  turns = tt;
  tracks = tracks_none mags.lines cursors_none refl refl (λ m lt. get_or-replicate 8 m 0 0 lt) (λ m lt. get_or-replicate 8 m 0 0 lt) refl;
  slots_are = refl;
  left_is = n;
  small = omega arith;
  ends = λ z. absurd (omega arith);
})

pub start_left : (mags : Magazines) → sum_to 8 (λ m. length (queue_of mags m)) ≤ sum_to 8 (λ m. slots_for mags.lines (queue_of mags m))
start_left mags = left_work mags []

at_length : (mags : Magazines) (cursors : Cursors) (slots : List (List ℕ)) (left : ℕ) (s : State mags cursors slots left) → length slots
    ≡ length s.before
at_length mags cursors slots left s = ap length s.slots_are ∙ sent_bytes_length s.before

pub has_room : (mags : Magazines) (cursors : Cursors) (slots : List (List ℕ)) (left lines : ℕ) → State mags cursors slots left →
    0 < left → 1 ≤ mags.lines → 2 * sum_to 8 (λ m. slots_for mags.lines (queue_of mags m)) + 2 * lines ≤ 65536 →
    length slots < 65536
has_room mags cursors slots left lines s some line few =
    omega (
      arith,
      room mags s.before (sum_to 8 (λ m. slots_for mags.lines (queue_of mags m))) line s.turns s.small (omega arith) (omega (arith, s.left_is)),
      at_length mags cursors slots left s,
    )

pub more : (lines : ℕ) (info : Option (List ℕ)) (queues : List (Vec Packet Global)) (old new : Cursors) (slots : List (List ℕ))
    (at left after_left : ℕ) (slot : Slot) →
    State (magazines_of lines info queues) old slots left → at ≡ length slots → 0 < left →
    slot ≡ or_info info (is_info_due lines at) (slot_by_cursors queues old at) → new ≡ cursors_after old lines at slot →
    cond (holds_packet slot) (left - 1) left ≡ after_left →
    State (magazines_of lines info queues) new (slots ++ bytes_of slot ∷ []) after_left
more lines info queues old new slots at left after_left slot s here some is_slot is_new is_left =
    let mags = magazines_of lines info queues in
    let place : at ≡ length s.before = here ∙ at_length mags old slots left s in
    let turned : slot ≡ slot_after mags s.before =
    is_slot ∙ ap (λ x. or_info info (is_info_due lines x) (slot_by_cursors queues old x)) place
    ∙ sends_turn lines info queues old s.before s.tracks in
    let from : IsFrom mags s.before slot = subst (IsFrom mags s.before) (sym turned) (turn_from_queues mags s.before) in
    record {
      before = slot ∷ s.before;
      turns = (turned, s.turns);
      tracks = subst (λ x. Tracks lines x (slot ∷ s.before)) (sym (is_new ∙ ap (λ x. cursors_after old lines x slot) place))
          (tracks_more lines mags old s.before slot s.tracks from);
      slots_are = ap (λ x. x ++ bytes_of slot ∷ []) s.slots_are;
      left_is = left_now slot from is_left;
      small = omega (arith, total_falls mags s.before slot s.tracks.from_most turned (omega (arith, s.left_is)), s.small);
      ends = λ z. ends_now slot is_left z;
    }
  where
    left_now : (x : Slot) → IsFrom (magazines_of lines info queues) s.before x → cond (holds_packet x) (left - 1) left ≡ after_left →
        after_left ≡ left_of (magazines_of lines info queues) (x ∷ s.before)
    left_now Empty f e = sym e ∙ s.left_is
    left_now (Info bytes) f e = sym e ∙ s.left_is
    left_now (Sent queue packet) f e = omega (arith, left_less (magazines_of lines info queues) s.before queue packet f, s.left_is)

    ends_now : (x : Slot) → cond (holds_packet x) (left - 1) left ≡ after_left → after_left ≡ 0 → ends_sent (x ∷ s.before) ≡ true
    ends_now Empty e z = absurd (omega arith)
    ends_now (Info bytes) e z = absurd (omega arith)
    ends_now (Sent queue packet) e z = refl

-- the end: everything has been sent
pub finish : (mags : Magazines) (cursors : Cursors) (slots filled : List (List ℕ)) (left : ℕ) → State mags cursors slots left → left ≡ 0 →
    filled ≡ slots ++ replicate (missing mags.lines (length slots)) (replicate 42 0) → IsParallel mags filled
finish mags cursors slots filled left s all is_filled = record {
  before = s.before;
  turns = s.turns;
  all_sent = λ queue lt.
      let none : length (drop (sent_by queue s.before) (queue_of mags queue)) ≡ 0 =
      sum_none (λ m. length (drop (sent_by m s.before) (queue_of mags m))) 8 (sym s.left_is ∙ all) queue lt in
      let most : sent_by queue s.before ≤ length (queue_of mags queue) = sent_most mags s.before s.turns queue lt in
      omega (arith, length-drop (sent_by queue s.before) (queue_of mags queue));
  ends = s.ends all;
  cycle_is = is_filled ∙ ap (λ x. x ++ replicate (missing mags.lines (length slots)) (replicate 42 0)) s.slots_are
      ∙ ap (λ n. sent_bytes s.before ++ replicate (missing mags.lines n) (replicate 42 0)) (at_length mags cursors slots left s);
}

pub finish_length : (mags : Magazines) (cursors : Cursors) (slots filled : List (List ℕ)) (left : ℕ) → State mags cursors slots left → left ≡ 0 →
    filled ≡ slots ++ replicate (missing mags.lines (length slots)) (replicate 42 0) →
    1 ≤ mags.lines → 2 * sum_to 8 (λ m. slots_for mags.lines (queue_of mags m)) + 2 * mags.lines ≤ 65536 → length filled ≤ 65536
finish_length mags cursors slots filled left s all is_filled line few =
    let fewer : infos s.before ≤ others s.before = (few_infos mags s.before line s.turns).1 (no_info s.before (s.ends all)) in
    let rest : missing mags.lines (length slots) ≤ mags.lines = omega arith in
    let size : length filled ≡ length slots + missing mags.lines (length slots) =
    ap length is_filled ∙ padded_length slots (missing mags.lines (length slots)) in
    omega (arith, fewer, rest, size, at_length mags cursors slots left s, all_slots s.before, s.small)
  where
    no_info : (b : List Slot) → ends_sent b ≡ true → ends_info b ≡ false
    no_info (Info bytes ∷ b) e = let f : false ≡ true = e in cc
    no_info b e = refl

-- a cycle that ends with a packet has a slot
pub some_slot : (mags : Magazines) (cycle : List (List ℕ)) → IsParallel mags cycle → 0 < length cycle
some_slot mags cycle p =
    omega (
      arith,
      some p.before p.ends,
      sent_bytes_length p.before,
      ap length p.cycle_is ∙ padded_length (sent_bytes p.before) (missing mags.lines (length p.before)),
    )
  where
    some : (b : List Slot) → ends_sent b ≡ true → 0 < length b
    some [] e = let f : false ≡ true = e in cc
    some (slot ∷ b) e = omega arith
