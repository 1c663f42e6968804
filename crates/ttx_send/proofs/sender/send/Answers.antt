use Rattle.std.proofs.Common.{◌≡◌, ℕ, ◌+◌, ◌-◌, ◌*◌, ◌/◌, ◌%◌, ◌≤◌, ◌<◌, pos, ◌++◌, List, length, length-append, length-take-le, take, sym, ap, ◌∙◌, subst}
use Rattle.std.proofs.Common.{arith, rules}
use Rattle.std.specs.Io.KnownBytes.{Appends}
use Rattle.std.proofs.KnownBytes.{Appends-trans}
use Rattle.std.proofs.Math.Nat.{add-mul, mul-le-mul_left}
use Rattle.ttx_cycle.specs.Cycles.{slots_of}
use Rattle.ttx_cycle.specs.Files.{file_of}
use Rattle.ttx_page.specs.Laws.{sent_from}
use Rattle.ttx_send.specs.Times.{Moment}
use Rattle.ttx_send.specs.Airing.{Times, field_time, at_moment, Broadcast, broadcast_by, sent_slots}
use Rattle.ttx_send.proofs.SentSlots.{piece_slots, bytes_more, bytes_after, take_parts}
use Rattle.ttx_send.proofs.sender.send.Goals as goal

-- the bytes of a piece, and how many they are
piece_long : (bytes : List ℕ) (slots : ℕ) → length bytes ≡ 5376 → slots ≤ 128 → length (take (42 * slots) bytes) ≡ 42 * slots
piece_long bytes slots long few = length-take-le (42 * slots) bytes (omega (arith, long, few))

piece_is : (cycle : List (List ℕ)) (lines phase field m first slots : ℕ) (times : Times) (moment : Moment) (bytes : List ℕ) →
    take (42 * slots) bytes ≡ file_of (sent_from (at_moment cycle moment) (pos first) slots) → moment ≡ field_time times field →
    first ≡ (phase + field) * lines → slots ≡ m * lines →
    take (42 * slots) bytes ≡ file_of (piece_slots (broadcast_by cycle lines phase times) field m)
piece_is cycle lines phase field m first slots times moment bytes e t f n =
    e ∙ (λ i. file_of (sent_from (at_moment cycle (t i)) (pos (f i)) (n i)))

-- a piece ends with its second, or amid it
same_second : (field m : ℕ) → 0 < m → ((n : ℕ) → n < m → (field + n) / 50 ≡ field / 50) → 0 < (field + m) % 50 → field / 50 ≡ (field + m) / 50
same_second field m some second amid =
    let e : (field + (m - 1)) / 50 ≡ field / 50 = second (m - 1) (omega arith) in
    omega (arith, e, amid)

-- at a fault in a piece
module _ (s : Broadcast) (field fields at n m : ℕ) (part : List ℕ) (some : 0 < s.lines) (second : (k : ℕ) → k < m → (field + k) / 50 ≡ field / 50)
    (inside : field + m ≤ fields) (size : length (file_of (sent_slots s field)) ≡ at) (is : part ≡ file_of (piece_slots s field m))
    (fits : n < length part) where
  abbrev rest : List ℕ
  rest = (bytes_after s (field + m) fields inside).0

  whole : file_of (sent_slots s fields) ≡ (file_of (sent_slots s field) ++ part) ++ rest
  whole =
      (bytes_after s (field + m) fields inside).1
      ∙ ap (λ l. l ++ rest) (bytes_more s field m some second ∙ ap (λ l. file_of (sent_slots s field) ++ l) (sym is))

  within : at + n < length (file_of (sent_slots s fields))
  within =
      omega (
        arith,
        ap length whole,
        length-append (file_of (sent_slots s field) ++ part) rest,
        length-append (file_of (sent_slots s field)) part,
        size,
        fits,
      )

  front : take (at + n) (file_of (sent_slots s fields)) ≡ file_of (sent_slots s field) ++ take n part
  front = take_parts _ (file_of (sent_slots s field)) part rest at n whole size (omega (arith, fits))

pub returns-in-Err-clause-bytes : goal.returns-in-Err-clause-bytes
returns-in-Err-clause-bytes g c =
    let times = g.C.Clock.shows c.args.clock.now in
    let slots = c.slots-slots.result.now in
    let lines = c.from-lines.result in
    let field = c.loop-field.field in
    let piece = c.next_piece-piece.result in
    let n = c.in-Err.fault.written in
    let s = broadcast_by slots lines c.args.phase times in
    let same : s ≡ broadcast_by (slots_of c.args.cycle.now) c.args.lines c.args.phase times =
    λ i. broadcast_by (c.slots-slots.ensures.slots i) (c.from-lines.ensures i) c.args.phase times in
    let some : 0 < lines = omega (arith, c.from-lines.ensures, c.requires.some) in
    let part = take (42 * piece.slots) c.fill.new.bytes in
    let is : part ≡ file_of (piece_slots s field piece.fields) =
    piece_is slots lines c.args.phase field piece.fields c.loop-field.first piece.slots times c.stamp_at-stamp.result.moment
    c.fill.new.bytes
    c.fill.ensures.bytes c.stamp_at-stamp.ensures c.loop-field.invariant.first c.next_piece-piece.ensures.slots in
    let out = c.in-Err.ensures.bytes in
    let w : file_of (sent_slots s c.args.fields)
    ≡ file_of (sent_slots (broadcast_by (slots_of c.args.cycle.now) c.args.lines c.args.phase times) c.args.fields)
    =
    ap (λ t. file_of (sent_slots t c.args.fields)) same in
    let second = c.next_piece-piece.ensures.second in
    let inside = c.next_piece-piece.ensures.inside in
    let size = c.loop-field.invariant.sent in (
      subst (λ l. c.loop-field.sent + n < length l) w
          (within s field c.args.fields c.loop-field.sent n piece.fields part some second inside size is out.0),
      subst (Appends _ _) (sym (ap (take (c.loop-field.sent + n)) (sym w)
          ∙ front s field c.args.fields c.loop-field.sent n piece.fields part some second inside size is out.0))
          (Appends-trans _ _ _ _ _ c.loop-field.invariant.bytes out.1),
    )

pub loop-field-preserved : goal.loop-field-preserved
loop-field-preserved g c =
    let times = g.C.Clock.shows c.args.clock.now in
    let slots = c.slots-slots.result.now in
    let lines = c.from-lines.result in
    let field = c.loop-field.field in
    let piece = c.next_piece-piece.result in
    let m = piece.fields in
    let s = broadcast_by slots lines c.args.phase times in
    let some : 0 < lines = omega (arith, c.from-lines.ensures, c.requires.some) in
    let few : lines ≤ 32 = omega (arith, c.from-lines.ensures, c.requires.most) in
    let part = take (42 * piece.slots) c.fill.new.bytes in
    let is : part ≡ file_of (piece_slots s field m) =
    piece_is slots lines c.args.phase field m c.loop-field.first piece.slots times c.stamp_at-stamp.result.moment
    c.fill.new.bytes
    c.fill.ensures.bytes c.stamp_at-stamp.ensures c.loop-field.invariant.first c.next_piece-piece.ensures.slots in
    let long : length part ≡ 42 * piece.slots = piece_long c.fill.new.bytes piece.slots c.fill.ensures.long
    c.next_piece-piece.ensures.fits in
    let more : file_of (sent_slots s field) ++ part ≡ file_of (sent_slots s (field + m)) =
    ap (λ l. file_of (sent_slots s field) ++ l) is ∙ sym (bytes_more s field m some c.next_piece-piece.ensures.second) in
    let e : c.args.phase + (field + m) ≡ (c.args.phase + field) + m = omega arith in
    let wide : m * lines ≤ m * 32 = mul-le-mul_left m few in
    let some_fields = c.next_piece-piece.ensures.some in
    record {
      first = omega (
        arith,
        c.loop-field.invariant.first,
        ap (λ n. n * lines) e,
        add-mul (c.args.phase + field) m lines,
        c.next_piece-piece.ensures.slots,
      );
      low = omega (arith, c.loop-field.invariant.low, wide, c.next_piece-piece.ensures.slots);
      sent = omega (arith, sym (ap length more), length-append (file_of (sent_slots s field)) part, c.loop-field.invariant.sent, long);
      few = omega (arith, c.loop-field.invariant.few, wide, c.next_piece-piece.ensures.slots);
      inside = c.next_piece-piece.ensures.inside;
      bytes = subst (Appends _ _) more (Appends-trans _ _ _ _ _ c.loop-field.invariant.bytes c.in_default.ensures.bytes);
      faults = search rules;
      stamp = λ amid. c.stamp_at-stamp.ensures ∙ ap times (same_second field m some_fields c.next_piece-piece.ensures.second amid);
    }
