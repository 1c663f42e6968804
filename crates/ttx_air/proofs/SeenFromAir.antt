-- What went out is seen.
use Rattle.std.proofs.Common.{◌≡◌, inl, inr, ℕ, zero, suc, ◌+◌, ◌*◌, ◌/◌, ◌<◌, ◌≤◌, ℤ, pos, negsuc, ◌+ℤ◌, ◌-ℤ◌, ◌<ℤ◌, ◌≤ℤ◌, nat_abs, nat_lt, true, if◌then◌else◌}
use Rattle.std.proofs.Common.{List, ◌++◌, length, length-append, take, drop, refl, sym, ap, ◌∙◌, subst, arith}
use Rattle.std.proofs.lemmas.Int.{ints}
use Rattle.std.proofs.lemmas.Bool.{cases_lt, lt-ltb, le-ltb}
use Rattle.std.proofs.Math.Seq.{take-append_seam, drop-append-add}
use Rattle.ttx_packet.specs.Slots.{IsSlot}
use Rattle.ttx_page.specs.Streams.{Stream}
use Rattle.ttx_page.specs.Laws.{EachSlotTurns, sent_from}
use Rattle.ttx_cycle.specs.Files.{file_of}
use Rattle.ttx_send.specs.Times.{Moment}
use Rattle.ttx_send.specs.Airing.{Times, at_time, field_time, IsSentAs}
use Rattle.ttx_send.specs.Laws.{TimedIsSentAs, IsAiring, AirIsReceived}
use Rattle.ttx_playout.specs.Schedules.{Edition, Showing, sent}
use Rattle.ttx_playout.specs.Takeovers.{HasSent}
use Rattle.ttx_playout.specs.Laws.{SentSoFarIsSeen, SentSoFarIsShown}
use Rattle.ttx_playout.specs.declared.state.OnAir.{OnAir}
use Rattle.ttx_playout.proofs.SeenOnAir as playout
use Rattle.ttx_air.specs.Airings.{timed_from, air_of}
use Rattle.ttx_air.specs.Laws.{IsOnAir, AirIsSeen, AirIsShown}

itself : (slot : List ℕ) → IsSlot slot → IsSentAs slot slot
itself slot s = record { is_slot = s; empty = λ z. z; same = λ x l. inr refl }

-- ---- the bytes of slots that are sent one after another

module _ (timed : TimedIsSentAs) (times : Times) (lines : ℕ) (s : Stream) (slots : (i : ℤ) → IsSlot (s i)) where
  timed_size : (k : ℕ) (tau : ℤ) → length (at_time (field_time times (k / lines)) (s tau)) ≡ 42
  timed_size k tau = (timed (field_time times (k / lines)) (s tau) (slots tau)).is_slot.size

  file_size : (k : ℕ) (tau : ℤ) (n : ℕ) → length (file_of (timed_from times lines k (sent_from s tau n))) ≡ 42 * n
  file_size k tau zero = refl
  file_size k tau (suc n) =
      let rest = timed_from times lines (suc k) (sent_from s (tau +ℤ pos 1) n) in
      omega (
        arith,
        length-append (at_time (field_time times (k / lines)) (s tau)) (file_of rest),
        timed_size k tau,
        file_size (suc k) (tau +ℤ pos 1) n,
      )

  slot_in : (k : ℕ) (tau : ℤ) (n i : ℕ) → i < n →
      take 42 (drop (42 * i) (file_of (timed_from times lines k (sent_from s tau n)))) ≡ at_time (field_time times ((k + i) / lines)) (s (tau +ℤ pos i))
  slot_in k tau zero i lt = absurd (omega arith)
  slot_in k tau (suc n) zero lt =
      let x = at_time (field_time times (k / lines)) (s tau) in
      let rest = file_of (timed_from times lines (suc k) (sent_from s (tau +ℤ pos 1) n)) in
      let e : tau ≡ tau +ℤ pos 0 = omega (arith, ints) in
      let f : k ≡ k + 0 = omega arith in
      ap (λ m. take m (x ++ rest)) (sym (timed_size k tau)) ∙ take-append_seam x rest
      ∙ (λ j. at_time (field_time times (f j / lines)) (s (e j)))
  slot_in k tau (suc n) (suc i) lt =
      let x = at_time (field_time times (k / lines)) (s tau) in
      let rest = file_of (timed_from times lines (suc k) (sent_from s (tau +ℤ pos 1) n)) in
      let e : (tau +ℤ pos 1) +ℤ pos i ≡ tau +ℤ pos (suc i) = omega (arith, ints) in
      let f : suc k + i ≡ k + suc i = omega arith in
      let g : 42 * suc i ≡ length x + 42 * i = omega (arith, timed_size k tau) in
      ap (λ m. take 42 (drop m (x ++ rest))) g ∙ ap (take 42) (drop-append-add x rest (42 * i))
      ∙ slot_in (suc k) (tau +ℤ pos 1) n i (omega arith)
      ∙ (λ j. at_time (field_time times (f j / lines)) (s (e j)))

-- ---- what the air carries: the schedule's slots where they went out, and itself elsewhere

module _ (timed : TimedIsSentAs) (first : Edition) (later : List Showing) (slots : (i : ℤ) → IsSlot (sent first later i)) (air : Stream)
    (whole : (i : ℤ) → IsSlot (air i)) (begin : ℤ) (count : ℕ) (clock : ℕ → Moment)
    (out : (k : ℕ) → k < count → air (begin +ℤ pos k) ≡ at_time (clock k) (sent first later (begin +ℤ pos k))) where
  abbrev carried_at : ℤ → ℤ → List ℕ
  carried_at j (pos k) = if nat_lt k count then sent first later j else air j
  carried_at j (negsuc k) = air j

  abbrev carried : Stream
  carried j = carried_at j (j -ℤ begin)

  inside : (j : ℤ) → begin ≤ℤ j → j <ℤ (begin +ℤ pos count) → carried j ≡ sent first later j
  inside j low high =
      let k = nat_abs (j -ℤ begin) in
      let e : j -ℤ begin ≡ pos k = omega (arith, ints) in
      let lt : k < count = omega (arith, ints) in
      ap (carried_at j) e ∙ ap (λ b. if b then sent first later j else air j) (lt-ltb k count lt)

  is_slot_at : (j d : ℤ) → IsSlot (carried_at j d)
  is_slot_at j (pos k) = elim (nat_lt k count) as (λ b. IsSlot (if b then sent first later j else air j)) [ true ↦ slots j | _ ↦ whole j ]
  is_slot_at j (negsuc k) = whole j

  sent_as : (j : ℤ) (k : ℕ) → k < count → j ≡ begin +ℤ pos k → IsSentAs (sent first later j) (air j)
  sent_as j k lt e =
      subst (λ i. IsSentAs (sent first later i) (air i)) (sym e)
      (subst (IsSentAs (sent first later (begin +ℤ pos k))) (sym (out k lt))
      (timed (clock k) (sent first later (begin +ℤ pos k)) (slots (begin +ℤ pos k))))

  airing_at : (j d : ℤ) → j ≡ begin +ℤ d → IsSentAs (carried_at j d) (air j)
  airing_at j (pos k) e = elim (cases_lt k count) as (λ _. IsSentAs (carried_at j (pos k)) (air j)) [
    | inl lt ↦ subst (λ b. IsSentAs (if b then sent first later j else air j) (air j)) (sym (lt-ltb k count lt)) (sent_as j k lt e)
    | inr ge ↦ subst (λ b. IsSentAs (if b then sent first later j else air j) (air j)) (sym (le-ltb k count ge)) (itself (air j) (whole j))
  ]
  airing_at j (negsuc k) e = itself (air j) (whole j)

  airing : IsAiring carried air
  airing j = airing_at j (j -ℤ begin) (omega (arith, ints))

  are_slots : (j : ℤ) → IsSlot (carried j)
  are_slots j = is_slot_at j (j -ℤ begin)

-- ---- what went out of a schedule

module _ (turn : EachSlotTurns) (timed : TimedIsSentAs) (slots : List (List ℕ)) (o : OnAir) (first : Edition) (later : List Showing)
    (has : HasSent slots o first later) (times : Times) (written : ℕ) (fits : written ≤ length (air_of times first slots)) (air : Stream)
    (whole : (i : ℤ) → IsSlot (air i)) (on : IsOnAir (air_of times first slots) written air (has.next -ℤ pos (length slots))) where
  abbrev head : ℤ
  head = has.next -ℤ pos (length slots)

  abbrev count : ℕ
  count = written / 42

  are : (i : ℤ) → IsSlot (sent first later i)
  are = playout.sent_slots turn first later has.on_air.editions

  bytes_are : air_of times first slots ≡ file_of (timed_from times first.certificate.lines 0 (sent_from (sent first later) head (length slots)))
  bytes_are = ap (λ xs. file_of (timed_from times first.certificate.lines 0 xs)) (sym has.is_log)

  size_is : length (air_of times first slots) ≡ 42 * length slots
  size_is = ap length bytes_are ∙ file_size timed times first.certificate.lines (sent first later) are 0 head (length slots)

  abbrev clock : ℕ → Moment
  clock k = field_time times ((0 + k) / first.certificate.lines)

  out : (k : ℕ) → k < count → air (head +ℤ pos k) ≡ at_time (clock k) (sent first later (head +ℤ pos k))
  out k lt = on k (omega arith) ∙ ap (λ l. take 42 (drop (42 * k) l)) bytes_are
      ∙ slot_in timed times first.certificate.lines (sent first later) are 0 head (length slots) k (omega (arith, size_is))

  abbrev stream : Stream
  stream = carried timed first later are air whole head count clock out

  is_schedule : (j : ℤ) → head ≤ℤ j → j <ℤ (head +ℤ pos count) → stream j ≡ sent first later j
  is_schedule = inside timed first later are air whole head count clock out

  stream_slots : (j : ℤ) → IsSlot (stream j)
  stream_slots = are_slots timed first later are air whole head count clock out

  is_airing : IsAiring stream air
  is_airing = airing timed first later are air whole head count clock out

pub air_is_seen : EachSlotTurns → TimedIsSentAs → AirIsReceived → SentSoFarIsSeen → AirIsSeen
air_is_seen turn timed receives seen slots o first later has times written fits air whole on p sel from to le within stays tau begin former m received
    low before begun is_former permitted long ends on_still run =
    let head = has.next -ℤ pos (length slots) in
    let s = stream turn timed slots o first later has times written fits air whole on in
    seen first later has.on_air.editions has.on_air.handed s head (head +ℤ pos (written / 42))
    (is_schedule turn timed slots o first later has times written fits air whole on)
    p sel from to le within stays tau begin former m received low before begun is_former
    (receives s air (stream_slots turn timed slots o first later has times written fits air whole on)
    (is_airing turn timed slots o first later has times written fits air whole on)
    p.id first.certificate.repeat tau received permitted) long ends on_still run

pub air_is_shown : EachSlotTurns → TimedIsSentAs → AirIsReceived → SentSoFarIsShown → AirIsShown
air_is_shown turn timed receives shows slots o first later has times written fits air whole on gap p sel from to le within stays follows tau begin former d
    received low before begun is_former permitted long ends on_still run =
    let head = has.next -ℤ pos (length slots) in
    let s = stream turn timed slots o first later has times written fits air whole on in
    shows first later has.on_air.editions has.on_air.handed s head (head +ℤ pos (written / 42))
    (is_schedule turn timed slots o first later has times written fits air whole on)
    p sel from to le within stays gap follows tau begin former d received low before begun is_former
    (receives s air (stream_slots turn timed slots o first later has times written fits air whole on)
    (is_airing turn timed slots o first later has times written fits air whole on)
    p.id first.certificate.repeat tau received permitted) long ends on_still run
