-- All waiting together costs at most one field for each block, so the slots stay within the length bound.
use Rattle.std.proofs.Common.{◌≡◌, ◌≢◌, ℕ, suc, ◌+◌, ◌-◌, ◌*◌, ◌/◌, ◌%◌, ◌<◌, ◌≤◌, Bool, true, false, not, cond, List, [], ◌∷◌, length, take}
use Rattle.std.proofs.Common.{Some, refl, sym, ap, ◌∙◌, subst, arith, inl, inr, eqb, length-append}
use Rattle.std.specs.List.{list_any}
use Rattle.std.proofs.lemmas.Bool.{cond-true, cond-false, cond_both, ltb-true, eqb-true, cases_eq, eq-eqb, ne_eqb, not-false, and_parts}
use Rattle.std.proofs.Math.Nat.{div-add-mod, mul_comm}
use Rattle.std.proofs.lemmas.Nat.{mod-mul-add}
use Rattle.std.proofs.lemmas.Option.{slice_get_within}
use Rattle.ttx_plan.specs.declared.packet.Packet.{Packet}
use Rattle.ttx_plan.specs.declared.packet.Slot.{Slot}
use Rattle.ttx_plan.specs.declared.packet.Slot.TheVariants.{Empty, Info, Sent}
use Rattle.ttx_plan.specs.Packets.{has_header, is_page_header, is_row_or_links, sent_bytes, bytes_of}
use Rattle.ttx_plan.specs.Turns.{Magazines, queue_of, sent_by, turn_from, next_of, waits, may_go, is_ready}
use Rattle.ttx_plan.specs.Turns.{slot_after, KeepsTurns}
use Rattle.ttx_plan.specs.Counting.{sum_to, slots_for, left_in}
use Rattle.ttx_plan.proofs.WaitingMagazines.{until, recent_until, until_more}
use Rattle.ttx_plan.proofs.FirstInOrder.{none_ready}
use Rattle.ttx_plan.proofs.MagazineSums.{sum_le, sum_less, sum_some, drop_next, get_left}
use Rattle.ttx_plan.proofs.CursorsLookBack.{IsFrom, turn_from_queues}

-- a page header of any magazine
abbrev pub has_any_header : Slot → Bool
has_any_header Empty = false
has_any_header (Info bytes) = false
has_any_header (Sent m packet) = is_page_header packet.kind

has_any_header_of : (m : ℕ) (slot : Slot) → has_header m slot ≡ true → has_any_header slot ≡ true
has_any_header_of m Empty h = h
has_any_header_of m (Info bytes) h = h
has_any_header_of m (Sent n packet) h = (and_parts (eqb n m) (is_page_header packet.kind) h).1

abbrev pub infos : List Slot → ℕ
infos [] = 0
infos (Empty ∷ before) = infos before
infos (Info bytes ∷ before) = suc (infos before)
infos (Sent m packet ∷ before) = infos before

abbrev pub others : List Slot → ℕ
others [] = 0
others (Empty ∷ before) = suc (others before)
others (Info bytes ∷ before) = others before
others (Sent m packet ∷ before) = suc (others before)

pub all_slots : (before : List Slot) → length before ≡ infos before + others before
all_slots [] = refl
all_slots (Empty ∷ before) = let h : length before ≡ infos before + others before = all_slots before in omega arith
all_slots (Info bytes ∷ before) = let h : length before ≡ infos before + others before = all_slots before in omega arith
all_slots (Sent m packet ∷ before) = let h : length before ≡ infos before + others before = all_slots before in omega arith

pub sent_bytes_length : (before : List Slot) → length (sent_bytes before) ≡ length before
sent_bytes_length [] = refl
sent_bytes_length (slot ∷ before) = let h : length (sent_bytes before) ≡ length before = sent_bytes_length before
    in omega (arith, length-append (sent_bytes before) (bytes_of slot ∷ []))

abbrev pub ends_info : List Slot → Bool
ends_info (Info bytes ∷ before) = true
ends_info _ = false

-- a packet 8/30 is only where it is due
info_at : (mags : Magazines) (before : List Slot) (bytes : List ℕ) → Info bytes ≡ slot_after mags before → length before % (50 * mags.lines) ≡ 0
info_at mags before bytes h = eqb-true (length before % (50 * mags.lines)) 0 (subst (IsFrom mags before) (sym h) (turn_from_queues mags before)).1

not_both : (n every : ℕ) → 50 ≤ every → n % every ≡ 0 → suc n % every ≡ 0 → ⊥
not_both n every big a b =
    let e : every * (n / every) + n % every ≡ n = div-add-mod n every in
    let f : suc n ≡ (n / every) * every + 1 = omega (arith, e, a, mul_comm every (n / every)) in
    let one : suc n % every ≡ 1 = ap (λ x. x % every) f ∙ mod-mul-add (n / every) every 1 (omega arith) in
    omega arith

abbrev pub Few : List Slot → Type 0
Few before = (infos before ≤ others before + 1) × (ends_info before ≡ false → infos before ≤ others before)

pub few_infos : (mags : Magazines) (before : List Slot) → 1 ≤ mags.lines → KeepsTurns mags before → Few before
few_infos mags [] lines t = (omega arith, λ _. omega arith)
few_infos mags (Empty ∷ before) lines t = let r = few_infos mags before lines t.1 in (omega (arith, r.0), λ _. omega (arith, r.0))
few_infos mags (Sent m packet ∷ before) lines t = let r = few_infos mags before lines t.1 in (omega (arith, r.0), λ _. omega (arith, r.0))
few_infos mags (Info bytes ∷ before) lines t =
    (omega (arith, (few_infos mags before lines t.1).1 (apart before t.1 (info_at mags before bytes t.0))), λ e. let f : true ≡ false = e in cc)
  where
    apart : (b : List Slot) → KeepsTurns mags b → length b % (50 * mags.lines) ≡ 0 → ends_info b ≡ false
    apart (Info c ∷ b) t here = absurd (not_both (length b) (50 * mags.lines) (omega arith) (info_at mags b c t.0) here)
    apart b t here = refl

-- what is left after the magazine's packet
rest_sent : (mags : Magazines) (before : List Slot) (queue : ℕ) (packet : Packet) → next_of mags queue before ≡ Some packet →
    left_in mags before queue ≡ packet ∷ left_in mags (Sent queue packet ∷ before) queue
rest_sent mags before queue packet h = rw (eq-eqb queue queue refl) (drop_next (queue_of mags queue) (sent_by queue before) packet h)

rest_other : (mags : Magazines) (before : List Slot) (queue m : ℕ) (packet : Packet) → m ≢ queue → left_in mags before m
    ≡ left_in mags (Sent queue packet ∷ before) m
rest_other mags before queue m packet ne = rw (ne_eqb queue m (λ e. ne (sym e)))

abbrev pub left_of : Magazines → List Slot → ℕ
left_of mags before = sum_to 8 (λ m. length (left_in mags before m))

abbrev pub work_of : Magazines → List Slot → ℕ
work_of mags before = sum_to 8 (λ m. slots_for mags.lines (left_in mags before m))

pub left_less : (mags : Magazines) (before : List Slot) (queue : ℕ) (packet : Packet) → IsFrom mags before (Sent queue packet) →
    left_of mags before ≡ 1 + left_of mags (Sent queue packet ∷ before)
left_less mags before queue packet h =
    sum_less (λ m. length (left_in mags before m)) (λ m. length (left_in mags (Sent queue packet ∷ before) m)) 1 8 queue h.0
    (omega (arith, ap length (rest_sent mags before queue packet h.1)))
    (λ m ne. ap length (rest_other mags before queue m packet ne))

work_less : (mags : Magazines) (before : List Slot) (queue : ℕ) (packet : Packet) → IsFrom mags before (Sent queue packet) →
    work_of mags before ≡ cond (is_page_header packet.kind) (suc mags.lines) 1 + work_of mags (Sent queue packet ∷ before)
work_less mags before queue packet h =
    sum_less (λ m. slots_for mags.lines (left_in mags before m))
    (λ m. slots_for mags.lines (left_in mags (Sent queue packet ∷ before) m))
    (cond (is_page_header packet.kind) (suc mags.lines) 1) 8 queue h.0
    (ap (slots_for mags.lines) (rest_sent mags before queue packet h.1))
    (λ m ne. ap (slots_for mags.lines) (rest_other mags before queue m packet ne))

-- the slots so far without packets 8/30, the waiting that may still come, and the slots for what is left
abbrev pub total : Magazines → List Slot → ℕ
total mags before = others before + until has_any_header mags.lines before + work_of mags before

-- if a slot is empty though a packet is left, some magazine waits
empty_waits : (mags : Magazines) (before : List Slot) → turn_from before ≤ 8 → Empty ≡ slot_after mags before →
    0 < left_of mags before → 0 < until has_any_header mags.lines before
empty_waits mags before most h some =
    let r = sum_some (λ m. length (left_in mags before m)) 8 some in
    let x = get_left (queue_of mags r.0) (sent_by r.0 before) r.2 in
    let off : is_ready mags before r.0 ≡ false =
    none_ready (is_ready mags before) (turn_from before) most (subst (IsFrom mags before) (sym h) (turn_from_queues mags before)) r.0 r.1 in
    let off' : not (waits mags r.0 before x.0) ≡ false = ap (may_go mags r.0 before) (sym x.1) ∙ off in
    let on : waits mags r.0 before x.0 ≡ true = not-false (waits mags r.0 before x.0) off' in
    let recent : list_any (has_header r.0) (take mags.lines before) ≡ true =
    (and_parts (is_row_or_links x.0.kind) (list_any (has_header r.0) (take mags.lines before)) on).1 in
    omega (
      arith,
      ltb-true 0 (until (has_header r.0) mags.lines before) (sym (recent_until (has_header r.0) mags.lines before) ∙ recent),
      until_more (has_header r.0) has_any_header mags.lines before (has_any_header_of r.0),
    )

pub total_falls : (mags : Magazines) (before : List Slot) (slot : Slot) → turn_from before ≤ 8 → slot ≡ slot_after mags before →
    0 < left_of mags before → total mags (slot ∷ before) ≤ total mags before
total_falls mags before Empty most h some = omega (arith, empty_waits mags before most h some)
total_falls mags before (Info bytes) most h some = omega arith
total_falls mags before (Sent queue packet) most h some =
    let from : IsFrom mags before (Sent queue packet) = subst (IsFrom mags before) (sym h) (turn_from_queues mags before) in
    by (is_page_header packet.kind) (work_less mags before queue packet from)
  where
    by : (b : Bool) → work_of mags before ≡ cond b (suc mags.lines) 1 + work_of mags (Sent queue packet ∷ before) →
        suc (others before) + cond b mags.lines (until has_any_header mags.lines before - 1) + work_of mags (Sent queue packet ∷ before)
        ≤ others before + until has_any_header mags.lines before + work_of mags before
    by true less = omega arith
    by false less = omega arith

work_some : (lines : ℕ) (packets : List Packet) → length packets ≤ slots_for lines packets
work_some lines [] = omega arith
work_some lines (packet ∷ rest) =
    omega (
      arith,
      work_some lines rest,
      cond_both (is_page_header packet.kind) (suc lines) 1 (λ x. 1 ≤ x) (λ _. omega arith) (λ _. omega arith),
    )

pub left_work : (mags : Magazines) (before : List Slot) → left_of mags before ≤ work_of mags before
left_work mags before = sum_le (λ m. length (left_in mags before m)) (λ m. slots_for mags.lines (left_in mags before m)) 8
    (λ m lt. work_some mags.lines (left_in mags before m))

-- there is room for one more slot while a packet is left
pub room : (mags : Magazines) (before : List Slot) (q : ℕ) → 1 ≤ mags.lines → KeepsTurns mags before → total mags before ≤ q → 2 * q
    ≤ 65536 → 0 < left_of mags before → length before < 65536
room mags before q lines t most small some =
    omega (arith, all_slots before, (few_infos mags before lines t).0, left_work mags before)

pub sent_most : (mags : Magazines) (before : List Slot) → KeepsTurns mags before → (m : ℕ) → m < 8 → sent_by m before ≤ length (queue_of mags m)
sent_most mags [] t m lt = omega arith
sent_most mags (Empty ∷ before) t m lt = sent_most mags before t.1 m lt
sent_most mags (Info bytes ∷ before) t m lt = sent_most mags before t.1 m lt
sent_most mags (Sent queue packet ∷ before) t m lt =
    let from : IsFrom mags before (Sent queue packet) = subst (IsFrom mags before) (sym t.0) (turn_from_queues mags before) in
    let h : sent_by m before ≤ length (queue_of mags m) = sent_most mags before t.1 m lt in
    elim (cases_eq m queue) as (λ _. cond (eqb queue m) (suc (sent_by m before)) (sent_by m before) ≤ length (queue_of mags m)) [
      | inl e ↦
          let within : sent_by m before < length (queue_of mags m) =
          slice_get_within (queue_of mags m) (sent_by m before) packet (ap (λ x. next_of mags x before) e ∙ from.1) in
          rw (cond-true (eqb queue m) (suc (sent_by m before)) (sent_by m before) (eq-eqb queue m (sym e))) (omega arith)
      | inr ne ↦ rw (cond-false (eqb queue m) (suc (sent_by m before)) (sent_by m before) (ne_eqb queue m (λ e. ne (sym e)))) h
    ]
