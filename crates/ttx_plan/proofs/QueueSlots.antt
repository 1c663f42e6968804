-- The packets of a magazine's queue among slots: they are the queue, in a serial cycle and in a parallel one.
use Rattle.std.proofs.Common.{◌≡◌, ℕ, zero, suc, ◌+◌, ◌<◌, Bool, true, false, not, ◌&&◌, cond, eqb, ltb, List, [], ◌∷◌, ◌++◌, map, length, replicate}
use Rattle.std.proofs.Common.{take, get_or, Option, Some, None, refl, sym, ap, ◌∙◌, subst, arith, inl, inr, append-nil}
use Rattle.std.specs.Prelude.{flat_map}
use Rattle.std.proofs.Math.Seq.{take-length}
use Rattle.std.proofs.lemmas.Bool.{cases_eq, eq-eqb, ne_eqb, lt-ltb, le-ltb}
use Rattle.std.proofs.lemmas.Bool.Decides.{nat_tests}
use Rattle.std.proofs.lemmas.List.{map-append, map-id, length-append}
use Rattle.std.proofs.lemmas.List.Concat.{flat_map-append}
use Rattle.ttx_plan.specs.declared.packet.Packet.{Packet}
use Rattle.ttx_plan.specs.declared.packet.Slot.{Slot}
use Rattle.ttx_plan.specs.declared.packet.Slot.TheVariants.{Empty, Info, Sent}
use Rattle.ttx_plan.specs.Blocks.{Block, header_packet, rest_packet, filler_of, packets_of, has_pages, used_to, used_queues}
use Rattle.ttx_plan.specs.Blocks.{time_filling_packet, queue_packets, queues_to}
use Rattle.ttx_plan.specs.Carries.{magazines_for}
use Rattle.ttx_plan.specs.Packets.{is_row_or_links, bytes_of, sent_bytes}
use Rattle.ttx_plan.specs.Serial.{serial_block, serial_list, info_if, with_info, serial_slots}
use Rattle.ttx_plan.specs.Turns.{Magazines, queue_of, sent_by, next_of, is_info_due, missing, KeepsTurns, IsParallel}
use Rattle.ttx_plan.proofs.CursorsLookBack.{IsFrom, turn_from_queues}
use Rattle.ttx_plan.proofs.ServicePages.{take_next}

-- a header of the magazine
abbrev pub heads : ℕ → Slot → Bool
heads mag Empty = false
heads mag (Info bytes) = false
heads mag (Sent m packet) = eqb m mag && not (is_row_or_links packet.kind)

-- the packet of the queue that a slot holds, if it holds one
abbrev pub held : ℕ → Slot → List Packet
held queue Empty = []
held queue (Info bytes) = []
held queue (Sent m packet) = cond (eqb m queue) (packet ∷ []) []

-- the packets of the queue among slots
abbrev pub of_queue : ℕ → List Slot → List Packet
of_queue queue slots = flat_map (held queue) slots

-- filling adds none of them
pub queue_filled : (queue n : ℕ) (slots : List Slot) → of_queue queue (slots ++ replicate n Empty) ≡ of_queue queue slots
queue_filled queue n slots =
    flat_map-append (held queue) slots (replicate n Empty) ∙ ap (λ z. of_queue queue slots ++ z) (none_held n) ∙ append-nil (of_queue queue slots)
  where
    none_held : (n : ℕ) → of_queue queue (replicate n Empty) ≡ []
    none_held zero = refl
    none_held (suc n) = none_held n

-- ---- serial transmission

module _ (queue lines : ℕ) where
  queue_info : (info : Option (List ℕ)) (at : ℕ) (slots : List Slot) → of_queue queue (with_info lines info at slots) ≡ of_queue queue slots
  queue_info info at [] = refl
  queue_info info at (slot ∷ slots) =
      rw (flat_map-append, none info (is_info_due lines at), queue_info info (at + length (info_if info (is_info_due lines at)) + 1) slots)
    where
      none : (o : Option (List ℕ)) (due : Bool) → of_queue queue (info_if o due) ≡ []
      none None due = refl
      none (Some bytes) true = refl
      none (Some bytes) false = refl

  -- packets of one queue
  queue_own : {A : Type 0} (m : ℕ) (f : A → Packet) (xs : List A) → of_queue queue (map (λ x. Sent m (f x)) xs) ≡ cond (eqb m queue) (map f xs) []
  queue_own m f [] = by (eqb m queue)
    where
      by : (b : Bool) → ◌≡◌ {A = List Packet} [] (cond b [] [])
      by true = refl
      by false = refl
  queue_own m f (x ∷ xs) = ap (λ z. cond (eqb m queue) (f x ∷ []) [] ++ z) (queue_own m f xs) ∙ by (eqb m queue)
    where
      by : (b : Bool) → cond b (f x ∷ []) [] ++ cond b (map f xs) [] ≡ cond b (f x ∷ map f xs) []
      by true = refl
      by false = refl

  queue_block : (block : Block) → of_queue queue (serial_block lines block) ≡ cond (eqb block.queue queue) (packets_of true block) []
  queue_block block =
      rw (
        flat_map-append (held queue),
        queue_own block.queue (λ p. p) (filler_of true block),
        map-id,
        flat_map-append (held queue) (replicate lines Empty),
        queue_filled queue lines [],
        queue_own block.queue rest_packet block.rest,
      ) (by (eqb block.queue queue))
    where
      by : (b : Bool) → cond b (filler_of true block) [] ++ (cond b (header_packet block.header ∷ []) [] ++ cond b (map rest_packet block.rest) [])
          ≡ cond b (packets_of true block) []
      by true = refl
      by false = refl

  queue_blocks : (sent : List Block) → of_queue queue (flat_map (serial_block lines) sent)
      ≡ flat_map (λ block. cond (eqb block.queue queue) (packets_of true block) []) sent
  queue_blocks [] = refl
  queue_blocks (block ∷ sent) = rw (flat_map-append, queue_block block, queue_blocks sent)

  abbrev fill : ℕ → Slot
  fill m = Sent m (time_filling_packet true m)

  -- the time-filling headers at the end
  queue_used : (sent : List Block) (n : ℕ) → of_queue queue (map fill (used_to sent n))
      ≡ cond (ltb queue n && has_pages sent queue) (time_filling_packet true queue ∷ []) []
  queue_used sent zero = ap (λ b. cond (b && has_pages sent queue) (time_filling_packet true queue ∷ []) []) (sym (le-ltb queue 0 (omega arith)))
  queue_used sent (suc n) =
      ap (of_queue queue) (map-append fill (used_to sent n) (cond (has_pages sent n) (n ∷ []) []))
      ∙ flat_map-append (held queue) (map fill (used_to sent n)) (map fill (cond (has_pages sent n) (n ∷ []) []))
      ∙ ap (λ z. z ++ of_queue queue (map fill (cond (has_pages sent n) (n ∷ []) []))) (queue_used sent n)
      ∙ ap (λ z. cond (ltb queue n && has_pages sent queue) (time_filling_packet true queue ∷ []) [] ++ z) (one (has_pages sent n) (eqb n queue) refl)
      ∙ more
    where
      one : (b own : Bool) → eqb n queue ≡ own → of_queue queue (map fill (cond b (n ∷ []) []))
          ≡ cond (own && b) (time_filling_packet true n ∷ []) []
      one true true e = rw e
      one true false e = rw e
      one false true e = refl
      one false false e = refl

      more : cond (ltb queue n && has_pages sent queue) (time_filling_packet true queue ∷ []) []
          ++ cond (eqb n queue && has_pages sent n) (time_filling_packet true n ∷ []) []
          ≡ cond (ltb queue (suc n) && has_pages sent queue) (time_filling_packet true queue ∷ []) []
      more = elim (cases_eq n queue) as (λ _. cond (ltb queue n && has_pages sent queue) (time_filling_packet true queue ∷ []) []
          ++ cond (eqb n queue && has_pages sent n) (time_filling_packet true n ∷ []) []
          ≡ cond (ltb queue (suc n) && has_pages sent queue) (time_filling_packet true queue ∷ []) []) [
            | inl e ↦ rw (le-ltb queue n (omega arith), lt-ltb queue (suc n) (omega arith), eq-eqb n queue e)
                (ap (λ m. cond (has_pages sent m) (time_filling_packet true m ∷ []) []) e)
            | inr ne ↦ rw (ne_eqb n queue ne, same ne) (append-nil _)
          ]
        where
          same : (n ≡ queue → ⊥) → ltb queue (suc n) ≡ ltb queue n
          same ne = grind (arith, nat_tests)

pub serial_queue : (queue : ℕ) → queue < 8 → (lines : ℕ) (info : Option (List ℕ)) (sent : List Block) →
    of_queue queue (serial_slots lines info sent) ≡ queue_packets true sent queue
serial_queue queue lt lines info sent =
    let laid = with_info lines info 0 (serial_list lines sent) in
    let blocks = flat_map (serial_block lines) sent in
    let fillings = map (fill queue lines) (used_queues sent) in
    queue_filled queue (missing lines (length laid)) laid ∙ queue_info queue lines info 0 (serial_list lines sent)
    ∙ flat_map-append (held queue) blocks fillings
    ∙ ap (λ z. z ++ of_queue queue fillings) (queue_blocks queue lines sent)
    ∙ ap (λ z. flat_map (λ block. cond (eqb block.queue queue) (packets_of true block) []) sent ++ z)
    (queue_used queue lines sent 8 ∙ ap (λ b. cond (b && has_pages sent queue) (time_filling_packet true queue ∷ []) []) (lt-ltb queue 8 lt))

-- ---- parallel transmission

-- the slots in the order of sending: the latest at the end
abbrev pub timed : List Slot → List Slot
timed [] = []
timed (slot ∷ before) = timed before ++ slot ∷ []

pub timed_bytes : (before : List Slot) → sent_bytes before ≡ map bytes_of (timed before)
timed_bytes [] = refl
timed_bytes (slot ∷ before) = ap (λ z. z ++ bytes_of slot ∷ []) (timed_bytes before) ∙ sym (map-append bytes_of (timed before) (slot ∷ []))

pub timed_length : (before : List Slot) → length (timed before) ≡ length before
timed_length [] = refl
timed_length (slot ∷ before) = omega (arith, length-append (timed before) (slot ∷ []), timed_length before)

in_order : (mags : Magazines) (before : List Slot) → KeepsTurns mags before → (m : ℕ) → of_queue m (timed before)
    ≡ take (sent_by m before) (queue_of mags m)
in_order mags [] t m = refl
in_order mags (slot ∷ before) t m =
    flat_map-append (held m) (timed before) (slot ∷ []) ∙ ap (λ z. z ++ (held m slot ++ [])) (in_order mags before t.1 m)
    ∙ next slot (subst (IsFrom mags before) (sym t.0) (turn_from_queues mags before))
  where
    next : (s : Slot) → IsFrom mags before s → take (sent_by m before) (queue_of mags m) ++ (held m s ++ [])
        ≡ take (sent_by m (s ∷ before)) (queue_of mags m)
    next Empty from = append-nil _
    next (Info bytes) from = append-nil _
    next (Sent mag packet) from = elim (cases_eq mag m) as (λ _. take (sent_by m before) (queue_of mags m) ++ (held m (Sent mag packet) ++ [])
        ≡ take (sent_by m (Sent mag packet ∷ before)) (queue_of mags m)) [
          | inl e ↦ rw (eq-eqb mag m e) (sym (take_next (queue_of mags m) (sent_by m before) packet
              (ap (λ x. next_of mags x before) (sym e) ∙ from.1)))
          | inr ne ↦ rw (ne_eqb mag m ne) (append-nil _)
        ]

pub queue_at_is : (blocks : List Block) (m : ℕ) → m < 8 → get_or (queues_to blocks 8) m [] ≡ queue_packets false blocks m
queue_at_is blocks zero lt = refl
queue_at_is blocks (suc zero) lt = refl
queue_at_is blocks (suc (suc zero)) lt = refl
queue_at_is blocks (suc (suc (suc zero))) lt = refl
queue_at_is blocks (suc (suc (suc (suc zero)))) lt = refl
queue_at_is blocks (suc (suc (suc (suc (suc zero))))) lt = refl
queue_at_is blocks (suc (suc (suc (suc (suc (suc zero)))))) lt = refl
queue_at_is blocks (suc (suc (suc (suc (suc (suc (suc zero))))))) lt = refl
queue_at_is blocks (suc (suc (suc (suc (suc (suc (suc (suc m)))))))) lt = absurd (omega arith)

pub parallel_queue : (lines : ℕ) (info : Option (List ℕ)) (sent : List Block) (cycle : List (List ℕ))
    (p : IsParallel (magazines_for lines info sent) cycle) → (queue : ℕ) → queue < 8 →
    of_queue queue (timed p.before) ≡ queue_packets false sent queue
parallel_queue lines info sent cycle p queue lt =
    in_order (magazines_for lines info sent) p.before p.turns queue
    ∙ ap (λ n. take n (queue_of (magazines_for lines info sent) queue)) (p.all_sent queue lt)
    ∙ take-length (queue_of (magazines_for lines info sent) queue) ∙ queue_at_is sent queue lt
