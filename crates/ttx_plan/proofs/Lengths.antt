-- The packets of the queues add up to the count in the length bound, and the slots of a serial cycle are within it.
use Rattle.std.proofs.Common.{◌≡◌, ℕ, zero, suc, ◌+◌, ◌*◌, ◌<◌, ◌≤◌, Bool, true, false, cond, List, [], ◌∷◌, ◌++◌, map, length, replicate, Option}
use Rattle.std.proofs.Common.{refl, sym, ap, ◌∙◌, subst, arith, eqb, length-append, get_or}
use Rattle.std.specs.Prelude.{flat_map, sum_by}
use Rattle.std.proofs.lemmas.List.{map-append, length-map, length-replicate}
use Rattle.std.proofs.lemmas.List.Sums.{sum_by-cons}
use Rattle.std.proofs.lemmas.Bool.{cond-true, cond-false, eq-eqb, ne_eqb}
use Rattle.ttx_plan.specs.declared.packet.Packet.{Packet}
use Rattle.ttx_plan.specs.declared.packet.Slot.{Slot}
use Rattle.ttx_plan.specs.declared.packet.Slot.TheVariants.{Empty, Sent}
use Rattle.ttx_plan.specs.declared.rounds.SentBlock.{SentBlock}
use Rattle.ttx_plan.specs.Blocks.{Block, rest_packet, filler_of, page_packets, packets_of, has_pages, used_to, used_queues, time_filling_packet}
use Rattle.ttx_plan.specs.Blocks.{queue_packets, queues_to, packets_in}
use Rattle.ttx_plan.specs.Counting.{sum_to, slots_for}
use Rattle.ttx_plan.specs.Packets.{bytes_of, is_page_header}
use Rattle.ttx_plan.specs.Seen.{seen_sent}
use Rattle.ttx_plan.specs.Serial.{serial_page, serial_block, serial_list, with_info, IsLaid, to_whole_field}
use Rattle.ttx_plan.specs.Turns.{missing}
use Rattle.ttx_plan.proofs.MagazineSums.{sum_same, sum_less}
use Rattle.ttx_plan.proofs.LaidSlots.{laid_length}

-- each block belongs to one of the eight queues

abbrev pub AreQueued : List Block → Type 0
AreQueued [] = Unit {0}
AreQueued (b ∷ blocks) = (b.queue < 8) × AreQueued blocks

pub queued_sent : (sent : List SentBlock) → AreQueued (map seen_sent sent)
queued_sent [] = tt
queued_sent (b ∷ sent) = (b.block.now.queue_to, queued_sent sent)

-- the packets of the queues

slots_for-append : (lines : ℕ) (xs ys : List Packet) → slots_for lines (xs ++ ys) ≡ slots_for lines xs + slots_for lines ys
slots_for-append lines [] ys = omega arith
slots_for-append lines (x ∷ xs) ys = omega (arith, slots_for-append lines xs ys)

slots_for-rest : (lines : ℕ) (xs : List (List ℕ)) → slots_for lines (map rest_packet xs) ≡ length xs
slots_for-rest lines [] = refl
slots_for-rest lines (x ∷ xs) = let h : slots_for lines (map rest_packet xs) ≡ length xs = slots_for-rest lines xs in omega arith

sum_add : (f g : ℕ → ℕ) (n : ℕ) → sum_to n (λ m. f m + g m) ≡ sum_to n f + sum_to n g
sum_add f g zero = refl
sum_add f g (suc n) = let h : sum_to n (λ m. f m + g m) ≡ sum_to n f + sum_to n g = sum_add f g n in omega arith

-- a block's packets in this queue
abbrev pub in_queue : ℕ → Block → List Packet
in_queue queue block = cond (eqb block.queue queue) (packets_of false block) []

-- the packets of a block, and its time-filling header
abbrev pub size_of : Block → ℕ
size_of block = cond block.filler 1 0 + (length block.rest + 1)

own_slots : (lines : ℕ) (block : Block) → slots_for lines (packets_of false block) ≡ size_of block + lines
own_slots lines block =
    slots_for-append lines (filler_of false block) (page_packets block)
    ∙ ap (λ n. n + slots_for lines (page_packets block)) (one block.filler)
    ∙ ap (λ n. cond block.filler 1 0 + (suc lines + n)) (slots_for-rest lines block.rest) ∙ omega arith
  where
    one : (b : Bool) → slots_for lines (cond b (time_filling_packet false block.queue ∷ []) []) ≡ cond b 1 0
    one true = refl
    one false = refl

blocks_slots : (lines : ℕ) (blocks : List Block) → AreQueued blocks → sum_to 8 (λ m. slots_for lines (flat_map (in_queue m) blocks))
    ≡ sum_by size_of blocks + length blocks * lines
blocks_slots lines [] a = omega arith
blocks_slots lines (block ∷ blocks) a =
    let h : sum_to 8 (λ m. slots_for lines (flat_map (in_queue m) blocks)) ≡ sum_by size_of blocks + length blocks * lines =
    blocks_slots lines blocks a.1 in
    let k : sum_to 8 (λ m. slots_for lines (in_queue m block ++ flat_map (in_queue m) blocks)) ≡ (size_of block + lines)
    + sum_to 8 (λ m. slots_for lines (flat_map (in_queue m) blocks)) =
    sum_less (λ m. slots_for lines (in_queue m block ++ flat_map (in_queue m) blocks))
    (λ m. slots_for lines (flat_map (in_queue m) blocks)) (size_of block + lines) 8 block.queue a.0
    (slots_for-append lines (in_queue block.queue block) (flat_map (in_queue block.queue) blocks)
    ∙ ap (λ n. n + slots_for lines (flat_map (in_queue block.queue) blocks)) (own block))
    (λ m ne. ap (λ x. slots_for lines (x ++ flat_map (in_queue m) blocks))
    (cond-false (eqb block.queue m) (packets_of false block) [] (ne_eqb block.queue m (λ e. ne (sym e))))) in
    let z : suc (length blocks) * lines ≡ lines + length blocks * lines = omega arith in
    k ∙ omega (arith, h, z, sum_by-cons size_of block blocks)
  where
    own : (b : Block) → slots_for lines (in_queue b.queue b) ≡ size_of b + lines
    own b = ap (slots_for lines) (cond-true (eqb b.queue b.queue) (packets_of false b) [] (eq-eqb b.queue b.queue refl)) ∙ own_slots lines b

fillings_slots : (lines : ℕ) (blocks : List Block) (n : ℕ) →
    sum_to n (λ m. slots_for lines (cond (has_pages blocks m) (time_filling_packet false m ∷ []) [])) ≡ length (used_to blocks n)
fillings_slots lines blocks zero = refl
fillings_slots lines blocks (suc n) =
    omega (
      arith,
      fillings_slots lines blocks n,
      one (has_pages blocks n),
      length-append (used_to blocks n) (cond (has_pages blocks n) (n ∷ []) []),
    )
  where
    one : (b : Bool) → slots_for lines (cond b (time_filling_packet false n ∷ []) []) ≡ length (cond b (n ∷ []) [])
    one true = refl
    one false = refl

pub queues_slots : (lines : ℕ) (blocks : List Block) → AreQueued blocks → sum_to 8 (λ m. slots_for lines (queue_packets false blocks m))
    ≡ packets_in blocks + length blocks * lines + length (used_queues blocks)
queues_slots lines blocks a =
    sum_same (λ m. slots_for lines (queue_packets false blocks m))
    (λ m. slots_for lines (flat_map (in_queue m) blocks)
    + slots_for lines (cond (has_pages blocks m) (time_filling_packet false m ∷ []) [])) 8
    (λ m lt. slots_for-append lines (flat_map (in_queue m) blocks) (cond (has_pages blocks m) (time_filling_packet false m ∷ []) []))
    ∙ sum_add (λ m. slots_for lines (flat_map (in_queue m) blocks))
    (λ m. slots_for lines (cond (has_pages blocks m) (time_filling_packet false m ∷ []) [])) 8
    ∙ ap (λ n. n + sum_to 8 (λ m. slots_for lines (cond (has_pages blocks m) (time_filling_packet false m ∷ []) []))) (blocks_slots lines blocks a)
    ∙ ap (λ n. sum_by size_of blocks + length blocks * lines + n) (fillings_slots lines blocks 8)

-- where nothing waits, each packet takes one slot
slots_for_none : (xs : List Packet) → slots_for 0 xs ≡ length xs
slots_for_none [] = refl
slots_for_none (x ∷ xs) = let h : slots_for 0 xs ≡ length xs = slots_for_none xs in by (is_page_header x.kind) h
  where
    by : (b : Bool) → slots_for 0 xs ≡ length xs → cond b 1 1 + slots_for 0 xs ≡ suc (length xs)
    by true h = omega arith
    by false h = omega arith

pub queues_some : (blocks : List Block) → AreQueued blocks → 0 < length blocks → 0 < sum_to 8 (λ m. length (queue_packets false blocks m))
queues_some [] a h = absurd (omega arith)
queues_some (block ∷ blocks) a h =
    let sent = block ∷ blocks in
    omega (
      arith,
      sum_same (λ m. slots_for 0 (queue_packets false sent m)) (λ m. length (queue_packets false sent m)) 8
          (λ m lt. slots_for_none (queue_packets false sent m)),
      queues_slots 0 sent a,
      sum_by-cons size_of block blocks,
    )

-- the same with queues as lists
pub over_queues : (f : List Packet → ℕ) (blocks : List Block) (lists : List (List Packet)) → lists ≡ queues_to blocks 8 →
    sum_to 8 (λ m. f (get_or lists m [])) ≡ sum_to 8 (λ m. f (queue_packets false blocks m))
over_queues f blocks lists e = subst (λ x. sum_to 8 (λ m. f (get_or x m [])) ≡ sum_to 8 (λ m. f (queue_packets false blocks m))) (sym e) refl

-- serial transmission

empties : (n : ℕ) → map bytes_of (replicate n Empty) ≡ replicate n (replicate 42 0)
empties zero = refl
empties (suc n) = ap (λ x. replicate 42 0 ∷ x) (empties n)

-- slots and the empty ones that fill up the last field
pub padded_length : (slots : List (List ℕ)) (n : ℕ) → length (slots ++ replicate n (replicate 42 0)) ≡ length slots + n
padded_length slots n = length-append slots (replicate n (replicate 42 0)) ∙ ap (λ m. length slots + m) (length-replicate n (replicate 42 0))

-- laid slots, filled
pub serial_filled : (lines : ℕ) (info : Option (List ℕ)) (list : List Slot) (slots new : List (List ℕ)) → IsLaid lines info list slots →
    new ≡ slots ++ replicate (missing lines (length slots)) (replicate 42 0) →
    new ≡ map bytes_of (to_whole_field lines (with_info lines info 0 list))
serial_filled lines info list slots new l e =
    rw (e, l.slots_are, map-append) (rw (length-map, empties (missing lines (length (with_info lines info 0 list)))))

page_length : (lines : ℕ) (block : Block) → length (serial_page lines block) ≡ suc lines + length block.rest
page_length lines block =
    omega (
      arith,
      length-append (replicate lines Empty) (map (λ bytes. Sent block.queue (rest_packet bytes)) block.rest),
      length-replicate lines Empty,
      length-map block.rest (λ bytes. Sent block.queue (rest_packet bytes)),
    )

block_length : (lines : ℕ) (block : Block) → length (serial_block lines block) ≡ size_of block + lines
block_length lines block =
    omega (
      arith,
      length-append (map (Sent block.queue) (filler_of true block)) (serial_page lines block),
      length-map (filler_of true block) (Sent block.queue),
      one block.filler,
      page_length lines block,
    )
  where
    one : (b : Bool) → length (cond b (time_filling_packet true block.queue ∷ []) []) ≡ cond b 1 0
    one true = refl
    one false = refl

blocks_length : (lines : ℕ) (blocks : List Block) → length (flat_map (serial_block lines) blocks) ≡ sum_by size_of blocks + length blocks * lines
blocks_length lines [] = omega arith
blocks_length lines (block ∷ blocks) =
    let h : length (flat_map (serial_block lines) blocks) ≡ sum_by size_of blocks + length blocks * lines = blocks_length lines blocks in
    let z : suc (length blocks) * lines ≡ lines + length blocks * lines = omega arith in
    omega (
      arith,
      h,
      z,
      sum_by-cons size_of block blocks,
      block_length lines block,
      length-append (serial_block lines block) (flat_map (serial_block lines) blocks),
    )

serial_length : (lines : ℕ) (blocks : List Block) → length (serial_list lines blocks) ≡ packets_in blocks + length blocks * lines
    + length (used_queues blocks)
serial_length lines blocks =
    omega (
      arith,
      length-append (flat_map (serial_block lines) blocks)
          (map (λ queue. Sent queue (time_filling_packet true queue)) (used_queues blocks)),
      blocks_length lines blocks,
      length-map (used_queues blocks) (λ queue. Sent queue (time_filling_packet true queue)),
    )

pub filled_most : (lines : ℕ) (info : Option (List ℕ)) (blocks : List Block) (slots new : List (List ℕ)) → 1 ≤ lines →
    IsLaid lines info (serial_list lines blocks) slots →
    new ≡ slots ++ replicate (missing lines (length slots)) (replicate 42 0) →
    2 * (packets_in blocks + length blocks * lines + length (used_queues blocks)) + 2 * lines ≤ 65536 → length new ≤ 65536
filled_most lines info blocks slots new some l e few =
    bound (length new) (length slots) (missing lines (length slots)) (length (serial_list lines blocks)) lines
    (ap length e ∙ padded_length slots (missing lines (length slots))) (omega arith)
    (laid_length lines info (serial_list lines blocks) slots l).1
    (subst (λ n. 2 * n + 2 * lines ≤ 65536) (sym (serial_length lines blocks)) few)
  where
    bound : (n s m l lines : ℕ) → n ≡ s + m → m ≤ lines → s ≤ 2 * l → 2 * l + 2 * lines ≤ 65536 → n ≤ 65536
    bound n s m l lines a b c d = omega arith

-- a cycle has at least one slot

serial_some : (lines : ℕ) (blocks : List Block) → 0 < length blocks → 0 < length (serial_list lines blocks)
serial_some lines [] h = absurd (omega arith)
serial_some lines (block ∷ blocks) h = omega (arith, serial_length lines (block ∷ blocks), sum_by-cons size_of block blocks)

pub filled_some : (lines : ℕ) (info : Option (List ℕ)) (blocks : List Block) (slots new : List (List ℕ)) → 0 < length blocks →
    IsLaid lines info (serial_list lines blocks) slots →
    new ≡ slots ++ replicate (missing lines (length slots)) (replicate 42 0) → 0 < length new
filled_some lines info blocks slots new some l e =
    omega (
      arith,
      serial_some lines blocks some,
      (laid_length lines info (serial_list lines blocks) slots l).0,
      ap length e ∙ padded_length slots (missing lines (length slots)),
    )
