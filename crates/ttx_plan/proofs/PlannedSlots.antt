-- The slots of a planned cycle, serial or parallel: each is read as what it is, and together they have the packets of each queue.
use Rattle.std.proofs.Common.{◌≡◌, ℕ, zero, suc, ◌<◌, Bool, true, false, List, [], ◌∷◌, ◌++◌, map, length, replicate, get_or, Option, Some}
use Rattle.std.proofs.Common.{refl, sym, ap, ◌∙◌, subst, inl, inr, arith}
use Rattle.std.specs.Prelude.{All, slice_get, option_map}
use Rattle.std.specs.List.{AllByRecursion}
use Rattle.std.proofs.lemmas.Bool.{cases_lt}
use Rattle.std.proofs.lemmas.List.{map-append, length-map, get_or-map, get_or_past}
use Rattle.std.proofs.lemmas.Option.{slice_get-map}
use Rattle.ttx_info.specs.Infos.{InfoFields, info_bytes}
use Rattle.ttx_page.specs.declared.class.Class.{Class}
use Rattle.ttx_page.specs.Packets.{packet_of}
use Rattle.ttx_page.specs.Streams as S
use Rattle.ttx_source.specs.Services.{Authored, ServiceFields, IsAuthored, IsService}
use Rattle.ttx_plan.specs.declared.rounds.SentBlock.{SentBlock}
use Rattle.ttx_plan.specs.declared.packet.Packet.{Packet}
use Rattle.ttx_plan.specs.declared.packet.Slot.{Slot}
use Rattle.ttx_plan.specs.declared.packet.Slot.TheVariants.{Empty, Sent}
use Rattle.ttx_plan.specs.Blocks.{Block, led, at_place, placed, rounds_to, queue_packets}
use Rattle.ttx_plan.specs.Carries.{CarriesBlocks, CarriesAt, magazines_for, block_at, blocks_of, blocks_sent_at}
use Rattle.ttx_plan.specs.Laws.{IsSaid}
use Rattle.ttx_plan.specs.Packets.{bytes_of}
use Rattle.ttx_plan.specs.Ranges.{ArePlaces}
use Rattle.ttx_plan.specs.Seen.{seen_sent}
use Rattle.ttx_plan.specs.Serial.{serial_slots}
use Rattle.ttx_plan.specs.Turns.{missing}
use Rattle.ttx_plan.proofs.ListElements.{Has, has_get}
use Rattle.ttx_plan.proofs.PlacedBlocks.{placed_has, in_its_round}
use Rattle.ttx_plan.proofs.QueueBlocks.{IsPageBlock, HeadsOwn, UpToHeader, Tails, sent_are_blocks, queue_led}
use Rattle.ttx_plan.proofs.QueueSlots.{heads, of_queue, queue_filled, serial_queue, parallel_queue, timed, timed_bytes}
use Rattle.ttx_plan.proofs.ReadPackets.{LawsBelow, Reads, heads_fit}
use Rattle.ttx_plan.proofs.ReadSlots.{serial_read, parallel_read, read_there}
use Rattle.ttx_plan.proofs.SentBlocks.{led_has}
use Rattle.ttx_plan.proofs.ServicePages.{blocks_in_rounds}
use Rattle.ttx_plan.proofs.SpacedRows.{AreSpaced, serial_spaced, parallel_spaced}

pub record IsLaidOut (pages : List Authored) (serial : Bool) (lines : ℕ) (class : Class) (sent : List Block) (cycle : List (List ℕ)) : Type 0 where
  pub slots : List Slot
  pub cycle_is : cycle ≡ map bytes_of slots
  pub reads : (i : ℕ) → Reads pages serial (get_or slots i Empty)
  pub in_queue : (queue : ℕ) → queue < 8 → of_queue queue slots ≡ queue_packets serial sent queue
  pub blocks : AllByRecursion (IsPageBlock pages serial class) sent
  pub spaced : AreSpaced lines serial slots

laid : LawsBelow → (serial : Bool) (lines : ℕ) (info : Option InfoFields) (class : Class) (pages : List Authored) (sent : List Block)
    (cycle : List (List ℕ)) → IsSaid info → AllByRecursion (IsPageBlock pages serial class) sent →
    CarriesBlocks serial lines (option_map info_bytes info) sent cycle → IsLaidOut pages serial lines class sent cycle
laid laws true lines info class pages sent cycle said blocks carries = record {
  slots = serial_slots lines (option_map info_bytes info) sent;
  cycle_is = carries;
  reads = read_there laws pages true _ (serial_read laws pages class lines info said sent blocks);
  in_queue = λ queue lt. serial_queue queue lt lines (option_map info_bytes info) sent;
  blocks = blocks;
  spaced = serial_spaced lines (option_map info_bytes info) sent;
}
laid laws false lines info class pages sent cycle said blocks carries =
    let n = missing lines (length carries.before) in
    record {
      slots = timed carries.before ++ replicate n Empty;
      cycle_is = carries.cycle_is ∙ ap (λ z. z ++ replicate n (replicate 42 0)) (timed_bytes carries.before)
          ∙ ap (λ z. map bytes_of (timed carries.before) ++ z) (empties n)
          ∙ sym (map-append bytes_of (timed carries.before) (replicate n Empty));
      reads = read_there laws pages false _ (parallel_read laws pages class lines info said sent blocks carries.before n carries.turns);
      in_queue = λ queue lt. queue_filled queue n (timed carries.before)
          ∙ parallel_queue lines (option_map info_bytes info) sent cycle carries queue lt;
      blocks = blocks;
      spaced = parallel_spaced (magazines_for lines (option_map info_bytes info) sent) carries.before n carries.turns;
    }
  where
    empties : (n : ℕ) → replicate n (bytes_of Empty) ≡ map bytes_of (replicate n Empty)
    empties zero = refl
    empties (suc n) = ap (λ z. bytes_of Empty ∷ z) (empties n)

abbrev pub IsPlannedLayout : List ℕ → Bool → Class → ServiceFields → List (List ℕ) → Type 0
IsPlannedLayout places late class service cycle =
    IsLaidOut service.pages service.serial service.lines class (blocks_sent_at places late class service.pages) cycle

pub laid_out : LawsBelow → (places : List ℕ) (late : Bool) (class : Class) (service : ServiceFields) (cycle : List (List ℕ)) → IsService service →
    IsSaid service.info → CarriesAt places late class service cycle → IsPlannedLayout places late class service cycle
laid_out laws places late class service cycle is said carries =
    laid laws service.serial service.lines service.info class service.pages (blocks_sent_at places late class service.pages) cycle said
    (sent_are_blocks service.serial places late class service.pages is.pages) carries

-- the slots of the cycle

module _ (pages : List Authored) (serial : Bool) (lines : ℕ) (class : Class) (sent : List Block) (cycle : List (List ℕ))
    (l : IsLaidOut pages serial lines class sent cycle) where
  pub slot_count : length cycle ≡ length l.slots
  slot_count = ap length l.cycle_is ∙ length-map l.slots bytes_of

  pub sent_within : (i queue : ℕ) (packet : Packet) → get_or l.slots i Empty ≡ Sent queue packet → i < length cycle
  sent_within i queue packet e = elim (cases_lt i (length cycle)) as (λ _. i < length cycle) [
    | inl lt ↦ lt
    | inr ge ↦ let f : Empty ≡ Sent queue packet = sym (get_or_past l.slots i Empty (omega (arith, slot_count, ge))) ∙ e in cc
  ]

  pub bytes_at : (i : ℕ) → i < length cycle → get_or cycle i [] ≡ bytes_of (get_or l.slots i Empty)
  bytes_at i lt = ap (λ x. get_or x i []) l.cycle_is ∙ get_or-map bytes_of l.slots i Empty [] (omega (arith, slot_count, lt))

  pub heads_at : (i queue : ℕ) → i < length cycle → S.heads (suc queue) (packet_of (get_or cycle i [])) ≡ heads queue (get_or l.slots i Empty)
  heads_at i queue lt = ap (λ x. S.heads (suc queue) (packet_of x)) (bytes_at i lt)
      ∙ heads_fit pages serial (get_or l.slots i Empty) _ (l.reads i).fits queue

  -- the packets of a queue
  pub slots_led : (queue : ℕ) → queue < 8 → UpToHeader (λ p. ⊥) (of_queue queue l.slots)
      × Tails (HeadsOwn pages serial class queue) (of_queue queue l.slots)
  slots_led queue lt = subst (λ x. UpToHeader (λ p. ⊥) x × Tails (HeadsOwn pages serial class queue) x) (sym (l.in_queue queue lt))
      (queue_led pages serial class queue sent l.blocks)

-- each page has a block among those that are sent

pub get_map : {A B : Type 0} (f : A → B) (xs : List A) (k : ℕ) (x : A) → slice_get xs k ≡ Some x → slice_get (map f xs) k ≡ Some (f x)
get_map f xs k x e = slice_get-map f xs k ∙ ap (option_map f) e

-- the block is one of those that are sent, with or without a time-filling header before it, at its place among the rounds
pub record HasSent (sent : List Block) (block : Block) : Type 0 where
  pub filler : Bool
  pub place : ℕ
  pub among : Has (led filler (at_place place block)) sent

pub sent_block : (spread : List ℕ) (late : Bool) (class : Class) (serial : Bool) (pages : List Authored) → All (IsAuthored serial) pages →
    ArePlaces spread pages → (i : ℕ) (authored : Authored) → slice_get pages i ≡ Some authored →
    HasSent (blocks_sent_at spread late class pages) (block_at class authored)
sent_block spread late class serial pages a range i authored e =
    let blocks = placed spread (blocks_of class pages) in
    let p = placed_has spread (blocks_of class pages) (block_at class authored)
    (has_get (blocks_of class pages) i _ (get_map (block_at class) pages i authored e)) in
    let k = led_has late [] (rounds_to blocks 8) (at_place p.0 (block_at class authored))
    (in_its_round blocks _ (blocks_in_rounds class serial spread pages a range) p.1) in
    record { filler = k.0; place = p.0; among = k.1 }

-- a service with pages has a block that is sent
pub some_sent : (spread : List ℕ) (late : Bool) (class : Class) (serial : Bool) (pages : List Authored) → All (IsAuthored serial) pages →
    ArePlaces spread pages → (sent : List SentBlock) → map seen_sent sent ≡ blocks_sent_at spread late class pages →
    (pages ≡ [] → ⊥) → 0 < length sent
some_sent spread late class serial [] a range sent e not_empty = absurd (not_empty refl)
some_sent spread late class serial (p ∷ pages) a range sent e not_empty =
    let there = sent_block spread late class serial (p ∷ pages) a range 0 p refl in
    let one = some (blocks_sent_at spread late class (p ∷ pages)) _ there.among in
    omega (arith, one, ap length e, length-map sent seen_sent)
  where
    some : (xs : List Block) (x : Block) → Has x xs → 0 < length xs
    some [] x h = absurd h
    some (y ∷ xs) x h = omega arith
