-- The program reads each slot of a planned cycle as what it is.
use Rattle.std.proofs.Common.{◌≡◌, ℕ, zero, suc, ◌+◌, ◌-◌, ◌<◌, ◌≤◌, Bool, true, false, cond, List, [], ◌∷◌, ◌++◌, map, length, replicate, get_or}
use Rattle.std.proofs.Common.{Option, Some, None, refl, sym, subst, arith}
use Rattle.std.specs.Prelude.{slice_get, flat_map, option_map}
use Rattle.std.specs.List.{AllByRecursion}
use Rattle.ttx_info.specs.Infos.{InfoFields, info_bytes}
use Rattle.ttx_page.specs.declared.class.Class.{Class}
use Rattle.ttx_source.specs.Services.{Authored}
use Rattle.ttx_plan.specs.declared.packet.Packet.{Packet}
use Rattle.ttx_plan.specs.declared.packet.Slot.{Slot}
use Rattle.ttx_plan.specs.declared.packet.Slot.TheVariants.{Empty, Info, Sent}
use Rattle.ttx_plan.specs.Blocks.{Block, header_packet, rest_packet, filler_of, has_pages, used_to, used_queues, time_filling_packet, queue_packets}
use Rattle.ttx_plan.specs.Carries.{magazines_for}
use Rattle.ttx_plan.specs.Laws.{IsSaid}
use Rattle.ttx_plan.specs.Serial.{serial_page, serial_block, serial_list, info_if, with_info, serial_slots}
use Rattle.ttx_plan.specs.Turns.{KeepsTurns, sent_by, is_info_due, missing}
use Rattle.ttx_plan.proofs.CursorsLookBack.{IsFrom, turn_from_queues}
use Rattle.ttx_plan.proofs.ListElements.{all_append, all_map, all_replicate, all_if, all_flat_map, all_get}
use Rattle.ttx_plan.proofs.PageRests.{rest_all}
use Rattle.ttx_plan.proofs.QueueBlocks.{IsPageBlock, queue_good}
use Rattle.ttx_plan.proofs.QueueSlots.{timed, queue_at_is}
use Rattle.ttx_plan.proofs.ReadPackets.{LawsBelow, Reads, empty_slot, info_slot, page_header_slot, filling_slot, row_slot, links_slot}

module _ (laws : LawsBelow) (pages : List Authored) (serial : Bool) (class : Class) where
  -- the packets of a page's block
  below : (block : Block) → IsPageBlock pages serial class block → block.queue < 8
  below block b = omega (arith, b.queue_is, b.kept.page.id.mag_from, b.kept.page.id.mag_to)

  header_read : (block : Block) → IsPageBlock pages serial class block → Reads pages serial (Sent block.queue (header_packet block.header))
  header_read block b =
      subst (λ q. Reads pages serial (Sent q (header_packet block.header))) (sym b.queue_is)
      (subst (λ h. Reads pages serial (Sent (b.authored.page.id.mag - 1) (header_packet h))) (sym b.header_is)
      (page_header_slot laws pages serial b.index b.authored b.listed b.kept))

  rest_read : (block : Block) → IsPageBlock pages serial class block →
      AllByRecursion (λ bytes. Reads pages serial (Sent block.queue (rest_packet bytes))) block.rest
  rest_read block b =
      subst (λ q. AllByRecursion (λ bytes. Reads pages serial (Sent q (rest_packet bytes))) block.rest) (sym b.queue_is)
      (subst (AllByRecursion (λ bytes. Reads pages serial (Sent (b.authored.page.id.mag - 1) (rest_packet bytes)))) (sym b.rest_is)
      (rest_all (λ bytes. Reads pages serial (Sent (b.authored.page.id.mag - 1) (rest_packet bytes))) class b.authored.page
      (row_slot laws pages serial b.authored.page b.kept.page) (links_slot laws pages serial b.authored.page b.kept.page)))

  info_read : (info : Option InfoFields) → IsSaid info → (bytes : List ℕ) → option_map info_bytes info ≡ Some bytes → Reads pages serial (Info bytes)
  info_read None said bytes e = let f : None ≡ Some bytes = e in cc
  info_read (Some info) said bytes e =
      let f : Some (info_bytes info) ≡ Some bytes = e in
      let g : info_bytes info ≡ bytes = cc in
      subst (λ x. Reads pages serial (Info x)) g (info_slot laws pages serial info said.0 said.1)

-- serial transmission
module _ (laws : LawsBelow) (pages : List Authored) (class : Class) (lines : ℕ) where
  block_read : (block : Block) → IsPageBlock pages true class block → AllByRecursion (Reads pages true) (serial_block lines block)
  block_read block b =
      let rows = map (λ bytes. Sent block.queue (rest_packet bytes)) block.rest in
      all_append (Reads pages true) (map (Sent block.queue) (filler_of true block)) (serial_page lines block)
      (all_map (Reads pages true) (Sent block.queue) (filler_of true block) (all_if (λ p. Reads pages true (Sent block.queue p)) block.filler _
      (λ _. filling_slot laws pages true block.queue (below laws pages true class block b)))) (
        header_read laws pages true class block b,
        all_append (Reads pages true) (replicate lines Empty) rows (all_replicate (Reads pages true) lines Empty (empty_slot laws pages true))
            (all_map (Reads pages true) (λ bytes. Sent block.queue (rest_packet bytes)) block.rest (rest_read laws pages true class block b)),
      )

  fillings_read : (sent : List Block) (n : ℕ) → n ≤ 8 → AllByRecursion (λ m. Reads pages true (Sent m (time_filling_packet true m))) (used_to sent n)
  fillings_read sent zero le = tt
  fillings_read sent (suc n) le = all_append (λ m. Reads pages true (Sent m (time_filling_packet true m))) (used_to sent n)
      (cond (has_pages sent n) (n ∷ []) []) (fillings_read sent n (omega arith))
      (all_if (λ m. Reads pages true (Sent m (time_filling_packet true m))) (has_pages sent n) n (λ _. filling_slot laws pages true n le))

  with_info_read : (info : Option (List ℕ)) → ((bytes : List ℕ) → info ≡ Some bytes → Reads pages true (Info bytes)) → (at : ℕ) (list : List Slot) →
      AllByRecursion (Reads pages true) list → AllByRecursion (Reads pages true) (with_info lines info at list)
  with_info_read info i at [] a = tt
  with_info_read info i at (slot ∷ rest) a =
      let first = info_if info (is_info_due lines at) in
      let next = at + length (info_if info (is_info_due lines at)) + 1 in
      all_append (Reads pages true) first (slot ∷ with_info lines info next rest) (due info (is_info_due lines at) i)
      (a.0, with_info_read info i next rest a.1)
    where
      due : (o : Option (List ℕ)) (b : Bool) → ((bytes : List ℕ) → o ≡ Some bytes → Reads pages true (Info bytes)) →
          AllByRecursion (Reads pages true) (info_if o b)
      due None b i = tt
      due (Some bytes) true i = (i bytes refl, tt)
      due (Some bytes) false i = tt

  pub serial_read : (info : Option InfoFields) → IsSaid info → (sent : List Block) → AllByRecursion (IsPageBlock pages true class) sent →
      AllByRecursion (Reads pages true) (serial_slots lines (option_map info_bytes info) sent)
  serial_read info said sent all =
      let laid = with_info lines (option_map info_bytes info) 0 (serial_list lines sent) in
      all_append (Reads pages true) laid (replicate (missing lines (length laid)) Empty)
      (with_info_read (option_map info_bytes info) (info_read laws pages true class info said) 0 (serial_list lines sent)
      (all_append (Reads pages true) (flat_map (serial_block lines) sent) (map (λ m. Sent m (time_filling_packet true m)) (used_queues sent))
      (all_flat_map (Reads pages true) (IsPageBlock pages true class) (serial_block lines) block_read sent all)
      (all_map (Reads pages true) (λ m. Sent m (time_filling_packet true m)) (used_queues sent) (fillings_read sent 8 (omega arith)))))
      (all_replicate (Reads pages true) (missing lines (length laid)) Empty (empty_slot laws pages true))

-- parallel transmission
module _ (laws : LawsBelow) (pages : List Authored) (class : Class) where
  queue_read : (sent : List Block) → AllByRecursion (IsPageBlock pages false class) sent → (queue : ℕ) → queue < 8 →
      AllByRecursion (λ packet. Reads pages false (Sent queue packet)) (queue_packets false sent queue)
  queue_read sent all queue lt =
      let P : Packet → Type 0 = λ packet. Reads pages false (Sent queue packet) in
      queue_good false queue (IsPageBlock pages false class) (AllByRecursion P) tt
      (λ m e ps more. (subst (λ q. P (time_filling_packet false q)) (sym e) (filling_slot laws pages false queue lt), more))
      (λ block b e ps more. (
        subst (λ q. Reads pages false (Sent q (header_packet block.header))) e (header_read laws pages false class block b),
        all_append P (map rest_packet block.rest) ps (all_map P rest_packet block.rest
            (subst (λ q. AllByRecursion (λ bytes. Reads pages false (Sent q (rest_packet bytes))) block.rest) e
            (rest_read laws pages false class block b))) more,
      ))
      sent all

  turns_read : (lines : ℕ) (info : Option InfoFields) → IsSaid info → (sent : List Block) → AllByRecursion (IsPageBlock pages false class) sent →
      (before : List Slot) → KeepsTurns (magazines_for lines (option_map info_bytes info) sent) before →
      AllByRecursion (Reads pages false) (timed before)
  turns_read lines info said sent all [] t = tt
  turns_read lines info said sent all (slot ∷ before) t =
      let mags = magazines_for lines (option_map info_bytes info) sent in
      all_append (Reads pages false) (timed before) (slot ∷ []) (turns_read lines info said sent all before t.1)
      (one slot (subst (IsFrom mags before) (sym t.0) (turn_from_queues mags before)), tt)
    where
      one : (s : Slot) → IsFrom (magazines_for lines (option_map info_bytes info) sent) before s → Reads pages false s
      one Empty from = empty_slot laws pages false
      one (Info bytes) from = info_read laws pages false class info said bytes from.0
      one (Sent queue packet) from =
          all_get (λ p. Reads pages false (Sent queue p)) (queue_packets false sent queue) (sent_by queue before) packet
          (queue_read sent all queue from.0) (subst (λ x. slice_get x (sent_by queue before) ≡ Some packet) (queue_at_is sent queue from.0) from.1)

  pub parallel_read : (lines : ℕ) (info : Option InfoFields) → IsSaid info → (sent : List Block) →
      AllByRecursion (IsPageBlock pages false class) sent →
      (before : List Slot) (n : ℕ) → KeepsTurns (magazines_for lines (option_map info_bytes info) sent) before →
      AllByRecursion (Reads pages false) (timed before ++ replicate n Empty)
  parallel_read lines info said sent all before n t =
      all_append (Reads pages false) (timed before) (replicate n Empty) (turns_read lines info said sent all before t)
      (all_replicate (Reads pages false) n Empty (empty_slot laws pages false))

-- the slot at each place
pub read_there : LawsBelow → (pages : List Authored) (serial : Bool) (slots : List Slot) → AllByRecursion (Reads pages serial) slots →
    (i : ℕ) → Reads pages serial (get_or slots i Empty)
read_there laws pages serial [] a i = empty_slot laws pages serial
read_there laws pages serial (slot ∷ slots) a zero = a.0
read_there laws pages serial (slot ∷ slots) a (suc i) = read_there laws pages serial slots a.1 i
