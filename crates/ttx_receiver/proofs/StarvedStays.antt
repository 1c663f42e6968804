-- If an item never comes by a sure run, a receiver that takes every choice keeps it wrong and everything else right.
use Rattle.std.proofs.Common.{◌≡◌, ◌≢◌, ℕ, zero, suc, ◌+◌, ◌<◌, ◌≤◌, ℤ, pos, ◌+ℤ◌, true, false, List, [], length, get_or, refl}
use Rattle.std.proofs.Common.{sym, ap, ◌∙◌, subst, arith, ext_get_or, get_or-drop}
use Rattle.std.proofs.lemmas.Bool.{and_from, and_parts, both_ways, cond-true}
use Rattle.ttx_code.specs.Words.{is_odd}
use Rattle.ttx_packet.specs.Slots.{IsSlot}
use Rattle.ttx_page.specs.Packets.{Packet, Header, Row, Links, packet_of}
use Rattle.ttx_page.specs.Pages.{Page, IsPage, selected_mag, matches, needed, page_row}
use Rattle.ttx_page.specs.declared.selection.Selection.{Selection}
use Rattle.ttx_page.specs.declared.item.Item.{Item}
use Rattle.ttx_page.specs.declared.item.Item.TheVariants.{Head as TheHead, Row as TheRow, Links as TheLinks}
use Rattle.ttx_page.specs.declared.class.Class.TheVariants.{Any}
use Rattle.ttx_page.specs.Memories.{Memory, char_at, Holds}
use Rattle.ttx_page.specs.Receivers.{older, after, Run}
use Rattle.ttx_page.specs.Streams.{Stream, heads_matched, carries, run_length, IsOwned, IsSent}
use Rattle.ttx_page.specs.Receptions.{Received}
use Rattle.ttx_page.specs.Steady.{HeadIsRight, RowIsRight}
use Rattle.ttx_page.specs.Laws.{PageIsShown, RunsGoOn}
use Rattle.ttx_receiver.specs.Laws.{IsSteadyFrom}
use Rattle.ttx_receiver.specs.Starving.{spoilt, is_bound, takes, heard, starved_memory, starved_slots, wrong_memory, HoldsWrong, IsStarved}
use Rattle.ttx_receiver.specs.Starving.{StarvedStaysWrong}
use Rattle.ttx_receiver.proofs.StepsOverPage.{Shape, shape_after}
use Rattle.ttx_receiver.proofs.TakenAndKept.{HeadRightAt, RowRightAt, keep_row, keep_head, keep_links}
use Rattle.ttx_receiver.proofs.Runs.{packet_at, IsTuned, ReceivesPage, tuned_next}
use Rattle.ttx_receiver.proofs.TakenItems.{needed_row}
use Rattle.ttx_receiver.proofs.ReceivedPackets.{LawsBelow, IsOfSlot, of_slot, same_matched, row_was_sent, head_received_at, row_received_at}
use Rattle.ttx_receiver.proofs.ReceivedPage.{receives_page, same_mag}
use Rattle.ttx_receiver.proofs.SlotDistances.{not_before, lt_offset}
use Rattle.ttx_receiver.proofs.StarvedBytes.{flip_even, flipped_byte, received_as_sent}
use Rattle.ttx_receiver.proofs.StarvedSteps.{IsFirstEven, wrong_row, wrong_head, wrong_links}
use Rattle.ttx_receiver.proofs.StarvedUnder.{IsTaken, memory_begins, memory_next, length_slots, slot_at, may, taken_at}
use Rattle.ttx_receiver.proofs.StarvedReceived.{permitted}
use Rattle.ttx_receiver.proofs.StarvedFormer.{wrong_is_memory, wrong_is_idle, wrong_is_wrong, others_are_right}

-- the first byte of a header's or a row's text
row_even : (slot : List ℕ) (pkt : Packet) → IsOfSlot slot pkt → (mag r : ℕ) → carries mag (TheRow r) pkt ≡ true →
    is_odd (get_or slot 2 0) ≡ false → IsFirstEven pkt
row_even slot (Row m n text) o mag r h even = ap (λ x. is_odd (get_or x 0 0)) o.0 ∙ ap is_odd (get_or-drop 2 slot 0 0) ∙ even
row_even slot (Header id control text) o mag r h even = absurd (both_ways false refl h)
row_even slot (Links m c) o mag r h even = tt
row_even slot _ o mag r h even = tt

head_even : (slot : List ℕ) (pkt : Packet) → IsOfSlot slot pkt → (sel : Selection) → heads_matched sel pkt ≡ true →
    is_odd (get_or slot 10 0) ≡ false → IsFirstEven pkt
head_even slot (Header id control text) o sel h even = ap (λ x. is_odd (get_or x 0 0)) o ∙ ap is_odd (get_or-drop 10 slot 0 0) ∙ even
head_even slot (Row m n text) o sel h even = absurd (both_ways false refl h)
head_even slot (Links m c) o sel h even = tt
head_even slot _ o sel h even = tt

row_odd : (slot : List ℕ) (pkt : Packet) → IsOfSlot slot pkt → (p : Page) (r : ℕ) → RowRightAt p r 0 pkt → is_odd (get_or slot 2 0) ≡ true
row_odd slot (Row m n text) o p r h = ap is_odd (sym (get_or-drop 2 slot 0 0)) ∙ ap (λ x. is_odd (get_or x 0 0)) (sym o.0) ∙ h.good
row_odd slot (Header id control text) o p r h = absurd h
row_odd slot (Links m c) o p r h = absurd h
row_odd slot _ o p r h = absurd h

head_odd : (slot : List ℕ) (pkt : Packet) → IsOfSlot slot pkt → (p : Page) → HeadRightAt p 0 pkt → is_odd (get_or slot 10 0) ≡ true
head_odd slot (Header id control text) o p h = ap is_odd (sym (get_or-drop 10 slot 0 0)) ∙ ap (λ x. is_odd (get_or x 0 0)) (sym o) ∙ h.good
head_odd slot (Row m n text) o p h = absurd h
head_odd slot (Links m c) o p h = absurd h
head_odd slot _ o p h = absurd h

-- an item's characters one by one, and its links
abbrev pub HoldsEach : Page → Memory → Item → Type 0
HoldsEach p m TheHead = (c : ℕ) → c < 24 → char_at m 0 (8 + c) ≡ get_or p.head c 0
HoldsEach p m (TheRow r) = (c : ℕ) → c < 40 → char_at m r c ≡ get_or (page_row p r) c 0
HoldsEach p m TheLinks = m.links ≡ p.links

pub each_from : (p : Page) (m : Memory) (item : Item) → Holds p m item → HoldsEach p m item
each_from p m TheHead h = h
each_from p m (TheRow r) h = λ c lt. ap (λ x. get_or x c 0) h
each_from p m TheLinks h = h

pub each_to : (p : Page) → IsPage p → (m : Memory) → Shape m → (item : Item) → needed p item ≡ true → HoldsEach p m item → Holds p m item
each_to p page m shape TheHead need h = h
each_to p page m shape (TheRow r) need h =
    let range = needed_row p r need in
    let w : length (get_or m.rows r []) ≡ 40 = shape.width r (omega (arith, range.1)) in
    ext_get_or 0 (get_or m.rows r []) (page_row p r) (w ∙ sym ((page.rows r range.0 range.1).length)) (λ c lt. h c (omega arith))
each_to p page m shape TheLinks need h = h

runs : RunsGoOn → (lines : ℕ) (sel : Selection) (item : Item) (s : Stream) (tau : ℤ) (former : Memory) (n : ℕ) →
    Run Any lines sel former (starved_slots lines sel item s tau former n) (starved_memory lines sel item s tau former n)
unfolding starved_slots starved_memory
runs goes_on lines sel item s tau former zero = refl
runs goes_on lines sel item s tau former (suc n) =
    goes_on Any Any lines lines sel sel former (starved_memory lines sel item s tau former n) _ (starved_slots lines sel item s tau former n) _
    refl refl refl (runs goes_on lines sel item s tau former n) (record { choice = true; is = refl })

-- the laws that are cited
pub record StarvingLaws : Type 0 where
  pub below : LawsBelow
  pub shown : PageIsShown
  pub goes_on : RunsGoOn

module _ (all : StarvingLaws) (s : Stream) (p : Page) (page : IsPage p) (sel : Selection) (fits : matches sel p.id ≡ true)
    (lines repeat : ℕ) (few : lines ≤ 32) (some : 1 ≤ repeat)
    (item : Item) (need : needed p item ≡ true) (tau : ℤ) (steady : IsSteadyFrom s p sel tau) (n : ℕ)
    (starving : IsSent s p.id lines repeat item tau (tau +ℤ pos n) → ⊥) where
  abbrev laws : LawsBelow
  laws = all.below

  abbrev former : Memory
  former = wrong_memory p item

  abbrev sent : ℕ → List ℕ
  sent t = s (tau +ℤ pos t)

  abbrev mem : ℕ → Memory
  mem t = starved_memory lines sel item s tau former t

  abbrev hears : ℕ → List ℕ
  hears t = heard lines sel item (mem t) (sent t)

  abbrev got : List (List ℕ)
  got = starved_slots lines sel item s tau former n

  abbrev slots_are : (t : ℕ) → IsSlot (sent t)
  slots_are t = steady.slots _ (not_before tau t)

  received : Received s p.id repeat tau got
  received = permitted laws s p sel fits lines few item tau steady former (wrong_is_idle p item).0 repeat n some starving

  given : ReceivesPage sel p (packet_at got) (length got)
  given = receives_page laws s p page sel fits tau steady repeat got received

  taken : (t : ℕ) → takes lines sel item (older (mem t)) (packet_of (sent t)) ≡ true → IsTaken s p lines item tau (tau +ℤ pos t)
  taken t h = taken_at laws s p sel fits lines few item tau steady former (wrong_is_idle p item).0 t h

  -- each row or header that is taken has a wrong first byte; no links are taken
  even_row : (r : ℕ) → item ≡ TheRow r → (t : ℕ) → takes lines sel (TheRow r) (older (mem t)) (packet_of (hears t)) ≡ true →
      IsFirstEven (packet_of (hears t))
  even_row r is t h =
      let range = needed_row p r (subst (λ i. needed p i ≡ true) is need) in
      let m = mem t in
      let carried = (and_parts _ _ h).0 in
      let mine = ap (λ mag. carries mag (TheRow r) (packet_of (hears t))) (same_mag sel p.id fits) ∙ carried in
      let was = row_was_sent laws (sent t) (hears t) (slots_are t) (steady.clean _ (not_before tau t))
      (may laws s p sel fits lines few item tau steady former (wrong_is_idle p item).0 t) p.id.mag r mine in
      let was' : takes lines sel (TheRow r) (older m) (packet_of (sent t)) ≡ true =
      and_from (carries (selected_mag sel) (TheRow r) (packet_of (sent t))) (is_bound lines (older m))
      (ap (λ mag. carries mag (TheRow r) (packet_of (sent t))) (sym (same_mag sel p.id fits)) ∙ was)
      ((and_parts (carries (selected_mag sel) (TheRow r) (packet_of (hears t))) _ h).1) in
      let k = taken t (subst (λ i. takes lines sel i (older m) (packet_of (sent t)) ≡ true) (sym is) was') in
      let own : RowIsRight p r (packet_of (sent t)) =
      steady.items (TheRow r) (subst (λ i. needed p i ≡ true) is need) k.owner (tau +ℤ pos t) k.not_before
      (subst (λ i. IsOwned s p.id i k.owner (tau +ℤ pos t)) is k.owned) in
      let right = (row_received_at laws (sent t) (sent t) (slots_are t) (steady.clean _ (not_before tau t))
      (received_as_sent (sent t) (slots_are t)) p page r range.0 range.1 own 0 (omega arith) refl).0 in
      let odd : is_odd (get_or (sent t) 2 0) ≡ true = row_odd (sent t) (packet_of (sent t)) (of_slot laws (sent t)) p r right in
      let now : hears t ≡ spoilt (sent t) 2 =
      ap (λ i. heard lines sel i m (sent t)) is ∙ cond-true (takes lines sel (TheRow r) (older m) (packet_of (sent t)))
      (spoilt (sent t) 2) (sent t) was' in
      row_even (hears t) (packet_of (hears t)) (of_slot laws (hears t)) (selected_mag sel) r carried
      (ap (λ x. is_odd (get_or x 2 0)) now ∙ ap is_odd (flipped_byte (sent t) (slots_are t) 2 (omega arith))
      ∙ flip_even (get_or (sent t) 2 0) ((slots_are t).bytes 2) odd)

  even_head : item ≡ TheHead → (t : ℕ) → takes lines sel TheHead (older (mem t)) (packet_of (hears t)) ≡ true → IsFirstEven (packet_of (hears t))
  even_head is t h =
      let m = mem t in
      let was : heads_matched sel (packet_of (sent t)) ≡ true =
      sym (same_matched laws (sent t) (hears t) (slots_are t) (steady.clean _ (not_before tau t))
      (may laws s p sel fits lines few item tau steady former (wrong_is_idle p item).0 t) sel) ∙ h in
      let own : HeadIsRight p (packet_of (sent t)) =
      steady.items TheHead tt (tau +ℤ pos t) (tau +ℤ pos t) (not_before tau t) (refl, steady.selected _ (not_before tau t) was) in
      let right = head_received_at laws (sent t) (sent t) (slots_are t) (steady.clean _ (not_before tau t))
      (received_as_sent (sent t) (slots_are t)) p page own 0 (omega arith) refl in
      let odd : is_odd (get_or (sent t) 10 0) ≡ true = head_odd (sent t) (packet_of (sent t)) (of_slot laws (sent t)) p right in
      let now : hears t ≡ spoilt (sent t) 10 =
      ap (λ i. heard lines sel i m (sent t)) is ∙ cond-true (takes lines sel TheHead (older m) (packet_of (sent t)))
      (spoilt (sent t) 10) (sent t) was in
      head_even (hears t) (packet_of (hears t)) (of_slot laws (hears t)) sel h
      (ap (λ x. is_odd (get_or x 10 0)) now ∙ ap is_odd (flipped_byte (sent t) (slots_are t) 10 (omega arith))
      ∙ flip_even (get_or (sent t) 10 0) ((slots_are t).bytes 10) odd)

  no_links : item ≡ TheLinks → (t : ℕ) → t < n → takes lines sel TheLinks (older (mem t)) (packet_of (hears t)) ≡ true → ⊥
  no_links is t lt h =
      let was = subst (λ x. takes lines sel TheLinks (older (mem t)) (packet_of x) ≡ true) (ap (λ i. heard lines sel i (mem t) (sent t)) is) h in
      let k = taken t (subst (λ i. takes lines sel i (older (mem t)) (packet_of (sent t)) ≡ true) (sym is) was) in
      starving (record {
        first = tau +ℤ pos t;
        rest = [];
        owner = k.owner;
        owned = k.owned;
        not_before = k.not_before;
        run = record { count = subst (λ i. 1 ≡ run_length repeat i) (sym is) refl; successive = record { owner = k.owner; owned = k.owned } };
        all_sure = (record { owner = k.owner; owned = k.owned; sure = k.sure }, tt);
        ends = (lt_offset tau t n lt, tt);
      })

  -- after t slots everything except the item is the page's, and the item is wrong
  record IsLed (t : ℕ) (m : Memory) : Type 0 where
    shape : Shape m
    tuned : IsTuned sel p (packet_at got) t m
    others : (other : Item) → other ≢ item → needed p other ≡ true → HoldsEach p m other
    wrong : HoldsWrong p m item

  heard_at : (t : ℕ) → t < n → packet_at got t ≡ packet_of (hears t)
  heard_at t lt = ap packet_of (slot_at lines sel item s tau former n t lt)

  begins : IsLed 0 (mem 0)
  begins = subst (IsLed 0) (sym (memory_begins lines sel item s tau former)) (record {
    shape = let is = wrong_is_memory p page item need in record { count = is.row_count; width = λ r lt. (is.rows r lt).length };
    tuned = let i = wrong_is_idle p item in record { settled = i.1; control = i.2; owned = λ st. absurd (both_ways _ i.0 st) };
    others = λ other ne need'. each_from p former other (others_are_right all.shown p page item need other ne need');
    wrong = wrong_is_wrong all.shown p page item need;
  })

  led : (t : ℕ) → t ≤ n → IsLed t (mem t)
  led zero le = begins
  led (suc t) le =
      let lt : t < n = omega arith in
      subst (IsLed (suc t)) (ap (λ x. after Any lines sel true (older (mem t)) x) (heard_at t lt)
      ∙ sym (memory_next lines sel item s tau former t)) (step t lt (led t (omega arith)))
    where
      step : (t : ℕ) → t < n → IsLed t (mem t) → IsLed (suc t) (after Any lines sel true (older (mem t)) (packet_at got t))
      step t lt l =
          let in_list : t < length got = omega (arith, length_slots lines sel item s tau former n) in
          let m = older (mem t) in
          let shape : Shape m = record { count = l.shape.count; width = l.shape.width } in
          record {
            shape = shape_after Any lines sel true m (packet_at got t) shape;
            tuned = tuned_next Any lines sel p (packet_at got) (length got) given t in_list true (mem t) l.tuned;
            others = λ other ne need'. others_next other need' in_list shape (l.others other ne need');
            wrong = wrong_next item refl in_list shape;
          }
        where
          others_next : (other : Item) → needed p other ≡ true → t < length got → Shape (older (mem t)) → HoldsEach p (mem t) other →
              HoldsEach p (after Any lines sel true (older (mem t)) (packet_at got t)) other
          others_next TheHead need' inside shape was = λ c col.
              keep_head Any lines sel p c col true (older (mem t)) (packet_at got t) shape (given.heads t inside)
              (given.no_row_0 t inside) (was c col)
          others_next (TheRow r) need' inside shape was =
              let range = needed_row p r need' in
              λ c col. keep_row Any lines sel p page.no_erase r c range.0 (omega (arith, range.1)) col true (older (mem t))
              (packet_at got t) shape l.tuned.settled (given.heads t inside)
              (λ st carry. given.rows t inside (l.tuned.owned st) r need' carry) (was c col)
          others_next TheLinks need' inside shape was =
              keep_links Any lines sel p page.no_erase true (older (mem t)) (packet_at got t) l.tuned.settled (given.heads t inside)
              (λ st carry. given.links t inside (l.tuned.owned st) carry) was

          wrong_next : (i : Item) → item ≡ i → t < length got → Shape (older (mem t)) →
              HoldsWrong p (after Any lines sel true (older (mem t)) (packet_at got t)) i
          wrong_next TheHead is inside shape =
              wrong_head lines sel (older (mem t)) (packet_at got t) shape
              (λ h. subst IsFirstEven (sym (heard_at t lt))
              (even_head is t (subst (λ x. takes lines sel TheHead (older (mem t)) x ≡ true) (heard_at t lt) h)))
              (given.no_row_0 t inside)
              ∙ subst (HoldsWrong p (mem t)) is l.wrong
          wrong_next (TheRow r) is inside shape =
              let range = needed_row p r (subst (λ i. needed p i ≡ true) is need) in
              wrong_row lines sel r range.0 (omega (arith, range.1)) p page.no_erase (older (mem t))
              (packet_at got t) shape l.tuned.settled (given.heads t inside)
              (λ h. subst IsFirstEven (sym (heard_at t lt))
              (even_row r is t (subst (λ x. takes lines sel (TheRow r) (older (mem t)) x ≡ true) (heard_at t lt) h)))
              ∙ subst (HoldsWrong p (mem t)) is l.wrong
          wrong_next TheLinks is inside shape =
              wrong_links lines sel p page.no_erase (older (mem t)) (packet_at got t) l.tuned.settled (given.heads t inside)
              (λ h. no_links is t lt (subst (λ x. takes lines sel TheLinks (older (mem t)) x ≡ true) (heard_at t lt) h))
              ∙ subst (HoldsWrong p (mem t)) is l.wrong

  pub starved : IsStarved s p sel lines repeat item tau n former (mem n) got
  starved =
      let l = led n (omega arith) in
      record {
        is_former = wrong_is_memory p page item need;
        size = length_slots lines sel item s tau former n;
        permitted = received;
        run = runs all.goes_on lines sel item s tau former n;
        control = l.tuned.control;
        others = λ other ne need'. each_to p page (mem n) l.shape other need' (l.others other ne need');
        wrong = l.wrong;
      }

pub starved_stays_wrong : StarvingLaws → StarvedStaysWrong
starved_stays_wrong all s p sel lines repeat item tau n page few some fits steady need starving =
    starved all s p page sel fits lines repeat few some item need tau steady n starving
