-- The laws of the headline.
use Rattle.std.proofs.Common.{◌≡◌, ℕ, ◌+◌, ◌<◌, ◌≤◌, ℤ, pos, ◌+ℤ◌, ◌<ℤ◌, ◌≤ℤ◌, true, false, List, [], ◌∷◌, length, get_or, refl, sym, ap, ◌∙◌, subst}
use Rattle.std.proofs.Common.{inl, inr, arith, ext_get_or}
use Rattle.std.specs.List.{AllByRecursion}
use Rattle.std.proofs.lemmas.Int.{ints}
use Rattle.std.proofs.lemmas.Bool.{both_ways}
use Rattle.ttx_page.proofs.SlotDistances.{cases_ltz}
use Rattle.ttx_header.specs.Ids.{Id}
use Rattle.ttx_page.specs.Packets.{packet_of}
use Rattle.ttx_page.specs.Pages.{Page, IsPage, selected_mag, matches, needed, page_row, IsBlank}
use Rattle.ttx_page.specs.declared.selection.Selection.{Selection}
use Rattle.ttx_page.specs.declared.item.Item.{Item}
use Rattle.ttx_page.specs.declared.item.Item.TheVariants.{Head as TheHead, Row as TheRow, Links as TheLinks}
use Rattle.ttx_page.specs.declared.class.Class.{Class}
use Rattle.ttx_page.specs.declared.class.Class.TheVariants.{Any, Clearing}
use Rattle.ttx_page.specs.Memories.{Memory, IsFormer, char_at, Holds}
use Rattle.ttx_page.specs.Receivers.{Run, older}
use Rattle.ttx_page.specs.Streams.{Stream, heads, heads_page, heads_matched, ends_serial, carries, IsLatestHeader, IsOwned, IsSure}
use Rattle.ttx_page.specs.Streams.{IsSureTransmission, AreSuccessive, IsSent}
use Rattle.ttx_page.specs.Receptions.{IsRight, OneIs, Received}
use Rattle.ttx_receiver.specs.Laws.{IsSteadyFrom, RunHoldsItsItem, HasHeaderBetween}
use Rattle.ttx_receiver.proofs.StepsOverPage.{Shape, shape_after}
use Rattle.ttx_receiver.proofs.Runs.{packet_at, run_keeps}
use Rattle.ttx_receiver.proofs.TakenItems.{IsSureAt, needed_row, row_held, links_held, head_held}
use Rattle.ttx_receiver.proofs.BlankItems.{blank_row_held, blank_links_held}
use Rattle.ttx_receiver.proofs.ReceivedPackets.{LawsBelow, same_heads, same_matched, same_ends, same_links, head_received_at, row_received_at}
use Rattle.ttx_receiver.proofs.ReceivedPage.{receives_page, page_matched, same_mag}
use Rattle.ttx_receiver.proofs.SlotDistances.{offset, not_before, offset_lt, lt_offset, offset_same, late_offset, before_end, lt_le, le_le, le_self}

lt_is_le : (a b : ℤ) → a <ℤ b → a ≤ℤ b
lt_is_le a b h = omega (arith, ints)

-- one element of the list that has one property has the other
record IsOneOf (P Q : ℤ → Type 0) : Type 0 where
  slot : ℤ
  one : P slot
  all : Q slot

one_of : (P Q : ℤ → Type 0) (xs : List ℤ) → OneIs P xs → AllByRecursion Q xs → IsOneOf P Q
one_of P Q [] o a = absurd o
one_of P Q (x ∷ xs) (inl h) a = record { slot = x; one = h; all = a.0 }
one_of P Q (x ∷ xs) (inr o) a = one_of P Q xs o a.1

all_both : (P Q : ℤ → Type 0) (xs : List ℤ) → AllByRecursion P xs → AllByRecursion Q xs → AllByRecursion (λ j. P j × Q j) xs
all_both P Q [] a b = tt
all_both P Q (x ∷ xs) a b = ((a.0, b.0), all_both P Q xs a.1 b.1)

all_map : (P Q : ℤ → Type 0) → ((x : ℤ) → P x → Q x) → (xs : List ℤ) → AllByRecursion P xs → AllByRecursion Q xs
all_map P Q f [] a = tt
all_map P Q f (x ∷ xs) a = (f x a.0, all_map P Q f xs a.1)

-- successive transmissions have rising slots
rising : (s : Stream) (id : Id) (item : Item) (low first : ℤ) (rest : List ℤ) → low ≤ℤ first → AreSuccessive s id item (first ∷ rest) →
    AllByRecursion (λ j. low ≤ℤ j) (first ∷ rest)
rising s id item low first [] h a = (h, tt)
rising s id item low first (next ∷ rest) h a = (h, rising s id item low next rest (lt_is_le _ _ (le_lt' h a.1)) a.3)
  where
    le_lt' : low ≤ℤ first → first <ℤ next → low <ℤ next
    le_lt' a b = omega (arith, ints)

module _ (laws : LawsBelow) (s : Stream) (p : Page) (page : IsPage p) (sel : Selection) (fits : matches sel p.id ≡ true) (begin end : ℤ)
    (steady : IsSteadyFrom s p sel begin)
    (class : Class) (lines repeat : ℕ) (few : lines ≤ 32) (received : List (List ℕ)) (permitted : Received s p.id repeat begin received)
    (long : end ≤ℤ (begin +ℤ pos (length received))) where
  abbrev place : ℕ → ℤ
  place t = begin +ℤ pos t

  abbrev sent : ℕ → List ℕ
  sent t = s (place t)

  abbrev got : ℕ → List ℕ
  got t = get_or received t []

  -- a later transmission does not have an earlier owner
  later_owner : (mag : ℕ) (owner first h j : ℤ) → IsLatestHeader s mag owner first → IsLatestHeader s mag h j → first ≤ℤ j → owner ≤ℤ h
  later_owner mag owner first h j a b le = elim (cases_ltz h owner) as (λ _. owner ≤ℤ h)
      [ inl lt ↦ absurd (both_ways _ (b.none_between owner lt (lt_le _ _ _ a.earlier le)) a.is_header) | inr ge ↦ ge ]

  same_at : (t : ℕ) → t < length received → (mag : ℕ) → heads mag (packet_at received t) ≡ heads mag (packet_of (sent t))
  same_at t lt mag = same_heads laws (sent t) (got t) (steady.slots _ (not_before begin t)) (steady.clean _ (not_before begin t))
      (permitted.each t lt) mag

  ends_at : (t : ℕ) → t < length received → (mag : ℕ) → ends_serial mag (packet_at received t) ≡ ends_serial mag (packet_of (sent t))
  ends_at t lt mag = same_ends laws (sent t) (got t) (steady.slots _ (not_before begin t)) (steady.clean _ (not_before begin t))
      (permitted.each t lt) mag

  matched_at : (t : ℕ) → t < length received → heads_page p.id (packet_of (sent t)) ≡ true → heads_matched sel (packet_at received t) ≡ true
  matched_at t lt h =
      same_matched laws (sent t) (got t) (steady.slots _ (not_before begin t)) (steady.clean _ (not_before begin t)) (permitted.each t lt) sel
      ∙ page_matched sel p.id (packet_of (sent t)) fits h

  sure_at : (h j : ℕ) → j < length received → IsLatestHeader s p.id.mag (place h) (place j) → heads_page p.id (packet_of (sent h)) ≡ true →
      ((place h +ℤ pos lines) <ℤ place j) → ((i : ℤ) → place h <ℤ i → i <ℤ place j → ends_serial p.id.mag (packet_of (s i)) ≡ false) →
      IsSureAt sel (packet_at received) lines h j
  sure_at h j lt latest mine late ends =
      let k : h + lines < j = late_offset begin h j lines late in
      record {
        late = k;
        matched = matched_at h (omega arith) mine;
        no_header = λ i low high.
            ap (λ m. heads m (packet_at received i)) (sym (same_mag sel p.id fits)) ∙ same_at i (omega arith) p.id.mag
            ∙ latest.none_between (place i) (lt_offset begin h i low) (lt_offset begin i j high);
        no_end = λ i low high.
            ap (λ m. ends_serial m (packet_at received i)) (sym (same_mag sel p.id fits)) ∙ ends_at i (omega arith) p.id.mag
            ∙ ends (place i) (lt_offset begin h i low) (lt_offset begin i j high);
      }

  -- a slot of a run that is among the slots received
  record IsInside (j : ℤ) : Type 0 where
    index : ℕ
    at : j ≡ place index
    within : index < length received

  inside : (j : ℤ) → begin ≤ℤ j → j <ℤ end → IsInside j
  inside j low high =
      let k = offset begin j low in
      record {
        index = k.0;
        at = k.1;
        within = offset_lt begin k.0 (length received)
            (subst (λ x. x <ℤ place (length received)) k.1 (before_end begin end j (length received) high long));
      }

  pub head_item : IsSent s p.id lines repeat TheHead begin end → (c : ℕ) → c < 24 → (m new : Memory) → Shape m → Run class lines sel m received new →
      (new.control ≡ p.control) × (char_at new 0 (8 + c) ≡ get_or p.head c 0)
  head_item i c col m new shape run =
      let low : begin ≤ℤ i.first = subst (λ x. begin ≤ℤ x) i.owned.0 i.not_before in
      let risen = rising s p.id TheHead begin i.first i.rest low i.run.successive in
      let within = all_map (λ j. (begin ≤ℤ j) × (j <ℤ end)) (λ j. (begin ≤ℤ j) × (j <ℤ place (length received)))
      (λ x w. (w.0, before_end begin end x (length received) w.1 long)) (i.first ∷ i.rest)
      (all_both (λ j. begin ≤ℤ j) (λ j. j <ℤ end) (i.first ∷ i.rest) risen i.ends) in
      let right = permitted.one_right TheHead (10 + c) (omega arith, omega arith) (i.first ∷ i.rest) i.run.count i.run.successive within in
      let o = one_of (IsRight s begin received (10 + c)) (λ j. IsSureTransmission s p.id lines TheHead j × ((begin ≤ℤ j) × (j <ℤ end)))
      (i.first ∷ i.rest) right
      (all_both (IsSureTransmission s p.id lines TheHead) (λ j. (begin ≤ℤ j) × (j <ℤ end)) (i.first ∷ i.rest) i.all_sure
      (all_both (λ j. begin ≤ℤ j) (λ j. j <ℤ end) (i.first ∷ i.rest) risen i.ends)) in
      let k = inside o.slot o.all.1.0 o.all.1.1 in
      let j = k.index in
      let e : o.one.index ≡ j = offset_same begin o.one.index j (sym o.one.place ∙ k.at) in
      let same : get_or (got j) (10 + c) 0 ≡ get_or (sent j) (10 + c) 0 =
      ap (λ x. get_or (got x) (10 + c) 0) (sym e) ∙ o.one.right ∙ ap (λ x. get_or (s x) (10 + c) 0) k.at in
      let mine : heads_page p.id (packet_of (sent j)) ≡ true = subst (λ x. heads_page p.id (packet_of (s x)) ≡ true) k.at o.all.0.owned.1 in
      head_held class lines sel p page few received
      (receives_page laws s p page sel fits begin steady repeat received permitted) c col j k.within
      (matched_at j k.within mine)
      (head_received_at laws (sent j) (got j) (steady.slots _ (not_before begin j)) (steady.clean _ (not_before begin j))
      (permitted.each j k.within) p page
      (steady.items TheHead tt (place j) (place j) (not_before begin j) (refl, mine)) c col same)
      m new shape run

  pub row_item : (r : ℕ) → needed p (TheRow r) ≡ true → IsSent s p.id lines repeat (TheRow r) begin end → (c : ℕ) → c < 40 →
      (m new : Memory) → Shape m →
      Run class lines sel m received new → (new.control ≡ p.control) × (char_at new r c ≡ get_or (page_row p r) c 0)
  row_item r need i c col m new shape run =
      let range = needed_row p r need in
      let low : begin ≤ℤ i.first = le_le _ _ _ i.not_before (lt_is_le _ _ i.owned.0.earlier) in
      let risen = rising s p.id (TheRow r) i.first i.first i.rest (le_self i.first) i.run.successive in
      let bounds = all_both (λ j. i.first ≤ℤ j) (λ j. j <ℤ end) (i.first ∷ i.rest) risen i.ends in
      let within = all_map (λ j. (i.first ≤ℤ j) × (j <ℤ end)) (λ j. (begin ≤ℤ j) × (j <ℤ place (length received)))
      (λ x w. (le_le _ _ _ low w.0, before_end begin end x (length received) w.1 long)) (i.first ∷ i.rest) bounds in
      let right = permitted.one_right (TheRow r) (2 + c) (omega arith, omega arith) (i.first ∷ i.rest) i.run.count i.run.successive within in
      let o = one_of (IsRight s begin received (2 + c))
      (λ j. IsSureTransmission s p.id lines (TheRow r) j × ((i.first ≤ℤ j) × (j <ℤ end))) (i.first ∷ i.rest) right
      (all_both (IsSureTransmission s p.id lines (TheRow r)) (λ j. (i.first ≤ℤ j) × (j <ℤ end)) (i.first ∷ i.rest) i.all_sure bounds) in
      let k = inside o.slot (le_le _ _ _ low o.all.1.0) o.all.1.1 in
      let j = k.index in
      let e : o.one.index ≡ j = offset_same begin o.one.index j (sym o.one.place ∙ k.at) in
      let same : get_or (got j) (2 + c) 0 ≡ get_or (sent j) (2 + c) 0 =
      ap (λ x. get_or (got x) (2 + c) 0) (sym e) ∙ o.one.right ∙ ap (λ x. get_or (s x) (2 + c) 0) k.at in
      let from : begin ≤ℤ o.all.0.owner = le_le _ _ _ i.not_before
      (later_owner p.id.mag i.owner i.first o.all.0.owner o.slot i.owned.0 o.all.0.owned.0 o.all.1.0) in
      let w = offset begin o.all.0.owner from in
      let h = w.0 in
      let owned : IsOwned s p.id (TheRow r) (place h) (place j) =
      subst (λ x. IsOwned s p.id (TheRow r) x (place j)) w.1 (subst (λ x. IsOwned s p.id (TheRow r) o.all.0.owner x) k.at o.all.0.owned) in
      let sure : IsSure s lines p.id.mag (TheRow r) (place h) (place j) =
      subst (λ x. IsSure s lines p.id.mag (TheRow r) x (place j)) w.1
      (subst (λ x. IsSure s lines p.id.mag (TheRow r) o.all.0.owner x) k.at o.all.0.sure) in
      let right_row = row_received_at laws (sent j) (got j) (steady.slots _ (not_before begin j)) (steady.clean _ (not_before begin j))
      (permitted.each j k.within) p page r range.0 range.1
      (steady.items (TheRow r) need (place h) (place j) (not_before begin h) owned) c col same in
      let carried : carries (selected_mag sel) (TheRow r) (packet_at received j) ≡ true =
      ap (λ mag. carries mag (TheRow r) (packet_at received j)) (sym (same_mag sel p.id fits)) ∙ right_row.1 p.id.mag owned.2 in
      row_held class lines sel p page few received
      (receives_page laws s p page sel fits begin steady repeat received permitted) r c need col h j k.within
      (sure_at h j k.within owned.0 owned.1 sure.0 sure.1) carried right_row.0 m new shape run

  pub links_item : IsSent s p.id lines repeat TheLinks begin end → (m new : Memory) → Shape m → Run class lines sel m received new →
      (new.control ≡ p.control) × (new.links ≡ p.links)
  links_item i m new shape run =
      let o = i.all_sure.0 in
      let low : begin ≤ℤ i.first = le_le _ _ _ i.not_before (lt_is_le _ _ i.owned.0.earlier) in
      let k = inside i.first low i.ends.0 in
      let j = k.index in
      let from : begin ≤ℤ o.owner = le_le _ _ _ i.not_before
      (later_owner p.id.mag i.owner i.first o.owner i.first i.owned.0 o.owned.0 (le_self i.first)) in
      let w = offset begin o.owner from in
      let h = w.0 in
      let owned : IsOwned s p.id TheLinks (place h) (place j) =
      subst (λ x. IsOwned s p.id TheLinks x (place j)) w.1 (subst (λ x. IsOwned s p.id TheLinks o.owner x) k.at o.owned) in
      let sure : IsSure s lines p.id.mag TheLinks (place h) (place j) =
      subst (λ x. IsSure s lines p.id.mag TheLinks x (place j)) w.1 (subst (λ x. IsSure s lines p.id.mag TheLinks o.owner x) k.at o.sure) in
      let carried : carries (selected_mag sel) TheLinks (packet_at received j) ≡ true =
      ap (λ mag. carries mag TheLinks (packet_at received j)) (sym (same_mag sel p.id fits))
      ∙ same_links laws (sent j) (got j) (steady.slots _ (not_before begin j)) (steady.clean _ (not_before begin j))
      (permitted.each j k.within) p.id.mag ∙ owned.2 in
      links_held class lines sel p page few received (receives_page laws s p page sel fits begin steady repeat received permitted) h j k.within
      (sure_at h j k.within owned.0 owned.1 sure.0 sure.1) carried m new shape run

shape_of : (class : Class) (m : Memory) → IsFormer class m → Shape m
shape_of Any m h = record { count = h.row_count; width = λ r lt. (h.rows r lt).length }
shape_of Clearing m h = record { count = h.0.row_count; width = λ r lt. (h.0.rows r lt).length }

shape_kept : (class : Class) (lines : ℕ) (sel : Selection) (received : List (List ℕ)) (m new : Memory) → Shape m →
    Run class lines sel m received new → Shape new
shape_kept class lines sel received m new shape run =
    run_keeps class lines sel (λ _ x. Shape x) received 0
    (λ k lt choice x i. shape_after class lines sel choice (older x) (packet_at received k)
    (record { count = i.count; width = i.width })) m new run shape

-- a row is held whole after a run
row_held_whole : (p : Page) → IsPage p → (m : Memory) → Shape m → (r : ℕ) → 1 ≤ r → r ≤ 24 →
    ((c : ℕ) → c < 40 → char_at m r c ≡ get_or (page_row p r) c 0) → get_or m.rows r [] ≡ page_row p r
row_held_whole p page m shape r low high each =
    let w : length (get_or m.rows r []) ≡ 40 = shape.width r (omega arith) in
    ext_get_or 0 (get_or m.rows r []) (page_row p r) (w ∙ sym ((page.rows r low high).length)) (λ c lt. each c (omega arith))

-- an item that comes is held
item_held : (laws : LawsBelow) (s : Stream) (p : Page) (page : IsPage p) (sel : Selection) (fits : matches sel p.id ≡ true)
    (begin end : ℤ) (steady : IsSteadyFrom s p sel begin)
    (class : Class) (lines repeat : ℕ) (few : lines ≤ 32) (received : List (List ℕ)) (permitted : Received s p.id repeat begin received)
    (long : end ≤ℤ (begin +ℤ pos (length received)))
    (item : Item) → needed p item ≡ true → IsSent s p.id lines repeat item begin end → (m new : Memory) → Shape m →
    Run class lines sel m received new →
    (new.control ≡ p.control) × Holds p new item
item_held laws s p page sel fits begin end steady class lines repeat few received permitted long TheHead need sent m new shape run =
    let each = λ (c : ℕ) (lt : c < 24). head_item laws s p page sel fits begin end steady class lines repeat few received permitted long
    sent c lt m new shape run in
    ((each 0 (omega arith)).0, (λ c lt. (each c lt).1))
item_held laws s p page sel fits begin end steady class lines repeat few received permitted long (TheRow r) need sent m new shape run =
    let each = λ (c : ℕ) (lt : c < 40). row_item laws s p page sel fits begin end steady class lines repeat few received permitted long
    r need sent c lt m new shape run in
    let range = needed_row p r need in (
      (each 0 (omega arith)).0,
      row_held_whole p page new (shape_kept class lines sel received m new shape run) r range.0 range.1 (λ c lt. (each c lt).1),
    )
item_held laws s p page sel fits begin end steady class lines repeat few received permitted long TheLinks need sent m new shape run =
    links_item laws s p page sel fits begin end steady class lines repeat few received permitted long sent m new shape run

-- a blank item is held by a receiver that clears
blank_held : (laws : LawsBelow) (s : Stream) (p : Page) (page : IsPage p) (sel : Selection) (fits : matches sel p.id ≡ true)
    (begin end : ℤ) (steady : IsSteadyFrom s p sel begin)
    (lines repeat : ℕ) (received : List (List ℕ)) (permitted : Received s p.id repeat begin received) (long : end ≤ℤ (begin +ℤ pos (length received)))
    (item : Item) → needed p item ≡ true → IsBlank p item → HasHeaderBetween s p begin end → (m new : Memory) → Shape m → m.fresh
    ≡ true → Run Clearing lines sel m received new →
    (new.control ≡ p.control) × Holds p new item
blank_held laws s p page sel fits begin end steady lines repeat received permitted long item need blank h m new shape fresh run = go item need blank
  where
    at : (k : ℕ) × (h.slot ≡ begin +ℤ pos k)
    at = offset begin h.slot h.not_before

    within : at.0 < length received
    within = offset_lt begin at.0 (length received)
        (subst (λ x. x <ℤ (begin +ℤ pos (length received))) at.1 (before_end begin end h.slot (length received) h.before long))

    here : heads_matched sel (packet_at received at.0) ≡ true
    here =
        same_matched laws (s (begin +ℤ pos at.0)) (get_or received at.0 []) (steady.slots _ (not_before begin at.0))
        (steady.clean _ (not_before begin at.0)) (permitted.each at.0 within) sel
        ∙ page_matched sel p.id _ fits (subst (λ x. heads_page p.id (packet_of (s x)) ≡ true) at.1 h.is_header)

    go : (item : Item) → needed p item ≡ true → IsBlank p item → (new.control ≡ p.control) × Holds p new item
    go TheHead need blank = absurd blank
    go (TheRow r) need blank =
        let each = λ (c : ℕ) (lt : c < 40). blank_row_held lines sel p page received
        (receives_page laws s p page sel fits begin steady repeat received permitted) r c need lt blank at.0 within here m new
        shape fresh run in
        let range = needed_row p r need in (
          (each 0 (omega arith)).0,
          row_held_whole p page new (shape_kept Clearing lines sel received m new shape run) r range.0 range.1 (λ c lt. (each c lt).1),
        )
    go TheLinks need blank = blank_links_held lines sel p page received
        (receives_page laws s p page sel fits begin steady repeat received permitted) blank at.0 within here m new shape fresh run

pub run_holds_its_item : LawsBelow → RunHoldsItsItem
run_holds_its_item laws s p sel Any lines repeat begin end page few fits steady item need (inl sent) former m received is_former permitted run long =
    item_held laws s p page sel fits begin end steady Any lines repeat few received permitted long item need sent former m
    (shape_of Any former is_former) run
run_holds_its_item laws s p sel Clearing lines repeat begin end page few fits steady item need
    (inl sent) former m received is_former permitted run long =
    item_held laws s p page sel fits begin end steady Clearing lines repeat few received permitted long item need sent former m
    (shape_of Clearing former is_former) run
run_holds_its_item laws s p sel Any lines repeat begin end page few fits steady item need (inr b) former m received is_former permitted run long = cc
run_holds_its_item laws s p sel Clearing lines repeat begin end page few fits steady item need
    (inr b) former m received is_former permitted run long =
    blank_held laws s p page sel fits begin end steady lines repeat received permitted long item need b.1 b.2 former m
    (shape_of Clearing former is_former) is_former.1 run
