-- Row 0 of receivers that show late: it is the page's from the header on whose text arrives, once another page number has followed it, if the
-- text of each later header arrives too.
use Rattle.std.proofs.Common.{◌≡◌, ◌⊎◌, ℕ, zero, suc, ◌<◌, ℤ, pos, ◌+ℤ◌, ◌≤ℤ◌, ◌==◌, ◌&&◌, not, Bool, true, false, if◌then◌else◌}
use Rattle.std.proofs.Common.{List, [], ◌∷◌, Option, Some, None, length, get_or, drop, map}
use Rattle.std.proofs.Common.{refl, sym, ap, ◌∙◌, subst, inl, inr, arith, eqb-true, eq-eqb}
use Rattle.std.proofs.lemmas.Bool.{cases_Bool, both_ways, and_parts, not-true}
use Rattle.std.proofs.lemmas.Int.{ints}
use Rattle.ttx_packet.specs.Slots.{Kind, IsEmpty, IsUnreadable, IsHeader, IsRow, IsLinks, IsInfo, IsOther, kind_of}
use Rattle.ttx_packet.specs.Laws.{RowsAreNumbered}
use Rattle.ttx_code.specs.Laws.{OddBytesHoldTheirCodes}
use Rattle.ttx_header.specs.Ids.{Id}
use Rattle.ttx_header.specs.Control.{c11}
use Rattle.ttx_header.specs.Headers.{id_of, control_of}
use Rattle.ttx_links.specs.Sets.{LinkSet}
use Rattle.ttx_page.specs.Packets.{Packet, Empty, Unreadable, Header, Row, Links, Info, Other, packet_of, packet_of_kind}
use Rattle.ttx_page.specs.Pages.{Page, IsPage, matches, selected_mag}
use Rattle.ttx_page.specs.declared.item.Item.TheVariants.{Head as TheHead}
use Rattle.ttx_page.specs.declared.selection.Selection.{Selection}
use Rattle.ttx_page.specs.declared.selection.Selection.TheVariants.{Exact, AnySub}
use Rattle.ttx_page.specs.declared.class.Class.{Class}
use Rattle.ttx_page.specs.declared.class.Class.TheVariants.{Any, Clearing}
use Rattle.ttx_page.specs.Memories.{Memory, memory_row, IsFormer}
use Rattle.ttx_page.specs.Receivers.{after, older, erased, erases, begun, with_storing, with_row, with_links, misses, stored_row}
use Rattle.ttx_page.specs.Streams.{Stream, heads, heads_page}
use Rattle.ttx_page.specs.Followers.{heads_another}
use Rattle.ttx_page.specs.Receptions.{IsTextByte}
use Rattle.ttx_late.specs.LateReceivers.{LateMemory, heads_number, selected_number, may_forget, TakesIn}
use Rattle.ttx_late.specs.Laws.{IsFollowedFrom}
use Rattle.ttx_rows.specs.RowReceivers.{Manner, may_refuse, blank_byte, blanked, IsTakenAs, RowStep, RowLateStep, RowLateRun}
use Rattle.ttx_rows.proofs.OneSlot.{LawsBelow, packet_is, IsHeaderKind, header_of}
use Rattle.ttx_rows.proofs.ManySlots.{mag_is}
use Rattle.ttx_rows.proofs.Owners.{Owner}
use Rattle.ttx_rows.proofs.LastHead.{HasHead, Wide, wide_step, AreRightFrom, OfPage, AllOfPage, HeaderReceived, header_was_sent, mag_header_received}
use Rattle.ttx_rows.proofs.LastHead.{page_header_received, page_of_mag, page_id_matches}
use Rattle.ttx_rows.proofs.LastHead.{IsElsewhere, later, right_later, right_next, elsewhere, other_step, head_step}
use Rattle.ttx_page.proofs.SlotDistances.{cases_ltz}

-- where storing begins and ends

-- the packet with some text
abbrev IsVersion : Packet → Packet → Type 0
IsVersion (Header id control t) new = (u : List ℕ) × (new ≡ Header id control u)
IsVersion (Row mag number t) new = (u : List ℕ) × (new ≡ Row mag number u)
IsVersion packet new = new ≡ packet

-- what a step does: nothing, or the same as with such a packet
record Stepped (class : Class) (lines : ℕ) (sel : Selection) (m : Memory) (received : Packet) (new : Memory) : Type 0 where
  pub choice : Bool
  pub packet : Packet
  pub version : IsVersion received packet
  pub is : new ≡ after class lines sel choice (older m) packet

own_version : (pkt : Packet) → IsVersion pkt pkt
own_version (Header id control t) = (t, refl)
own_version (Row mag number t) = (t, refl)
own_version (Links mag content) = refl
own_version Empty = refl
own_version Unreadable = refl
own_version Info = refl
own_version Other = refl

blank_version : (pkt : Packet) → IsVersion pkt (blanked pkt)
blank_version (Header id control t) = (map blank_byte t, refl)
blank_version (Row mag number t) = (t, refl)
blank_version (Links mag content) = refl
blank_version Empty = refl
blank_version Unreadable = refl
blank_version Info = refl
blank_version Other = refl

taken_version : (pkt taken : Packet) → IsTakenAs pkt taken → IsVersion pkt taken
taken_version (Header id control t) taken i = (i.0, i.2)
taken_version (Row mag number t) taken i = (i.0, i.2)
taken_version (Links mag content) taken i = i
taken_version Empty taken i = i
taken_version Unreadable taken i = i
taken_version Info taken i = i
taken_version Other taken i = i

stepped : (how : Manner) (class : Class) (lines : ℕ) (sel : Selection) (m : Memory) (received : List ℕ) (new : Memory) →
    RowStep how class lines sel m received new →
    ((may_refuse (packet_of received) ≡ true) × (new ≡ older m)) ⊎ Stepped class lines sel m (packet_of received) new
stepped how class lines sel m received new step =
    elim step as (λ _. ((may_refuse (packet_of received) ≡ true) × (new ≡ older m)) ⊎ Stepped class lines sel m (packet_of received) new) [
      | inl t ↦ inr (record { choice = t.choice; packet = packet_of received; version = own_version (packet_of received); is = t.is })
      | inr other ↦ elim other as (λ _. ((may_refuse (packet_of received) ≡ true) × (new ≡ older m)) ⊎ Stepped class lines sel m
          (packet_of received) new) [
            | inl r ↦ inl (r.1, r.2)
            | inr more ↦ elim more as (λ _. ((may_refuse (packet_of received) ≡ true) × (new ≡ older m)) ⊎ Stepped class lines sel m
                (packet_of received) new) [
                  | inl b ↦ inr (record {
                    choice = b.1.0;
                    packet = blanked (packet_of received);
                    version = blank_version (packet_of received);
                    is = b.1.1;
                  })
                  | inr t ↦ inr (record {
                    choice = t.1.1;
                    packet = t.1.0;
                    version = taken_version (packet_of received) t.1.0 t.1.2;
                    is = t.1.3;
                  })
                ]
          ]
    ]

version_elsewhere : (sel : Selection) (pkt new : Packet) → IsVersion pkt new → IsElsewhere sel pkt → IsElsewhere sel new
version_elsewhere sel (Header id control t) new v e = subst (IsElsewhere sel) (sym v.1) e
version_elsewhere sel (Row mag number t) new v e = subst (IsElsewhere sel) (sym v.1) e
version_elsewhere sel (Links mag content) new v e = subst (IsElsewhere sel) (sym v) e
version_elsewhere sel Empty new v e = subst (IsElsewhere sel) (sym v) e
version_elsewhere sel Unreadable new v e = subst (IsElsewhere sel) (sym v) e
version_elsewhere sel Info new v e = subst (IsElsewhere sel) (sym v) e
version_elsewhere sel Other new v e = subst (IsElsewhere sel) (sym v) e

-- if one of two memories is storing only if a third is, the same holds for the choice between them
if_storing : (m : Memory) (b : Bool) (x y : Memory) → (b ≡ true → x.storing ≡ true → m.storing ≡ true) → (y.storing ≡ true → m.storing ≡ true) →
    (if b then x else y).storing ≡ true → m.storing ≡ true
if_storing m true x y f g h = f refl h
if_storing m false x y f g h = g h

linked_storing : (m : Memory) (content : Option LinkSet) → (with_links m content).storing ≡ m.storing
linked_storing m None = refl
linked_storing m (Some content) = refl

-- storing does not begin at other packets
storing_was : (class : Class) (lines : ℕ) (sel : Selection) (choice : Bool) (m : Memory) (pkt : Packet) → IsElsewhere sel pkt →
    (after class lines sel choice m pkt).storing ≡ true → m.storing ≡ true
storing_was class lines sel choice m (Header id control t) other h =
    if_storing m (matches sel id) (begun (if erases class choice m control then erased m else m) control t)
    (if id.mag == selected_mag sel then with_storing m false else (if c11 control && choice then with_storing m false else m))
    (λ here _. absurd (both_ways _ other here))
    (if_storing m (id.mag == selected_mag sel) (with_storing m false) (if c11 control && choice then with_storing m false else m)
    (λ _ x. absurd (both_ways false refl x)) (if_storing m (c11 control && choice) (with_storing m false) m (λ _ x. absurd (both_ways false refl x))
    (λ x. x))) h
storing_was class lines sel choice m (Row mag number t) low h =
    if_storing m ((mag == selected_mag sel) && m.storing && not (misses lines choice m))
    (with_row m number (stored_row (memory_row m number) t)) m (λ _ x. x) (λ x. x) h
storing_was class lines sel choice m (Links mag content) other h =
    if_storing m ((mag == selected_mag sel) && m.storing && not (misses lines choice m))
    (with_links m content) m (λ _ x. sym (linked_storing m content) ∙ x) (λ x. x) h
storing_was class lines sel choice m Empty other h = h
storing_was class lines sel choice m Unreadable other h = h
storing_was class lines sel choice m Info other h = h
storing_was class lines sel choice m Other other h = h

-- it ends at a header of the magazine that does not match, and begins at one that does
if_true : (b : Bool) (x y : Memory) → b ≡ true → (if b then x else y) ≡ x
if_true true x y e = refl
if_true false x y e = absurd (both_ways false refl e)

if_false : (b : Bool) (x y : Memory) → b ≡ false → (if b then x else y) ≡ y
if_false true x y e = absurd (both_ways true e refl)
if_false false x y e = refl

storing_ends : (class : Class) (lines : ℕ) (sel : Selection) (choice : Bool) (m : Memory) (id : Id) (control : ℕ) (t : List ℕ) →
    matches sel id ≡ false → (id.mag == selected_mag sel) ≡ true → (after class lines sel choice m (Header id control t)).storing ≡ false
storing_ends class lines sel choice m id control t other own =
    ap (λ (x : Memory). x.storing) (if_false (matches sel id) (begun (if erases class choice m control then erased m else m) control t)
    (if id.mag == selected_mag sel then with_storing m false else (if c11 control && choice then with_storing m false else m)) other
    ∙ if_true (id.mag == selected_mag sel) (with_storing m false) (if c11 control && choice then with_storing m false else m) own)

storing_begins : (class : Class) (lines : ℕ) (sel : Selection) (choice : Bool) (m : Memory) (id : Id) (control : ℕ) (t : List ℕ) →
    matches sel id ≡ true → (after class lines sel choice m (Header id control t)).storing ≡ true
storing_begins class lines sel choice m id control t here =
    ap (λ (x : Memory). x.storing) (if_true (matches sel id) (begun (if erases class choice m control then erased m else m) control t)
    (if id.mag == selected_mag sel then with_storing m false else (if c11 control && choice then with_storing m false else m)) here)

-- headers

another_heads : (page : Id) (pkt : Packet) → heads_another page pkt ≡ true → heads page.mag pkt ≡ true
another_heads page (Header id control t) h = (and_parts _ _ h).0
another_heads page (Row mag number t) h = h
another_heads page (Links mag content) h = h
another_heads page Empty h = h
another_heads page Unreadable h = h
another_heads page Info h = h
another_heads page Other h = h

another_is_other : (page : Id) (pkt : Packet) → heads_another page pkt ≡ true → heads_page page pkt ≡ false
another_is_other page pkt h = elim (cases_Bool (heads_page page pkt)) as (λ _. heads_page page pkt ≡ false) [ inr f ↦ f | inl mine ↦ go pkt h mine ]
  where
    go : (pkt : Packet) → heads_another page pkt ≡ true → heads_page page pkt ≡ true → heads_page page pkt ≡ false
    go (Header id control t) h mine =
        let same : page.page ≡ id.page = eqb-true _ _ ((and_parts _ _ (and_parts _ _ mine).0).1) in
        absurd (both_ways _ (not-true _ ((and_parts (id.mag == page.mag) _ h).1)) (eq-eqb id.page page.page (sym same)))
    go (Row mag number t) h mine = absurd (both_ways false refl h)
    go (Links mag content) h mine = absurd (both_ways false refl h)
    go Empty h mine = absurd (both_ways false refl h)
    go Unreadable h mine = absurd (both_ways false refl h)
    go Info h mine = absurd (both_ways false refl h)
    go Other h mine = absurd (both_ways false refl h)

number_is : (sel : Selection) (page : Id) → matches sel page ≡ true → selected_number sel ≡ page.page
number_is (Exact own) page h = eqb-true own.page page.page ((and_parts _ _ (and_parts _ _ h).0).1)
number_is (AnySub mag number) page h = eqb-true number page.page ((and_parts _ _ h).1)

number_kind : (sel : Selection) (slot : List ℕ) (k : Kind) → heads_number sel (packet_of_kind slot k) ≡ true → IsHeaderKind k
number_kind sel slot (IsHeader mag) h = tt
number_kind sel slot (IsRow mag number) h = absurd (both_ways false refl h)
number_kind sel slot (IsLinks mag) h = absurd (both_ways false refl h)
number_kind sel slot IsEmpty h = absurd (both_ways false refl h)
number_kind sel slot IsUnreadable h = absurd (both_ways false refl h)
number_kind sel slot IsInfo h = absurd (both_ways false refl h)
number_kind sel slot (IsOther mag number) h = absurd (both_ways false refl h)

no_page : (page : Id) (pkt : Packet) → heads page.mag pkt ≡ false → heads_page page pkt ≡ false
no_page page pkt none = elim (cases_Bool (heads_page page pkt)) as (λ _. heads_page page pkt ≡ false)
    [ inr f ↦ f | inl mine ↦ absurd (both_ways _ none (page_of_mag page pkt mine)) ]

pub former_is_wide : (class : Class) (m : Memory) → IsFormer class m → Wide m
former_is_wide Any m is = (is.rows 0 (omega arith)).length
former_is_wide Clearing m is = (is.0.rows 0 (omega arith)).length

base_is_wide : (class : Class) (sel : Selection) (d : LateMemory) (base : Memory) (pkt : Packet) → Wide d.gathered →
    TakesIn class sel d.gathered pkt base → Wide base
base_is_wide class sel d base pkt w from =
    elim from as (λ _. Wide base) [ inl kept ↦ subst Wide (sym kept) w | inr other ↦ former_is_wide class base other.1 ]

-- the header text of the slot arrives, if it is a header of the page
abbrev IsRightHere : Page → List ℕ → List ℕ → Type 0
IsRightHere p sent received = heads_page p.id (packet_of sent) ≡ true → (x : ℕ) → IsTextByte TheHead x → get_or received x 0 ≡ get_or sent x 0

-- what the receiver holds before slot j, if the text of the last header has arrived
record Stands (p : Page) (s : Stream) (begin j : ℤ) (d : LateMemory) : Type 0 where
  pub head : HasHead p d.gathered
  pub wide : Wide d.gathered
  pub owner : d.gathered.storing ≡ true → Owner p.id s begin j

-- row 0 is shown, or will be
abbrev WillShow : Page → LateMemory → Type 0
WillShow p d = HasHead p d.shown ⊎ (d.gathered.storing ≡ true)

record LateNext (p : Page) (s : Stream) (begin j : ℤ) (d new : LateMemory) : Type 0 where
  pub stands : Stands p s begin (j +ℤ pos 1) new
  pub shown : HasHead p d.shown → HasHead p new.shown
  pub will : WillShow p d → WillShow p new

module _ (laws : LawsBelow) (numbered : RowsAreNumbered) (codes : OddBytesHoldTheirCodes) (p : Page) (page : IsPage p) (sel : Selection)
    (fits : matches sel p.id ≡ true) (class : Class) (lines : ℕ) (how : Manner) (s : Stream) (gap : ℕ) (begin : ℤ)
    (followed : IsFollowedFrom s p.id gap begin) where
  module _ (j : ℤ) (low : begin ≤ℤ j) (received : List ℕ) (of : OfPage sel p (s j) received) where
    -- while a page is stored no header of its number comes
    no_number : Owner p.id s begin j → heads_number sel (packet_of received) ≡ true → ⊥
    no_number o h =
        let k = header_of (kind_of received) (number_kind sel received (kind_of received) (ap (heads_number sel) (sym (packet_is received)) ∙ h)) in
        let was = header_was_sent laws p.id (s j) received of.arrived k.0 k.1 in
        let number = sym (ap (heads_number sel) was.is_received) ∙ h in
        let mag : ((id_of (s j)).mag == p.id.mag) ≡ true =
        ap (λ m. (id_of (s j)).mag == m) (sym (mag_is sel p.id fits)) ∙ ap (λ (id : Id). id.mag == selected_mag sel) (sym was.same_id)
        ∙ (and_parts _ _ number).0 in
        let same_page : ((id_of (s j)).page == p.id.page) ≡ true =
        ap (λ m. (id_of (s j)).page == m) (sym (number_is sel p.id fits)) ∙ ap (λ (id : Id). id.page == selected_number sel) (sym was.same_id)
        ∙ (and_parts ((id_of received).mag == selected_mag sel) _ number).1 in
        let here : heads p.id.mag (packet_of (s j)) ≡ true = ap (heads p.id.mag) was.is_sent ∙ mag in
        let f = followed o.slot o.not_before o.is_page in
        elim (cases_ltz f.0.slot j) as (λ _. ⊥) [
          | inl before ↦ both_ways _ (o.latest.none_between f.0.slot f.0.next.earlier before) (another_heads p.id _ f.0.another)
          | inr past ↦ elim (cases_ltz j f.0.slot) as (λ _. ⊥) [
            | inl between ↦ both_ways _ (f.0.next.none_between j o.latest.earlier between) here
            | inr no_later ↦
                let e : f.0.slot ≡ j = omega (arith, ints) in
                let another : heads_another p.id (packet_of (s j)) ≡ true = subst (λ i. heads_another p.id (packet_of (s i)) ≡ true) e f.0.another in
                both_ways _ (not-true _ ((and_parts ((id_of (s j)).mag == p.id.mag) _ (sym (ap (heads_another p.id) was.is_sent) ∙ another)).1))
                same_page
          ]
        ]

    -- a header of the magazine that is not the page's ends storing
    ends : heads p.id.mag (packet_of (s j)) ≡ true → heads_page p.id (packet_of (s j)) ≡ false → (m new : Memory) →
        RowStep how class lines sel m received new → new.storing ≡ false
    ends mine other m new step =
        let h = mag_header_received laws p.id (s j) received of.arrived mine in
        let not_here : matches sel (id_of received) ≡ false =
        subst (IsElsewhere sel) h.is_received (elsewhere laws numbered codes p page sel fits class lines how (s j) received of other) in
        let own : ((id_of received).mag == selected_mag sel) ≡ true =
        ap (λ m. (id_of received).mag == m) (mag_is sel p.id fits) ∙ ap (λ (id : Id). id.mag == p.id.mag) h.same_id
        ∙ sym (ap (heads p.id.mag) h.is_sent) ∙ mine in
        elim (stepped how class lines sel m received new step) as (λ _. new.storing ≡ false) [
          | inl r ↦ absurd (both_ways _ (ap may_refuse h.is_received) r.0)
          | inr t ↦ by t (subst (λ pkt. IsVersion pkt t.packet) h.is_received t.version) not_here own
        ]
      where
        by : (t : Stepped class lines sel m (packet_of received) new) →
            IsVersion (Header (id_of received) (control_of received) (drop 10 received)) t.packet →
            matches sel (id_of received) ≡ false → ((id_of received).mag == selected_mag sel) ≡ true → new.storing ≡ false
        by t v not_here own =
            ap (λ (x : Memory). x.storing) (t.is ∙ ap (after class lines sel t.choice (older m)) v.1)
            ∙ storing_ends class lines sel t.choice (older m) (id_of received) (control_of received) v.0 not_here own

    -- storing continues, or begins, under a header of the page
    owner_next : (m new : Memory) → (m.storing ≡ true → Owner p.id s begin j) → RowStep how class lines sel m received new →
        new.storing ≡ true → Owner p.id s begin (j +ℤ pos 1)
    owner_next m new owner step stores = elim (cases_Bool (heads p.id.mag (packet_of (s j)))) as (λ _. Owner p.id s begin (j +ℤ pos 1)) [
      | inl mine ↦ elim (cases_Bool (heads_page p.id (packet_of (s j)))) as (λ _. Owner p.id s begin (j +ℤ pos 1)) [
        | inl is_page ↦ record {
          slot = j;
          not_before = low;
          latest = record { earlier = omega (arith, ints); is_header = mine; none_between = λ i a b. absurd (omega (arith, ints)) };
          is_page = is_page;
        }
        | inr other ↦ absurd (both_ways _ (ends mine other m new step) stores)
      ]
      | inr none ↦
          let o = owner (was_storing none) in
          record {
            slot = o.slot;
            not_before = o.not_before;
            latest = record {
              earlier = let e = o.latest.earlier in omega (arith, ints);
              is_header = o.latest.is_header;
              none_between = λ i a b. elim (cases_ltz i j) as (λ _. heads p.id.mag (packet_of (s i)) ≡ false) [
                | inl before ↦ o.latest.none_between i a before
                | inr past ↦ let e : j ≡ i = omega (arith, ints) in subst (λ k. heads p.id.mag (packet_of (s k)) ≡ false) e none
              ];
            };
            is_page = o.is_page;
          }
    ]
      where
        was_storing : heads p.id.mag (packet_of (s j)) ≡ false → m.storing ≡ true
        was_storing none =
            let other = no_page p.id (packet_of (s j)) none in
            let away = elsewhere laws numbered codes p page sel fits class lines how (s j) received of other in
            elim (stepped how class lines sel m received new step) as (λ _. m.storing ≡ true) [
              | inl r ↦ sym (ap (λ (x : Memory). x.storing) r.1) ∙ stores
              | inr t ↦ storing_was class lines sel t.choice (older m) t.packet (version_elsewhere sel (packet_of received) t.packet t.version away)
                  (sym (ap (λ (x : Memory). x.storing) t.is) ∙ stores)
            ]

    gathered_head : IsRightHere p (s j) received → (m new : Memory) → HasHead p m → Wide m → RowStep how class lines sel m received new →
        HasHead p new
    gathered_head right m new h w step = elim (cases_Bool (heads_page p.id (packet_of (s j)))) as (λ _. HasHead p new) [
      | inl mine ↦ head_step laws numbered codes p page sel fits class lines how (s j) received of mine (right mine) m new w step
      | inr other ↦ other_step laws numbered codes p page sel fits class lines how (s j) received of other m new h step
    ]

    late_next : IsRightHere p (s j) received → (d new : LateMemory) → Stands p s begin j d → RowLateStep how class lines sel d received new →
        LateNext p s begin j d new
    late_next right d new st r = by (elim r.from as (λ _. r.base ≡ d.gathered) [
      | inl kept ↦ kept
      | inr other ↦ let both = and_parts _ _ (forgets (packet_of received) other.0) in absurd (no_number (st.owner both.0) both.1)
    ])
      where
        forgets : (pkt : Packet) → may_forget sel d.gathered pkt ≡ true → (d.gathered.storing && heads_number sel pkt) ≡ true
        forgets pkt h = h

        by : r.base ≡ d.gathered → LateNext p s begin j d new
        by kept =
            let step : RowStep how class lines sel d.gathered received new.gathered =
            subst (λ m. RowStep how class lines sel m received new.gathered) kept r.step in
            let head : HasHead p new.gathered = gathered_head right d.gathered new.gathered st.head st.wide step in
            record {
              stands = record {
                head = head;
                wide = wide_step how class lines sel d.gathered received new.gathered st.wide step;
                owner = owner_next d.gathered new.gathered st.owner step;
              };
              shown = λ h. elim r.shown as (λ _. HasHead p new.shown) [
                | inl e ↦ subst (HasHead p) (sym e) st.head
                | inr more ↦ elim more as (λ _. HasHead p new.shown)
                    [ inl e ↦ subst (HasHead p) (sym e) head | inr stays ↦ subst (HasHead p) (sym stays.0) h ]
              ];
              will = λ w. elim r.shown as (λ _. WillShow p new) [
                | inl e ↦ inl (subst (HasHead p) (sym e) st.head)
                | inr more ↦ elim more as (λ _. WillShow p new) [
                  | inl e ↦ inl (subst (HasHead p) (sym e) head)
                  | inr stays ↦ elim w as (λ _. WillShow p new) [
                    | inl h ↦ inl (subst (HasHead p) (sym stays.0) h)
                    | inr stores ↦ inr (goes_on stores stays.1)
                  ]
                ]
              ];
            }
          where
            goes_on : d.gathered.storing ≡ true → (d.gathered.storing && not new.gathered.storing && not (heads_number sel
                (packet_of received))) ≡ false →
                new.gathered.storing ≡ true
            goes_on stores no_show = three d.gathered.storing new.gathered.storing (heads_number sel (packet_of received)) stores
                (no_number (st.owner stores)) no_show
              where
                three : (a b c : Bool) → a ≡ true → (c ≡ true → ⊥) → (a && not b && not c) ≡ false → b ≡ true
                three a true c x y z = refl
                three true false true x y z = absurd (y refl)
                three true false false x y z = absurd (both_ways true z refl)
                three false false c x y z = absurd (both_ways false refl x)

    -- storing begins at a header of the page whose text arrives
    late_begins : heads_page p.id (packet_of (s j)) ≡ true → IsRightHere p (s j) received → (d new : LateMemory) → Wide d.gathered →
        RowLateStep how class lines sel d received new → Stands p s begin (j +ℤ pos 1) new × WillShow p new
    late_begins mine right d new w r =
        let base_wide : Wide r.base = base_is_wide class sel d r.base (packet_of received) w r.from in
        let h = page_header_received laws p.id (s j) received of.arrived mine in
        let stores : new.gathered.storing ≡ true = begins h in (
          record {
            head = head_step laws numbered codes p page sel fits class lines how (s j) received of mine
                (right mine) r.base new.gathered base_wide r.step;
            wide = wide_step how class lines sel r.base received new.gathered base_wide r.step;
            owner = λ _. record {
              slot = j;
              not_before = low;
              latest = record {
                earlier = omega (arith, ints);
                is_header = page_of_mag p.id (packet_of (s j)) mine;
                none_between = λ i a b. absurd (omega (arith, ints));
              };
              is_page = mine;
            };
          },
          inr stores,
        )
      where
        begins : HeaderReceived p.id (s j) received → new.gathered.storing ≡ true
        begins h = elim (stepped how class lines sel r.base received new.gathered r.step) as (λ _. new.gathered.storing ≡ true) [
          | inl refused ↦ absurd (both_ways _ (ap may_refuse h.is_received) refused.0)
          | inr t ↦
              let v = subst (λ pkt. IsVersion pkt t.packet) h.is_received t.version in
              let here : matches sel (id_of received) ≡ true =
              ap (λ id. matches sel id) h.same_id ∙ page_id_matches sel p.id (id_of (s j)) fits (sym (ap (heads_page p.id) h.is_sent) ∙ mine) in
              ap (λ (x : Memory). x.storing) (t.is ∙ ap (after class lines sel t.choice (older r.base)) v.1)
              ∙ storing_begins class lines sel t.choice (older r.base) (id_of received) (control_of received) v.0 here
        ]

  -- runs

  is_later : (j : ℤ) → begin ≤ℤ j → begin ≤ℤ (j +ℤ pos 1)
  is_later j low = omega (arith, ints)

  at_first : (tau : ℤ) (slot : List ℕ) (received : List (List ℕ)) → AreRightFrom s p.id tau (slot ∷ received) 0 →
      IsRightHere p (s (tau +ℤ pos 0)) slot
  at_first tau slot received right = right 0 (omega arith) (omega arith)

  next_place : (tau : ℤ) (d : LateMemory) → Stands p s begin ((tau +ℤ pos 0) +ℤ pos 1) d → Stands p s begin (tau +ℤ pos 1) d
  next_place tau d st = let e : (tau +ℤ pos 0) +ℤ pos 1 ≡ tau +ℤ pos 1 = omega (arith, ints) in subst (λ j. Stands p s begin j d) e st

  first_place : (tau : ℤ) (d : LateMemory) → Stands p s begin tau d → Stands p s begin (tau +ℤ pos 0) d
  first_place tau d st = let e : tau ≡ tau +ℤ pos 0 = omega (arith, ints) in subst (λ j. Stands p s begin j d) e st

  low_first : (tau : ℤ) → begin ≤ℤ tau → begin ≤ℤ (tau +ℤ pos 0)
  low_first tau low = omega (arith, ints)

  -- row 0 is shown
  stays_shown : (received : List (List ℕ)) (tau : ℤ) → begin ≤ℤ tau → AllOfPage sel p s tau received → AreRightFrom s p.id tau received 0 →
      (d new : LateMemory) → Stands p s begin tau d → HasHead p d.shown → RowLateRun how class lines sel d received new → HasHead p new.shown
  stays_shown [] tau low of right d new st h run = subst (λ (x : LateMemory). HasHead p x.shown) (sym run) h
  stays_shown (slot ∷ received) tau low of right d new st h run =
      let n = late_next (tau +ℤ pos 0) (low_first tau low) slot (of 0 (omega arith)) (at_first tau slot received right) d run.0 (first_place tau d st)
      run.1 in
      stays_shown received (tau +ℤ pos 1) (is_later tau low) (later sel p s tau slot received of)
      (right_next s p.id tau slot received right) run.0 new
      (next_place tau run.0 n.stands) (n.shown h) run.2

  -- it is shown once another page number has come
  comes_shown : (received : List (List ℕ)) (tau : ℤ) (until : ℕ) → begin ≤ℤ tau → until < length received →
      heads_another p.id (packet_of (s (tau +ℤ pos until))) ≡ true → AllOfPage sel p s tau received → AreRightFrom s p.id tau received 0 →
      (d new : LateMemory) → Stands p s begin tau d → WillShow p d → RowLateRun how class lines sel d received new → HasHead p new.shown
  comes_shown [] tau until low lt another of right d new st w run = absurd (omega arith)
  comes_shown (slot ∷ received) tau zero low lt another of right d new st w run =
      let n = late_next (tau +ℤ pos 0) (low_first tau low) slot (of 0 (omega arith)) (at_first tau slot received right) d run.0 (first_place tau d st)
      run.1 in
      stays_shown received (tau +ℤ pos 1) (is_later tau low) (later sel p s tau slot received of)
      (right_next s p.id tau slot received right) run.0 new
      (next_place tau run.0 n.stands)
      (elim (n.will w) as (λ _. HasHead p run.0.shown) [
        | inl h ↦ h
        | inr stores ↦ absurd (both_ways _ (ends (tau +ℤ pos 0) (low_first tau low) slot (of 0 (omega arith))
            (another_heads p.id (packet_of (s (tau +ℤ pos 0))) another) (another_is_other p.id (packet_of (s (tau +ℤ pos 0))) another) run.1.base
            run.0.gathered run.1.step) stores)
      ]) run.2
  comes_shown (slot ∷ received) tau (suc until) low lt another of right d new st w run =
      let n = late_next (tau +ℤ pos 0) (low_first tau low) slot (of 0 (omega arith)) (at_first tau slot received right) d run.0 (first_place tau d st)
      run.1 in
      let e : tau +ℤ pos (suc until) ≡ (tau +ℤ pos 1) +ℤ pos until = omega (arith, ints) in
      comes_shown received (tau +ℤ pos 1) until (is_later tau low) (omega arith)
      (subst (λ j. heads_another p.id (packet_of (s j)) ≡ true) e another) (later sel p s tau slot received of)
      (right_next s p.id tau slot received right) run.0 new (next_place tau run.0 n.stands) (n.will w) run.2

  pub late_head : (received : List (List ℕ)) (tau : ℤ) (from until : ℕ) → begin ≤ℤ tau → from < until → until < length received →
      heads_page p.id (packet_of (s (tau +ℤ pos from))) ≡ true → heads_another p.id (packet_of (s (tau +ℤ pos until))) ≡ true →
      AllOfPage sel p s tau received → AreRightFrom s p.id tau received from →
      (d new : LateMemory) → Wide d.gathered → RowLateRun how class lines sel d received new → HasHead p new.shown
  late_head [] tau from until low order lt mine another of right d new w run = absurd (omega arith)
  late_head (slot ∷ received) tau from zero low order lt mine another of right d new w run = absurd (omega arith)
  late_head (slot ∷ received) tau zero (suc until) low order lt mine another of right d new w run =
      let e : tau +ℤ pos (suc until) ≡ (tau +ℤ pos 1) +ℤ pos until = omega (arith, ints) in
      let b = late_begins (tau +ℤ pos 0) (low_first tau low) slot (of 0 (omega arith)) mine (at_first tau slot received right) d run.0 w run.1 in
      comes_shown received (tau +ℤ pos 1) until (is_later tau low) (omega arith)
      (subst (λ j. heads_another p.id (packet_of (s j)) ≡ true) e another) (later sel p s tau slot received of)
      (right_next s p.id tau slot received right) run.0 new (next_place tau run.0 b.0) b.1 run.2
  late_head (slot ∷ received) tau (suc from) (suc until) low order lt mine another of right d new w run =
      let e : tau +ℤ pos (suc until) ≡ (tau +ℤ pos 1) +ℤ pos until = omega (arith, ints) in
      let f : tau +ℤ pos (suc from) ≡ (tau +ℤ pos 1) +ℤ pos from = omega (arith, ints) in
      late_head received (tau +ℤ pos 1) from until (is_later tau low) (omega arith) (omega arith)
      (subst (λ j. heads_page p.id (packet_of (s j)) ≡ true) f mine) (subst (λ j. heads_another p.id (packet_of (s j)) ≡ true) e another)
      (later sel p s tau slot received of) (right_later s p.id tau slot received from right) run.0 new
      (wide_step how class lines sel run.1.base slot run.0.gathered (base_is_wide class sel d run.1.base
      (packet_of slot) w run.1.from) run.1.step) run.2
