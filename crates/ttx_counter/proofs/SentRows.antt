-- The rows of a page that the slots of a stream send.
use Rattle.std.proofs.Common.{◌≡◌, ◌⊎◌, ◌↔◌, ℕ, zero, suc, ◌+◌, ◌<◌, ◌≤◌, ℤ, pos, ◌+ℤ◌, ◌-ℤ◌, ◌<ℤ◌, ◌≤ℤ◌, Bool, true, false, ◌&&◌, if◌then◌else◌}
use Rattle.std.proofs.Common.{◌==◌, ◌%◌, List, [], length, get_or, None, refl, sym, ap, ◌∙◌, subst, inl, inr, arith, eqb-true}
use Rattle.std.proofs.lemmas.Int.{ints, by_lt_z}
use Rattle.std.proofs.lemmas.Bool.{and_parts, cond_both, both_ways, and_from}
use Rattle.ttx_packet.specs.Slots.{Kind, IsEmpty, IsUnreadable, IsHeader, IsRow, IsLinks, IsInfo, IsOther, kind_of}
use Rattle.ttx_packet.specs.Laws.{RowsAreNumbered}
use Rattle.ttx_header.specs.Ids.{Id, same_id}
use Rattle.ttx_page.specs.Packets.{Packet, Empty, Unreadable, Header, Row, Links, Info, Other, packet_of, packet_of_kind}
use Rattle.ttx_page.specs.declared.item.Item.TheVariants.{Row as TheRow}
use Rattle.ttx_page.specs.Laws.{CyclesRepeat}
use Rattle.ttx_page.specs.Streams.{Stream, repeated, heads, heads_page, carries, IsTransmission}
use Rattle.ttx_page.proofs.Owners.{page_heads}
use Rattle.ttx_witness.specs.faults.Comparing.{mine_after}
use Rattle.ttx_counter.specs.Listening.{HasOwner, row_sent, mine_from, item_of}
use Rattle.ttx_counter.specs.Cells.{is_row}

-- rows are numbered
abbrev pub IsNumbered : Packet → Type 0
IsNumbered (Row mag number text) = (1 ≤ number) × (number ≤ 24)
IsNumbered _ = Unit {0}

pub numbered : RowsAreNumbered → (slot : List ℕ) → IsNumbered (packet_of slot)
unfolding packet_of
numbered law slot = go (kind_of slot) refl
  where
    go : (k : Kind) → kind_of slot ≡ k → IsNumbered (packet_of_kind slot k)
    go IsEmpty e = tt
    go IsUnreadable e = tt
    go (IsHeader mag) e = tt
    go (IsRow mag number) e = let h = law slot mag number e in (let a = h.0 in omega arith, let b = h.1 in omega arith)
    go (IsLinks mag) e = tt
    go IsInfo e = tt
    go (IsOther mag number) e = tt

pub row_number : RowsAreNumbered → (slot : List ℕ) (mag number : ℕ) (text : List ℕ) → packet_of slot ≡ Row mag number text → number < 25
row_number law slot mag number text e = let h = subst IsNumbered e (numbered law slot) in let b = h.1 in omega arith

module _ (s : Stream) (page : Id) where
  abbrev pk : ℤ → Packet
  pk j = packet_of (s j)

  abbrev pub IsMine : ℤ → Bool → Type 0
  IsMine j mine = (mine ≡ true) ↔ HasOwner s page j

  -- a header of the magazine
  pub here : (j : ℤ) → heads page.mag (pk j) ≡ true → (heads_page page (pk j) ≡ true) ↔ HasOwner s page (j +ℤ pos 1)
  here j is = (
    (λ own. record {
      slot = j;
      latest = record
          { earlier = omega (arith, ints); is_header = is; none_between = λ i low high. absurd (omega (arith, ints)) };
      own =
          own;
    }),
    (λ o. by_lt_z o.slot j
        (λ lt. absurd (both_ways _ (o.latest.none_between j lt (omega (arith, ints))) is))
        (λ ge. let e : o.slot ≡ j = let a = o.latest.earlier in omega (arith, ints) in subst (λ x. heads_page page (pk x) ≡ true) e o.own)),
  )

  -- a packet that is not a header of it
  pub later : (j : ℤ) → heads page.mag (pk j) ≡ false → HasOwner s page j ↔ HasOwner s page (j +ℤ pos 1)
  later j isnt = (
    (λ o. record {
      slot = o.slot;
      latest = record {
        earlier = let a = o.latest.earlier in omega (arith, ints);
        is_header = o.latest.is_header;
        none_between = λ i low high. by_lt_z i j
            (λ lt. o.latest.none_between i low lt)
            (λ ge. let e : j ≡ i = omega (arith, ints) in subst (λ x. heads page.mag (pk x) ≡ false) e isnt);
      };
      own = o.own;
    }),
    (λ o. by_lt_z o.slot j
        (λ lt. record {
          slot = o.slot;
          latest = record {
            earlier = lt;
            is_header = o.latest.is_header;
            none_between = λ i low high.
                o.latest.none_between i low (omega (arith, ints));
          };
          own = o.own;
        })
        (λ ge. let e : o.slot ≡ j = let a = o.latest.earlier in omega (arith, ints)
        in absurd (both_ways _ isnt (subst (λ x. heads page.mag (pk x) ≡ true) e o.latest.is_header)))),
  )

  pub mine_step : (j : ℤ) (mine : Bool) → IsMine j mine → IsMine (j +ℤ pos 1) (mine_after page (pk j) mine)
  mine_step j mine a = cond_both (heads page.mag (pk j)) _ _ (λ x. IsMine (j +ℤ pos 1) x)
      (λ e. here j e)
      (λ e. ((λ m. (later j e).0 (a.0 m)), (λ o. a.1 ((later j e).1 o))))

  pub mine_right : (tau : ℤ) (mine : Bool) → IsMine tau mine → (n : ℕ) → IsMine (tau +ℤ pos n) (mine_from page s tau mine n)
  unfolding mine_from
  mine_right tau mine a zero = let e : tau ≡ tau +ℤ pos 0 = omega (arith, ints) in subst (λ x. IsMine x mine) e a
  mine_right tau mine a (suc n) =
      let e : (tau +ℤ pos n) +ℤ pos 1 ≡ tau +ℤ pos (suc n) = omega (arith, ints) in
      subst (λ x. IsMine x (mine_from page s tau mine (suc n))) e (mine_step (tau +ℤ pos n) (mine_from page s tau mine n) (mine_right tau mine a n))

  -- from a slot on at which the owner is not known
  pub record IsNone (tau : ℤ) (n : ℕ) (mine : Bool) : Type 0 where
    pub unset : mine ≡ false
    pub none : (i : ℤ) → tau ≤ℤ i → i <ℤ (tau +ℤ pos n) → heads page.mag (pk i) ≡ false

  scanned : (tau : ℤ) (n : ℕ) → IsNone tau n (mine_from page s tau false n) ⊎ IsMine (tau +ℤ pos n) (mine_from page s tau false n)
  unfolding mine_from
  scanned tau zero = inl (record { unset = refl; none = λ i low high. absurd (omega (arith, ints)) })
  scanned tau (suc n) =
      let j = tau +ℤ pos n in
      let e1 : (tau +ℤ pos n) +ℤ pos 1 ≡ tau +ℤ pos (suc n) = omega (arith, ints) in
      elim (scanned tau n) as (λ _. IsNone tau (suc n) (mine_from page s tau false (suc n))
      ⊎ IsMine (tau +ℤ pos (suc n)) (mine_from page s tau false (suc n))) [
        | inl w ↦ cond_both (heads page.mag (pk (tau +ℤ pos n))) _ _ (λ x. IsNone tau (suc n) x ⊎ IsMine (tau +ℤ pos (suc n)) x)
            (λ e. inr (subst (λ x. IsMine x (heads_page page (pk (tau +ℤ pos n)))) e1 (here (tau +ℤ pos n) e)))
            (λ e. inl (record {
              unset = w.unset;
              none = λ i low high. by_lt_z i (tau +ℤ pos n)
                  (λ lt. w.none i low lt)
                  (λ ge. let q : tau +ℤ pos n ≡ i = omega (arith, ints) in subst (λ x. heads page.mag (pk x) ≡ false) q e);
            }))
        | inr a ↦ inr (subst (λ x. IsMine x (mine_from page s tau false (suc n))) e1 (mine_step (tau +ℤ pos n) (mine_from page s tau false n) a))
      ]

  -- a whole period later, when it is known
  pub known : (n : ℕ) → ((i : ℤ) → s (i +ℤ pos n) ≡ s i) → 1 ≤ n → (tau : ℤ) → IsMine (tau +ℤ pos n) (mine_from page s tau false n)
  known n period some tau = elim (scanned tau n) as (λ _. IsMine (tau +ℤ pos n) (mine_from page s tau false n)) [
    | inr a ↦ a
    | inl w ↦ (
      (λ m. absurd (both_ways _ w.unset m)),
      (λ o. by_lt_z o.slot tau
          (λ lt.
          let up : heads page.mag (pk (o.slot +ℤ pos n)) ≡ true = ap (λ x. heads page.mag (packet_of x)) (period o.slot) ∙ o.latest.is_header in
          absurd (both_ways _ (o.latest.none_between (o.slot +ℤ pos n) (omega (arith, ints)) (omega (arith, ints))) up))
          (λ ge. absurd (both_ways _ (w.none o.slot ge o.latest.earlier) o.latest.is_header))),
    )
  ]

  -- what a slot sends
  sent_head : (mine : Bool) (p : Packet) → IsNumbered p → (is_row 0 (row_sent page p mine) ≡ true) ↔ (heads_page page p ≡ true)
  sent_head mine (Header id control text) a = cond_both (same_id page id) _ _ (λ x. (is_row 0 x ≡ true) ↔ (same_id page id ≡ true))
      (λ e. ((λ _. e), (λ _. refl))) (λ e. ((λ h. absurd (both_ways _ refl h)), (λ h. absurd (both_ways _ e h))))
  sent_head mine (Row mag number text) a = cond_both (mine && (mag == page.mag)) _ _ (λ x. (is_row 0 x ≡ true) ↔ (false ≡ true))
      (λ e. ((λ h. absurd (let z = eqb-true number 0 h in let b = a.0 in omega arith)), (λ h. absurd (both_ways _ refl h))))
      (λ e. ((λ h. h), (λ h. h)))
  sent_head mine Empty a = ((λ h. h), (λ h. h))
  sent_head mine Unreadable a = ((λ h. h), (λ h. h))
  sent_head mine (Links mag content) a = ((λ h. h), (λ h. h))
  sent_head mine Info a = ((λ h. h), (λ h. h))
  sent_head mine Other a = ((λ h. h), (λ h. h))

  sent_row : (r : ℕ) (mine : Bool) (p : Packet) → (is_row (suc r) (row_sent page p mine) ≡ true)
      ↔ ((carries page.mag (TheRow (suc r)) p ≡ true) × (mine ≡ true))
  sent_row r mine (Header id control text) = cond_both (same_id page id) _ _ (λ x. (is_row (suc r) x ≡ true) ↔ ((false ≡ true) × (mine ≡ true)))
      (λ e. ((λ h. absurd (let z = eqb-true 0 (suc r) h in omega arith)), (λ h. absurd (both_ways _ refl h.0))))
      (λ e. ((λ h. absurd (both_ways _ refl h)), (λ h. absurd (both_ways _ refl h.0))))
  sent_row r mine (Row mag number text) = cond_both (mine && (mag == page.mag)) _ _
      (λ x. (is_row (suc r) x ≡ true) ↔ (((mag == page.mag) && (number == suc r) ≡ true) × (mine ≡ true)))
      (λ e. let b = and_parts _ _ e in ((λ h. (and_from _ _ b.1 h, b.0)), (λ h. (and_parts _ _ h.0).1)))
      (λ e. ((λ h. absurd (both_ways _ refl h)), (λ h. absurd (both_ways _ e (and_from _ _ h.1 (and_parts _ _ h.0).0)))))
  sent_row r mine Empty = ((λ h. absurd (both_ways _ refl h)), (λ h. absurd (both_ways _ refl h.0)))
  sent_row r mine Unreadable = ((λ h. absurd (both_ways _ refl h)), (λ h. absurd (both_ways _ refl h.0)))
  sent_row r mine (Links mag content) = ((λ h. absurd (both_ways _ refl h)), (λ h. absurd (both_ways _ refl h.0)))
  sent_row r mine Info = ((λ h. absurd (both_ways _ refl h)), (λ h. absurd (both_ways _ refl h.0)))
  sent_row r mine Other = ((λ h. absurd (both_ways _ refl h)), (λ h. absurd (both_ways _ refl h.0)))

  pub sent_right : (j : ℤ) (mine : Bool) → IsMine j mine → IsNumbered (pk j) → (r : ℕ) → (is_row r (row_sent page (pk j) mine) ≡ true)
      ↔ IsTransmission s page (item_of r) j
  sent_right j mine a known zero =
      let w = sent_head mine (pk j) known in (
        (λ h. record { owner = j; owned = (refl, w.0 h) }),
        (λ t. w.1 t.owned.1),
      )
  sent_right j mine a known (suc r) =
      let w = sent_row r mine (pk j) in (
        (λ h. let c = w.0 h in let o = a.0 c.1 in record { owner = o.slot; owned = (o.latest, o.own, c.0) }),
        (λ t. w.1 (t.owned.2, a.1 (record { slot = t.owner; latest = t.owned.0; own = t.owned.1 }))),
      )

-- the slots of a cycle's stream
pub slot_at : (cycle : List (List ℕ)) (start i place : ℕ) → place ≡ (start + i) % length cycle → repeated cycle (pos start +ℤ pos i)
    ≡ get_or cycle place []
slot_at cycle start i place e =
    let q : pos start +ℤ pos i ≡ pos (start + i) = omega (arith, ints) in
    ap (repeated cycle) q ∙ ap (λ n. get_or cycle n []) (sym e)

-- and those of the period before
pub slot_before : CyclesRepeat → (cycle : List (List ℕ)) → 0 < length cycle → (start i place : ℕ) → place ≡ (start + i) % length cycle →
    repeated cycle ((pos start -ℤ pos (length cycle)) +ℤ pos i) ≡ get_or cycle place []
slot_before repeat cycle some start i place e =
    let q : ((pos start -ℤ pos (length cycle)) +ℤ pos i) +ℤ pos (length cycle) ≡ pos start +ℤ pos i = omega (arith, ints) in
    sym (repeat cycle some ((pos start -ℤ pos (length cycle)) +ℤ pos i)) ∙ ap (repeated cycle) q ∙ slot_at cycle start i place e

pub mine_more : (page : Id) (s : Stream) (tau : ℤ) (mine now next : Bool) (n : ℕ) (slot : List ℕ) → now ≡ mine_from page s tau mine n →
    s (tau +ℤ pos n) ≡ slot → next ≡ mine_after page (packet_of slot) now →
    next ≡ mine_from page s tau mine (n + 1)
unfolding mine_from
mine_more page s tau mine now next n slot a b e =
    let one : suc n ≡ n + 1 = omega arith in
    e ∙ ap (λ x. mine_after page (packet_of x) now) (sym b) ∙ ap (mine_after page (packet_of (s (tau +ℤ pos n)))) a
    ∙ ap (mine_from page s tau mine) one

pub mine_begins : (page : Id) (s : Stream) (tau : ℤ) (mine : Bool) → mine ≡ mine_from page s tau mine 0
unfolding mine_from
mine_begins page s tau mine = refl

pub owned_at : CyclesRepeat → (cycle : List (List ℕ)) → 0 < length cycle → (page : Id) (start n : ℕ) (mine : Bool) → n ≡ length cycle →
    mine ≡ mine_from page (repeated cycle) (pos start -ℤ pos (length cycle)) false n →
    (mine ≡ true) ↔ HasOwner (repeated cycle) page (pos start)
owned_at repeat cycle some page start n mine whole is =
    let q : (pos start -ℤ pos (length cycle)) +ℤ pos (length cycle) ≡ pos start = omega (arith, ints) in
    let is' : mine ≡ mine_from page (repeated cycle) (pos start -ℤ pos (length cycle)) false (length cycle) = is
    ∙ ap (mine_from page (repeated cycle) (pos start -ℤ pos (length cycle)) false) whole in
    subst (λ j. (mine ≡ true) ↔ HasOwner (repeated cycle) page j) q
    (subst (λ m. (m ≡ true) ↔ HasOwner (repeated cycle) page ((pos start -ℤ pos (length cycle)) +ℤ pos (length cycle))) (sym is')
    (known (repeated cycle) page (length cycle) (repeat cycle some) (omega arith) (pos start -ℤ pos (length cycle))))
