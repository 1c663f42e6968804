-- The next header after a slot, read round the cycle.
use Rattle.std.proofs.Common.{◌≡◌, ℕ, ◌+◌, ◌-◌, ◌%◌, ◌<◌, ◌≤◌, ℤ, pos, ◌+ℤ◌, ◌-ℤ◌, ◌<ℤ◌, ◌≤ℤ◌, nat_abs, true, false, not, ◌||◌, ◌==◌, List, [], length, get_or}
use Rattle.std.proofs.Common.{nat_lt, Option, Some, None, MatchOption, refl, sym, ap, ◌∙◌, subst, inl, inr, arith}
use Rattle.std.proofs.lemmas.Int.{ints}
use Rattle.std.proofs.lemmas.Bool.{and_from, and_parts, or_left, or_right, both_ways, cases_lt, cases_Bool, ltb-true, lt-ltb}
use Rattle.std.proofs.Math.Nat.{add-mod_right}
use Rattle.ttx_header.specs.Control.{c11}
use Rattle.ttx_page.proofs.Decisions.{eq_sym}
use Rattle.ttx_page.proofs.SlotDistances.{cases_ltz}
use Rattle.ttx_page.specs.Laws.{EachSlotTurns, IsSameOn, StreamsMove}
use Rattle.ttx_page.specs.Packets.{Packet, Empty, Unreadable, Header, Row, Links, Info, Other, packet_of}
use Rattle.ttx_page.specs.Pages.{selected_mag}
use Rattle.ttx_page.specs.declared.selection.Selection.{Selection}
use Rattle.ttx_page.specs.declared.selection.Selection.TheVariants.{AnySub}
use Rattle.ttx_page.specs.Streams.{Stream, repeated, turned, heads, heads_matched, IsLatestHeader}
use Rattle.ttx_late.specs.LateReceivers.{selected_number, heads_number}
use Rattle.ttx_late.proofs.GatheredMemories.{number_heads, matched_number}
use Rattle.ttx_subpages.specs.declared.sought.Sought.{Sought}
use Rattle.ttx_subpages.specs.declared.sought.Sought.TheVariants.{Magazine, Ending, Matched}
use Rattle.ttx_subpages.specs.Distances.{may_end, seeks, IsDistance}
use Rattle.ttx_subpages.specs.SeenInTurn.{MayEnd}
use Rattle.ttx_subpages.specs.Stays.{HeadsAt, HasNone, IsNextInMagazine, MayEndNext, IsStayAfter, StayBelow, lesser_of, StaysAfter, IsLeastStay}
use Rattle.ttx_subpages.specs.Stays.{IntervalBelow, IsGreatestInterval}

module _ (cycle : List (List ℕ)) (sought : Sought) (at : ℕ) where
  -- the slot that is so many slots after the next one
  abbrev pub slot_on : ℕ → List ℕ
  slot_on k = get_or cycle ((at + 1 + k) % length cycle) []

  abbrev pub NoneTo : ℕ → Type 0
  NoneTo step = (k : ℕ) → k < step → seeks sought (packet_of (slot_on k)) ≡ false

  pub none_more : (step : ℕ) → NoneTo step → seeks sought (packet_of (slot_on step)) ≡ false → NoneTo (step + 1)
  none_more step none here k lt = elim (cases_lt k step) as (λ _. seeks sought (packet_of (slot_on k)) ≡ false)
      [ inl less ↦ none k less | inr ge ↦ let e : step ≡ k = omega arith in subst (λ x. seeks sought (packet_of (slot_on x)) ≡ false) e here ]

  pub found : (step : ℕ) → NoneTo step → seeks sought (packet_of (slot_on step)) ≡ true → IsDistance (repeated cycle) sought at (step + 1)
  found step none here =
      let e : at + 1 + step ≡ at + (step + 1) = omega arith in
      record {
        some = omega arith;
        here = subst (λ i. seeks sought (packet_of (repeated cycle (pos i))) ≡ true) e here;
        none = λ i low high.
            let k = i - (at + 1) in
            let is : at + 1 + k ≡ i = omega arith in
            subst (λ x. seeks sought (packet_of (repeated cycle (pos x))) ≡ false) is (none k (omega arith));
      }

  -- the header itself comes again
  pub never : 0 < length cycle → seeks sought (packet_of (repeated cycle (pos at))) ≡ true → NoneTo (length cycle) → ⊥
  never some mine none =
      let last = length cycle - 1 in
      let e : at + 1 + last ≡ at + length cycle = omega arith in
      let back : (at + 1 + last) % length cycle ≡ at % length cycle = ap (λ x. x % length cycle) e ∙ add-mod_right at (length cycle) in
      both_ways _ (subst (λ x. seeks sought (packet_of (get_or cycle x [])) ≡ false) back (none last (omega arith))) mine

-- headers of the number that a selection listens to
pub matched_of_number : (sel : Selection) (pkt : Packet) → heads_number sel pkt ≡ true → heads_matched (AnySub (selected_mag sel) (selected_number sel)) pkt ≡ true
matched_of_number sel (Header id control text) h =
    and_from _ _ (eq_sym id.mag (selected_mag sel) ((and_parts _ _ h).0))
    (eq_sym id.page (selected_number sel) ((and_parts (id.mag == selected_mag sel) _ h).1))
matched_of_number sel (Row m n text) h = absurd (both_ways false refl h)
matched_of_number sel (Links m content) h = absurd (both_ways false refl h)
matched_of_number sel Empty h = absurd (both_ways false refl h)
matched_of_number sel Unreadable h = absurd (both_ways false refl h)
matched_of_number sel Info h = absurd (both_ways false refl h)
matched_of_number sel Other h = absurd (both_ways false refl h)

number_of_matched : (sel : Selection) (pkt : Packet) → heads_matched (AnySub (selected_mag sel) (selected_number sel)) pkt ≡ true → heads_number sel pkt ≡ true
number_of_matched sel pkt h = matched_number (AnySub (selected_mag sel) (selected_number sel)) pkt h

-- headers that may end a page
ends_sought : (mag : ℕ) (pkt : Packet) → MayEnd mag pkt → may_end mag pkt ≡ true
ends_sought mag (Header id control text) e = elim e as (λ _. may_end mag (Header id control text) ≡ true) [
  | inl own ↦ or_left (id.mag == mag) (c11 control) own
  | inr other ↦ or_right (id.mag == mag) (c11 control) ((and_parts _ _ other).1)
]
ends_sought mag (Row m n text) e = elim e as (λ _. may_end mag (Row m n text) ≡ true) [ inl h ↦ h | inr h ↦ h ]
ends_sought mag (Links m content) e = elim e as (λ _. may_end mag (Links m content) ≡ true) [ inl h ↦ h | inr h ↦ h ]
ends_sought mag Empty e = elim e as (λ _. may_end mag Empty ≡ true) [ inl h ↦ h | inr h ↦ h ]
ends_sought mag Unreadable e = elim e as (λ _. may_end mag Unreadable ≡ true) [ inl h ↦ h | inr h ↦ h ]
ends_sought mag Info e = elim e as (λ _. may_end mag Info ≡ true) [ inl h ↦ h | inr h ↦ h ]
ends_sought mag Other e = elim e as (λ _. may_end mag Other ≡ true) [ inl h ↦ h | inr h ↦ h ]

sought_ends : (mag : ℕ) (pkt : Packet) → may_end mag pkt ≡ true → MayEnd mag pkt
sought_ends mag (Header id control text) e = elim (cases_Bool (id.mag == mag)) as (λ _. MayEnd mag (Header id control text)) [
  | inl own ↦ inl own
  | inr other ↦ inr (and_from (not (id.mag == mag)) (c11 control) (ap not other) (subst (λ b. (b || c11 control) ≡ true) other e))
]
sought_ends mag (Row m n text) e = inl e
sought_ends mag (Links m content) e = inl e
sought_ends mag Empty e = inl e
sought_ends mag Unreadable e = inl e
sought_ends mag Info e = inl e
sought_ends mag Other e = inl e

-- between a slot and the next header that is looked for there is none
between : (s : Stream) (sought : Sought) (at d : ℕ) → IsDistance s sought at d → (j : ℤ) → pos at <ℤ j → j <ℤ pos (at + d) →
    seeks sought (packet_of (s j)) ≡ false
between s sought at d is j low high =
    let i = nat_abs j in
    let e : pos i ≡ j = omega (arith, ints) in
    subst (λ z. seeks sought (packet_of (s z)) ≡ false) e (is.none i (omega (arith, ints)) (omega (arith, ints)))

module _ (s : Stream) (sel : Selection) (at : ℕ) where
  abbrev Number : Selection
  Number = AnySub (selected_mag sel) (selected_number sel)

  module _ (header : HeadsAt s sel (pos at)) (e m z : ℕ) (end : IsDistance s (Magazine (selected_mag sel)) at e)
      (next : IsDistance s (Matched Number) at m) (close : IsDistance s (Ending (selected_mag sel)) (at + m) z) where
    pub not_after : e ≤ m
    not_after = elim (cases_lt m e) as (λ _. e ≤ m) [
      | inr ge ↦ omega arith
      | inl lt ↦
          let some = next.some in
          absurd (both_ways _ (end.none (at + m) (omega arith) (omega arith))
          (number_heads sel (packet_of (s (pos (at + m)))) (number_of_matched sel (packet_of (s (pos (at + m)))) next.here)))
    ]

    one_end : (k : ℤ) → IsNextInMagazine s (selected_mag sel) (pos at) k → k ≡ pos (at + e)
    one_end k n =
        let after = n.0.earlier in
        let some = end.some in
        elim (cases_ltz k (pos (at + e))) as (λ _. k ≡ pos (at + e)) [
          | inl lt ↦ absurd (both_ways _ (between s (Magazine (selected_mag sel)) at e end k after lt) n.1)
          | inr ge ↦ elim (cases_ltz (pos (at + e)) k) as (λ _. k ≡ pos (at + e)) [
            | inl lt ↦ let low : pos at <ℤ pos (at + e) = omega (arith, ints) in absurd (both_ways _ (n.0.none_between (pos (at + e)) low lt) end.here)
            | inr le ↦ omega (arith, ints)
          ]
        ]

    -- no later block of the number ends before the next one may
    not_sooner : (y : ℤ) → MayEndNext s sel (pos at) y → pos (at + m + z) ≤ℤ y
    not_sooner y may =
        let after = may.after in
        elim (cases_ltz may.begin (pos (at + m))) as (λ _. pos (at + m + z) ≤ℤ y) [
          | inl lt ↦ absurd (both_ways _ (between s (Matched Number) at m next may.begin may.later lt)
              (matched_of_number sel (packet_of (s may.begin)) may.is_number))
          | inr ge ↦ elim (cases_ltz y (pos (at + m + z))) as (λ _. pos (at + m + z) ≤ℤ y) [
            | inl lt ↦ absurd (both_ways _ (between s (Ending (selected_mag sel)) (at + m) z close y (omega (arith, ints)) lt)
                (ends_sought (selected_mag sel) (packet_of (s y)) may.ends))
            | inr le ↦ omega (arith, ints)
          ]
        ]

    pub stay_is : (n : ℕ) → n ≡ m + z - e → IsStayAfter s sel (pos at) n
    stay_is n is =
        let le = not_after in
        let first = end.some in
        let second = next.some in
        let third = close.some in
        record {
          each = λ k y ends may. let same = one_end k ends in let far = not_sooner y may in omega (arith, ints);
          end = pos (at + e);
          ends = (
            record {
              earlier = omega (arith, ints);
              is_header = number_heads sel (packet_of (s (pos at))) (matched_number sel (packet_of (s (pos at))) header);
              none_between = λ i low high. between s (Magazine (selected_mag sel)) at e end i low high;
            },
            end.here,
          );
          next = pos (at + m + z);
          ends_next = record {
            begin = pos (at + m);
            later = omega (arith, ints);
            is_number = number_of_matched sel (packet_of (s (pos (at + m)))) next.here;
            after = omega (arith, ints);
            ends = sought_ends (selected_mag sel) (packet_of (s (pos (at + m + z)))) close.here;
          };
          apart = omega (arith, ints);
        }

  -- one more slot, which is no such header
  pub stay_skips : (least : Option ℕ) → heads_matched sel (packet_of (s (pos at))) ≡ false → StayBelow s sel at least → StayBelow s sel (at + 1) least
  stay_skips None off below = λ i lt. elim (cases_lt i at) as (λ _. heads_matched sel (packet_of (s (pos i))) ≡ false) [
    | inl less ↦ below i less
    | inr ge ↦ let e : at ≡ i = omega arith in subst (λ x. heads_matched sel (packet_of (s (pos x))) ≡ false) e off
  ]
  stay_skips (Some n) off below = record {
    each = λ i lt head. elim (cases_lt i at) as (λ _. StaysAfter s sel (pos i) n) [
      | inl less ↦ below.each i less head
      | inr ge ↦
          let e : i ≡ at = omega arith in
          absurd (both_ways _ off (subst (λ x. heads_matched sel (packet_of (s (pos x))) ≡ true) e head))
    ];
    slot = below.slot;
    before = let lt = below.before in omega arith;
    header = below.header;
    stay = below.stay;
  }

  shorter : (h : ℤ) (n m : ℕ) → m ≤ n → StaysAfter s sel h n → StaysAfter s sel h m
  shorter h n m le stays end z ends may = let a = stays end z ends may in omega (arith, ints)

  not_less : (m n : ℕ) → nat_lt m n ≡ false → n ≤ m
  not_less m n e = elim (cases_lt m n) as (λ _. n ≤ m) [ inl lt ↦ absurd (both_ways _ e (lt-ltb m n lt)) | inr ge ↦ omega arith ]

  -- one more header
  pub stay_more : (least : Option ℕ) (n : ℕ) → HeadsAt s sel (pos at) → IsStayAfter s sel (pos at) n → StayBelow s sel at least →
      StayBelow s sel (at + 1) (Some (lesser_of least n))
  stay_more None n head stay below = record {
    each = λ i lt headi. elim (cases_lt i at) as (λ _. StaysAfter s sel (pos i) n) [
      | inl less ↦ absurd (both_ways _ (below i less) headi)
      | inr ge ↦ let e : at ≡ i = omega arith in subst (λ x. StaysAfter s sel (pos x) n) e stay.each
    ];
    slot = at;
    before = omega arith;
    header = head;
    stay = stay;
  }
  stay_more (Some m) n head stay below = elim (cases_Bool (nat_lt m n)) as (λ _. StayBelow s sel (at + 1) (Some (lesser_of (Some m) n))) [
    | inl less ↦
        let lt = ltb-true m n less in
        let e : m ≡ lesser_of (Some m) n = rw less refl in
        subst (λ x. StayBelow s sel (at + 1) (Some x)) e (record {
          each = λ i l headi. elim (cases_lt i at) as (λ _. StaysAfter s sel (pos i) m) [
            | inl less ↦ below.each i less headi
            | inr ge ↦ let e : at ≡ i = omega arith in subst (λ x. StaysAfter s sel (pos x) m) e (shorter (pos at) n m (omega arith) stay.each)
          ];
          slot = below.slot;
          before = let b = below.before in omega arith;
          header = below.header;
          stay = below.stay;
        })
    | inr more ↦
        let le = not_less m n more in
        let e : n ≡ lesser_of (Some m) n = rw more refl in
        subst (λ x. StayBelow s sel (at + 1) (Some x)) e (record {
          each = λ i l headi. elim (cases_lt i at) as (λ _. StaysAfter s sel (pos i) n) [
            | inl less ↦ shorter (pos i) m n (omega arith) (below.each i less headi)
            | inr ge ↦ let e : at ≡ i = omega arith in subst (λ x. StaysAfter s sel (pos x) n) e stay.each
          ];
          slot = at;
          before = omega arith;
          header = head;
          stay = stay;
        })
  ]

  abbrev Again : ℕ → ℕ → Type 0
  Again i most = (j : ℤ) × (pos i <ℤ j) × (j ≤ℤ (pos i +ℤ pos most)) × HeadsAt s sel j

  pub interval_skips : (most : ℕ) → heads_matched sel (packet_of (s (pos at))) ≡ false → IntervalBelow s sel at most → IntervalBelow s sel (at + 1) most
  interval_skips most off below = record {
    within = λ i lt head. elim (cases_lt i at) as (λ _. Again i most) [
      | inl less ↦ below.within i less head
      | inr ge ↦
          let e : i ≡ at = omega arith in
          absurd (both_ways _ off (subst (λ x. heads_matched sel (packet_of (s (pos x))) ≡ true) e head))
    ];
    needed = below.needed;
  }

  pub interval_kept : (most d : ℕ) → IsDistance s (Matched sel) at d → d < most → IntervalBelow s sel at most → IntervalBelow s sel (at + 1) most
  interval_kept most d is lt below = record {
    within = λ i l head. elim (cases_lt i at) as (λ _. Again i most) [
      | inl less ↦ below.within i less head
      | inr ge ↦
          let some = is.some in
          let e : at ≡ i = omega arith in
          subst (λ x. Again x most) e (pos (at + d), omega (arith, ints), omega (arith, ints), is.here)
    ];
    needed = below.needed;
  }

  pub interval_more : (most d : ℕ) → HeadsAt s sel (pos at) → IsDistance s (Matched sel) at d → most ≤ d → IntervalBelow s sel at most →
      IntervalBelow s sel (at + 1) d
  interval_more most d header is le below = record {
    within = λ i l head. elim (cases_lt i at) as (λ _. Again i d) [
      | inl less ↦ let a = below.within i less head in let near = a.2 in (a.0, a.1, omega (arith, ints), a.3)
      | inr ge ↦
          let some = is.some in
          let e : at ≡ i = omega arith in
          subst (λ x. Again x d) e (pos (at + d), omega (arith, ints), omega (arith, ints), is.here)
    ];
    needed = inr (at, header, λ j low high. between s (Matched sel) at d is j low (omega (arith, ints)));
  }

-- the slots of one period decide
module _ (turn : EachSlotTurns) (cycle : List (List ℕ)) (some : 0 < length cycle) (sel : Selection) where
  abbrev s : Stream
  s = repeated cycle

  -- the slot of the period at which h stands, and how far on
  pub record Place (h : ℤ) : Type 0 where
    pub index : ℕ
    pub inside : index < length cycle
    pub by : ℤ
    pub place : h ≡ pos index +ℤ by
    pub same : IsSameOn s by

  place_of : (h : ℤ) → Place h
  place_of h =
      let t = turn (length cycle) h some in
      record { index = turned (length cycle) h; inside = t.inside; by = t.by; place = t.place; same = λ j. ap (λ k. get_or cycle k []) (t.same j) }

  slot_is : (h : ℤ) (p : Place h) → s h ≡ s (pos p.index)
  slot_is h p = ap s p.place ∙ p.same (pos p.index)

  ends_back : (h by g : ℤ) → h ≡ g +ℤ by → IsSameOn s (pos 0 -ℤ by) → (z : ℤ) → MayEndNext s sel h z → MayEndNext s sel g (z +ℤ (pos 0 -ℤ by))
  ends_back h by g place back z may =
      let later = may.later in
      let after = may.after in
      record {
        begin = may.begin +ℤ (pos 0 -ℤ by);
        later = omega (arith, ints);
        is_number = subst (λ x. heads_number sel (packet_of x) ≡ true) (sym (back may.begin)) may.is_number;
        after = omega (arith, ints);
        ends = subst (λ x. MayEnd (selected_mag sel) (packet_of x)) (sym (back z)) may.ends;
      }

  stay_back : StreamsMove → (h : ℤ) (p : Place h) (n : ℕ) → StaysAfter s sel (pos p.index) n → StaysAfter s sel h n
  stay_back move h p n stays end z ends may =
      let d = pos 0 -ℤ p.by in
      let back = (move s p.by p.same).back in
      let m = move s d back in
      let place = p.place in
      let e : h +ℤ d ≡ pos p.index = omega (arith, ints) in
      let a = stays (end +ℤ d) (z +ℤ d) (
        subst (λ i. IsLatestHeader s (selected_mag sel) i (end +ℤ d)) e (m.latest (selected_mag sel) h end ends.0),
        subst (λ x. heads (selected_mag sel) (packet_of x) ≡ true) (sym (back end)) ends.1,
      )
      (ends_back h p.by (pos p.index) place back z may) in
      omega (arith, ints)

  pub stay_of_cycle : StreamsMove → (n : ℕ) → length cycle ≤ n → (least : Option ℕ) → StayBelow s sel n least →
      MatchOption least (HasNone s sel) (IsLeastStay s sel)
  stay_of_cycle move n enough None below = λ h.
      let p = place_of h in
      let inside = p.inside in
      subst (λ x. heads_matched sel (packet_of x) ≡ false) (sym (slot_is h p)) (below p.index (omega arith))
  stay_of_cycle move n enough (Some k) below = record {
    each = λ h head.
        let p = place_of h in
        let inside = p.inside in
        stay_back move h p k (below.each p.index (omega arith) (subst (λ x. heads_matched sel (packet_of x) ≡ true) (slot_is h p) head));
    most = λ m stays.
        let a = below.stay in
        let apart = a.apart in
        let b = stays (pos below.slot) below.header a.end a.next a.ends a.ends_next in
        omega (arith, ints);
  }

  pub interval_of_cycle : (n : ℕ) → length cycle ≤ n → (most : ℕ) → IntervalBelow s sel n most → IsGreatestInterval s sel most
  interval_of_cycle n enough most below = record {
    within = λ h head.
        let p = place_of h in
        let inside = p.inside in
        let place = p.place in
        let a = below.within p.index (omega arith) (subst (λ x. heads_matched sel (packet_of x) ≡ true) (slot_is h p) head) in
        let low = a.1 in
        let high = a.2 in (
          a.0 +ℤ p.by,
          omega (arith, ints),
          omega (arith, ints),
          subst (λ x. heads_matched sel (packet_of x) ≡ true) (sym (p.same a.0)) a.3,
        );
    least = λ m within. elim below.needed as (λ _. most ≤ m) [
      | inl e ↦ omega arith
      | inr r ↦
          let a = within (pos r.0) r.1 in
          let high = a.2 in
          elim (cases_ltz a.0 (pos r.0 +ℤ pos most)) as (λ _. most ≤ m) [
            | inl lt ↦ absurd (both_ways _ (r.2 a.0 a.1 lt) a.3)
            | inr ge ↦ omega (arith, ints)
          ]
    ];
  }
