-- Each page has a first fault, or none.
use Rattle.std.proofs.Common.{◌≡◌, ◌⊎◌, ℕ, ◌<◌, ℤ, pos, ◌+ℤ◌, ◌-ℤ◌, ◌<ℤ◌, ◌≤ℤ◌, true, false, Bool, List, [], ◌∷◌, length, slice_index_or, Option}
use Rattle.std.proofs.Common.{Some, None, refl, sym, ap, ◌∙◌, subst, inl, inr, arith, mod-eq_of_lt}
use Rattle.std.proofs.lemmas.Int.{ints}
use Rattle.ttx_header.specs.Ids.{Id}
use Rattle.ttx_page.specs.Packets.{packet_of}
use Rattle.ttx_page.specs.Pages.{Page, needed}
use Rattle.ttx_page.specs.declared.item.Item.{Item}
use Rattle.ttx_page.specs.declared.item.Item.TheVariants.{Row as TheRow, Links as TheLinks}
use Rattle.ttx_page.specs.declared.selection.Selection.TheVariants.{AnySub}
use Rattle.ttx_page.specs.Streams.{Stream, repeated, turned, heads_page, heads_matched, IsOwned, IsSure, IsTransmission}
use Rattle.ttx_page.specs.Steady.{HasHeader, HasNoHeader, OtherSubpageAt, ErasedAt, HeadDiffersAt, RowDiffersAt, LinksDifferAt, RowIsRight}
use Rattle.ttx_page.specs.Steady.{IsLikeHead, LinksAreRight, erases_page}
use Rattle.ttx_page.specs.Laws.{EachSlotTurns, StreamsMove, IsSameOn}
use Rattle.ttx_cycle.specs.Files.{IsCycle}
use Rattle.ttx_witness.specs.runs.Transmissions.{slot_of}
use Rattle.ttx_witness.specs.declared.runs.transmissions.Transmission.{Transmission}
use Rattle.ttx_witness.specs.runs.Repeating.{Lists, IsSentAt, Tells}
use Rattle.ttx_certify.specs.walks.PageFacts.{FirstBelow}
use Rattle.ttx_witness.specs.faults.Faults.{TellsFirst, IsPageFault}
use Rattle.ttx_witness.specs.laws.JudgingLaws.{TransmissionsAreListed}
use Rattle.ttx_witness.specs.sent.ItemTransmissions.{sent_in}
use Rattle.ttx_witness.specs.declared.faults.reason.Reason.{Reason}
use Rattle.ttx_witness.specs.declared.faults.reason.Reason.TheVariants.{NoHeader, OtherSubpage, Erased, HeadDiffers, RowDiffers, LinksDiffer}
use Rattle.ttx_certify.proofs.Decisions.{Decided, both, refuted, alike, same_bool, like_head, row_right, links_right, alone, least_below, any_below}
use Rattle.ttx_certify.proofs.ItemByItem.{needed_item}
use Rattle.ttx_page.proofs.SlotDistances.{cases_ltz}

-- whether a slot is in a list
pub listed : (P : ℤ → Type 0) (Is : Transmission → Type 0) → ((t : Transmission) → Is t → P t.slot) →
    (low high : ℤ) (ts : List Transmission) → Lists slot_of P Is low high ts →
    (x : ℤ) → low ≤ℤ x → x <ℤ high → Decided (P x)
listed P Is of low high [] l x from to = inr (l x from to)
listed P Is of low high (t ∷ ts) l x from to = elim (cases_ltz x t.slot) as (λ _. Decided (P x)) [
  | inl lt ↦ inr (l.3 x from lt)
  | inr ge ↦ elim (cases_ltz t.slot x) as (λ _. Decided (P x)) [
    | inl gt ↦ listed P Is of (t.slot +ℤ pos 1) high ts l.4 x (omega (arith, ints)) to
    | inr le ↦ let e : t.slot ≡ x = omega (arith, ints) in inl (subst P e (of t l.0))
  ]
]

-- the laws of streams that are used
pub record FaultLaws : Type 0 where
  pub turn : EachSlotTurns
  pub move : StreamsMove
  pub list : TransmissionsAreListed

module _ (laws : FaultLaws) (cycle : List (List ℕ)) (is : IsCycle cycle) where
  abbrev s : Stream
  s = repeated cycle

  abbrev n : ℕ
  n = length cycle

  -- the slot's place in the first period
  inside : (j : ℤ) → turned n j < n
  inside j = (laws.turn n j is.some).inside

  same_slot : (j : ℤ) → s j ≡ s (pos (turned n j))
  same_slot j = ap (λ m. slice_index_or cycle m []) (sym (mod-eq_of_lt (inside j)))

  sent_turned : (page : Id) (item : Item) (j : ℤ) → IsTransmission s page item j → IsTransmission s page item (pos (turned n j))
  sent_turned page item j t =
      let place = laws.turn n j is.some in
      let on : IsSameOn s place.by = λ i. ap (λ m. slice_index_or cycle m []) (place.same i) in
      let back = laws.move s (pos 0 -ℤ place.by) (laws.move s place.by on).back in
      let e : j +ℤ (pos 0 -ℤ place.by) ≡ pos (turned n j) = let at = place.place in omega (arith, ints) in
      record {
        owner = t.owner +ℤ (pos 0 -ℤ place.by);
        owned = subst (IsOwned s page item (t.owner +ℤ (pos 0 -ℤ place.by))) e (back.owned page item t.owner j t.owned);
      }

  pub is_sent : (page : Id) (item : Item) (j : ℕ) → j < n → Decided (IsTransmission s page item (pos j))
  is_sent page item j lt =
      let Owned = IsOwned s page item in
      let Sure = IsSure s 0 page.mag item in
      alike (λ t. record { owner = t.owner; owned = t.owned }) (λ t. record { owner = t.owner; owned = t.owned })
      (listed (IsSentAt Owned) (Tells Owned Sure) (λ t told. record { owner = t.owner; owned = told.owned }) (pos 0) (pos n)
      (sent_in cycle page 0 item)
      (laws.list cycle (let some = is.some in omega arith) is.most page 0 item).0 (pos j) (omega (arith, ints)) (omega (arith, ints)))

  -- the first slot of a period, if the stream repeats
  first_slot : (P : ℤ → Type 0) → ((j : ℤ) → P j → P (pos (turned n j))) → ((j : ℕ) → j < n → Decided (P (pos j))) → (first : Option ℕ)
      × TellsFirst cycle P first
  first_slot P fold each = let r = least_below (λ j. P (pos j)) n each in told r.0 r.1
    where
      told : (first : Option ℕ) → FirstBelow (λ j. P (pos j)) n first → (first : Option ℕ) × TellsFirst cycle P first
      told (Some j) f = (Some j, record { within = f.0; here = f.1; none_before = f.2 })
      told None none = (None, λ j p. none (turned n j) (inside j) (fold j p))

  has_header : (p : Page) → HasHeader s p.id ⊎ HasNoHeader s p
  has_header p = elim (any_below (λ j. heads_page p.id (packet_of (s (pos j))) ≡ true) n (λ j lt. same_bool _ true)) as
      (λ _. HasHeader s p.id ⊎ HasNoHeader s p) [
        | inl h ↦ inl (record { slot = pos h.0; is_header = h.2 })
        | inr none ↦ inr (λ j. elim (same_bool (heads_page p.id (packet_of (s j))) false) as (λ _. heads_page p.id (packet_of (s j)) ≡ false) [
          | inl e ↦ e
          | inr ne ↦ absurd (none (
            turned n j,
            inside j,
            let yes_ = is_true _ ne
                in ap (λ x. heads_page p.id (packet_of x)) (sym (same_slot j)) ∙ yes_,
          ))
        ])
      ]
    where
      is_true : (b : Bool) → (b ≡ false → ⊥) → b ≡ true
      is_true true h = refl
      is_true false h = absurd (h refl)

  module _ (pages : List Page) (p : Page) where
    other_subpage : (first : Option ℕ) × TellsFirst cycle (OtherSubpageAt s pages p) first
    other_subpage = first_slot (OtherSubpageAt s pages p)
        (λ j o. record {
          alone = o.alone;
          number = subst (λ x. heads_matched (AnySub p.id.mag p.id.page) (packet_of x) ≡ true) (same_slot j) o.number;
          other = subst (λ x. heads_page p.id (packet_of x) ≡ false) (same_slot j) o.other;
        })
        (λ j lt. alike (λ e. record { alone = e.0; number = e.1.0; other = e.1.1 }) (λ o. (o.alone, (o.number, o.other)))
        (both (alone pages p) (both (same_bool _ true) (same_bool _ false))))

    erased : (first : Option ℕ) × TellsFirst cycle (ErasedAt s p) first
    erased = first_slot (ErasedAt s p)
        (λ j o. record {
          header = subst (λ x. heads_page p.id (packet_of x) ≡ true) (same_slot j) o.header;
          erases = subst (λ x. erases_page (packet_of x) ≡ true) (same_slot j) o.erases;
        })
        (λ j lt. alike (λ e. record { header = e.0; erases = e.1 }) (λ o. (o.header, o.erases)) (both (same_bool _ true) (same_bool _ true)))

    head : (first : Option ℕ) × TellsFirst cycle (HeadDiffersAt s p) first
    head = first_slot (HeadDiffersAt s p)
        (λ j o. record {
          header = subst (λ x. heads_page p.id (packet_of x) ≡ true) (same_slot j) o.header;
          differs = subst (λ x. IsLikeHead p (packet_of x) → ⊥) (same_slot j) o.differs;
        })
        (λ j lt. alike (λ e. record { header = e.0; differs = e.1 }) (λ o. (o.header, o.differs)) (both (same_bool _ true) (refuted (like_head p _))))

    -- row r is needed, and the slot sends a different one
    abbrev WrongRow : ℤ → ℕ → Type 0
    WrongRow j r = (needed p (TheRow r) ≡ true) × (IsTransmission s p.id (TheRow r) j × (RowIsRight p r (packet_of (s j)) → ⊥))

    row_below : (r : ℕ) → needed p (TheRow r) ≡ true → r < 25
    row_below r need = let i = (needed_item p (TheRow r) need).1 in omega arith

    row : (first : Option ℕ) × TellsFirst cycle (RowDiffersAt s p) first
    row = first_slot (RowDiffersAt s p)
        (λ j o. record {
          row = o.row;
          needed = o.needed;
          sent = sent_turned p.id (TheRow o.row) j o.sent;
          differs = subst (λ x. RowIsRight p o.row (packet_of x) → ⊥) (same_slot j) o.differs;
        })
        (λ j lt. alike (λ e. record { row = e.0; needed = e.2.0; sent = e.2.1.0; differs = e.2.1.1 })
        (λ o. (o.row, row_below o.row o.needed, (o.needed, (o.sent, o.differs))))
        (any_below (WrongRow (pos j)) 25 (λ r below. both (same_bool _ true) (both (is_sent p.id (TheRow r) j lt) (refuted (row_right p r _))))))

    links : (first : Option ℕ) × TellsFirst cycle (LinksDifferAt s p) first
    links = first_slot (LinksDifferAt s p)
        (λ j o. record {
          sent = sent_turned p.id TheLinks j o.sent;
          differs = subst (λ x. LinksAreRight p x (packet_of x) → ⊥) (same_slot j) o.differs;
        })
        (λ j lt. alike (λ e. record { sent = e.0; differs = e.1 }) (λ o. (o.sent, o.differs))
        (both (is_sent p.id TheLinks j lt) (refuted (links_right p (s (pos j)) _))))

    abbrev SomePageFault : Type 0
    SomePageFault = (reason : Option Reason) × IsPageFault cycle pages p reason

    first_of : HasHeader s p.id → (a b c d e : Option ℕ) → TellsFirst cycle (OtherSubpageAt s pages p) a →
        TellsFirst cycle (ErasedAt s p) b → TellsFirst cycle (HeadDiffersAt s p) c →
        TellsFirst cycle (RowDiffersAt s p) d → TellsFirst cycle (LinksDifferAt s p) e → SomePageFault
    first_of h (Some x) b c d e t u v w z = (Some (OtherSubpage p.id x), (refl, h, t))
    first_of h None (Some x) c d e t u v w z = (Some (Erased p.id x), (refl, h, t, u))
    first_of h None None (Some x) d e t u v w z = (Some (HeadDiffers p.id x), (refl, h, t, u, v))
    first_of h None None None (Some x) e t u v w z = (Some (RowDiffers p.id x), (refl, h, t, u, v, w))
    first_of h None None None None (Some x) t u v w z = (Some (LinksDiffer p.id x), (refl, h, t, u, v, w, z))
    first_of h None None None None None t u v w z = (None, record { header = h; only_subpage = t; not_erased = u; head = v; rows = w; links = z })

    pub some_page_fault : SomePageFault
    some_page_fault = elim (has_header p) as (λ _. SomePageFault) [
      | inl h ↦ first_of h other_subpage.0 erased.0 head.0 row.0 links.0 other_subpage.1 erased.1 head.1 row.1 links.1
      | inr none ↦ (Some (NoHeader p.id), (refl, none))
    ]
