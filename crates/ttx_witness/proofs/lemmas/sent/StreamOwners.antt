-- Owners kept slot by slot are those of the stream.
use Rattle.std.proofs.Common.{◌≡◌, ◌⊎◌, ◌↔◌, ℕ, zero, suc, ◌≤◌, ℤ, pos, ◌+ℤ◌, ◌-ℤ◌, ◌<ℤ◌, ◌≤ℤ◌, Bool, true, false, not, ◌&&◌, ◌||◌, int_lt, List, []}
use Rattle.std.proofs.Common.{◌∷◌, ◌++◌, Option, Some, None, refl, sym, ap, ◌∙◌, subst, inl, inr, arith}
use Rattle.std.proofs.lemmas.Bool.{cases_Bool, and_from, and_parts, cond_both, both_ways, or_from, not-true, not_from_false}
use Rattle.std.proofs.lemmas.Int.{ints}
use Rattle.std.proofs.lemmas.List.{append-nil}
use Rattle.ttx_page.proofs.SlotDistances.{cases_ltz}
use Rattle.ttx_header.specs.Ids.{Id}
use Rattle.ttx_page.specs.Packets.{packet_of}
use Rattle.ttx_page.specs.declared.item.Item.{Item}
use Rattle.ttx_page.specs.declared.item.Item.TheVariants.{Head as TheHead, Row as TheRow, Links as TheLinks}
use Rattle.ttx_page.specs.Streams.{Stream, heads, heads_page, ends_serial, carries, IsLatestHeader, IsOwned, IsSure}
use Rattle.ttx_witness.specs.runs.Transmissions.{Transmission, slot_of}
use Rattle.ttx_witness.specs.sent.ItemTransmissions.{PageOwner, tainted_by, owner_after, owner_scan, owner_moved, sent_under, sent_at, sent_scan}
use Rattle.ttx_witness.specs.runs.Repeating.{AreSent, Tells, IsSentAt}
use Rattle.ttx_witness.proofs.AllBetween.{lists_more, lists_same}
use Rattle.ttx_witness.proofs.StreamRuns.{told_sent}
use Rattle.ttx_witness.proofs.lemmas.sent.Periods.{latest_same, latest_moved}
use Rattle.ttx_witness.proofs.lemmas.runs.EveryPeriod.{everywhere}

int_lt_is : (a b : ℤ) → (int_lt a b ≡ true) ↔ (a <ℤ b)
int_lt_is a b = (
  (λ e. omega (arith, ints)),
  (λ lt. elim (cases_Bool (int_lt a b)) as (λ _. int_lt a b ≡ true) [ inl e ↦ e | inr e ↦ absurd (omega (arith, ints)) ]),
)

-- two owners have the same slot
abbrev pub SameSlot : Option PageOwner → Option PageOwner → Type 0
SameSlot None None = Unit {0}
SameSlot (Some o) (Some p) = o.slot ≡ p.slot
SameSlot None (Some p) = ⊥
SameSlot (Some o) None = ⊥

pub same_refl : (o : Option PageOwner) → SameSlot o o
same_refl None = tt
same_refl (Some o) = refl

pub same_tainted : (b : Bool) (entry o : Option PageOwner) → SameSlot entry o → SameSlot entry (tainted_by b o)
same_tainted b None None h = h
same_tainted b (Some o) (Some p) h = h
same_tainted b None (Some p) h = h
same_tainted b (Some o) None h = h

module _ (page : Id) (s : Stream) where
  -- nothing ends the page between two slots
  abbrev pub Untainted : ℤ → ℤ → Type 0
  Untainted h j = (i : ℤ) → h <ℤ i → i <ℤ j → ends_serial page.mag (packet_of (s i)) ≡ false

  -- o is the owner at slot j
  pub record IsOwner (o : PageOwner) (j : ℤ) : Type 0 where
    pub latest : IsLatestHeader s page.mag o.slot j
    pub mine : o.mine ≡ heads_page page (packet_of (s o.slot))
    pub untainted : (o.tainted ≡ false) ↔ Untainted o.slot j

  abbrev pub IsOwnerAt : Option PageOwner → ℤ → Type 0
  IsOwnerAt None j = (i : ℤ) → i <ℤ j → heads page.mag (packet_of (s i)) ≡ false
  IsOwnerAt (Some o) j = IsOwner o j

  -- a slot that is not a header
  pub owner_other : (o : Option PageOwner) (j : ℤ) → heads page.mag (packet_of (s j)) ≡ false → IsOwnerAt o j →
      IsOwnerAt (tainted_by (ends_serial page.mag (packet_of (s j))) o) (j +ℤ pos 1)
  owner_other None j none a = λ i lt. elim (cases_ltz i j) as (λ _. heads page.mag (packet_of (s i)) ≡ false)
      [ inl low ↦ a i low | inr ge ↦ let e : j ≡ i = omega (arith, ints) in subst (λ x. heads page.mag (packet_of (s x)) ≡ false) e none ]
  owner_other (Some o) j none a = record {
    latest = record {
      earlier = let e = a.latest.earlier in omega (arith, ints);
      is_header = a.latest.is_header;
      none_between = λ i low high. elim (cases_ltz i j) as (λ _. heads page.mag (packet_of (s i)) ≡ false) [
        | inl lt ↦ a.latest.none_between i low lt
        | inr ge ↦ let e : j ≡ i = omega (arith, ints)
            in subst (λ x. heads page.mag (packet_of (s x)) ≡ false) e none
      ];
    };
    mine = a.mine;
    untainted = (
      (λ e i low high. elim (cases_ltz i j) as (λ _. ends_serial page.mag (packet_of (s i)) ≡ false) [
        | inl lt ↦ a.untainted.0 (or_left _ _ e) i low lt
        | inr ge ↦ let q : j ≡ i = omega (arith, ints) in subst (λ x. ends_serial page.mag (packet_of (s x)) ≡ false) q (or_right _ _ e)
      ]),
      (λ u. or_from _ _ (a.untainted.1 (λ i low high. u i low (omega (arith, ints)))) (u j a.latest.earlier (omega (arith, ints)))),
    );
  }
    where
      or_left : (a b : Bool) → (a || b) ≡ false → a ≡ false
      or_left true b h = h
      or_left false b h = refl

      or_right : (a b : Bool) → (a || b) ≡ false → b ≡ false
      or_right true b h = cc
      or_right false b h = h

  -- a header
  pub owner_new : (j : ℤ) → heads page.mag (packet_of (s j)) ≡ true →
      IsOwner (record { slot = j; mine = heads_page page (packet_of (s j)); tainted = false }) (j +ℤ pos 1)
  owner_new j here = record {
    latest = record { earlier = omega (arith, ints); is_header = here; none_between = λ i low high. absurd (omega (arith, ints)) };
    mine = refl;
    untainted = ((λ e i low high. absurd (omega (arith, ints))), (λ u. refl));
  }

  pub owner_step : (o : Option PageOwner) (j : ℤ) → IsOwnerAt o j → IsOwnerAt (owner_after page j (packet_of (s j)) o) (j +ℤ pos 1)
  owner_step o j a = cond_both (heads page.mag (packet_of (s j))) _ _ (λ x. IsOwnerAt x (j +ℤ pos 1)) (λ e. owner_new j e) (λ e. owner_other o j e a)

  -- a scan from any entry: a header has come and the owner is right, or none has come and the slot is that of the entry
  pub record IsNone (entry o : Option PageOwner) (j : ℕ) : Type 0 where
    pub none : (i : ℤ) → pos 0 ≤ℤ i → i <ℤ pos j → heads page.mag (packet_of (s i)) ≡ false
    pub same : SameSlot entry o

  pub record IsSome (o : Option PageOwner) (j : ℕ) : Type 0 where
    pub owner : PageOwner
    pub is : o ≡ Some owner
    pub right : IsOwner owner (pos j)

  pub scanned : (entry : Option PageOwner) (j : ℕ) → IsNone entry (owner_scan page s entry j) j ⊎ IsSome (owner_scan page s entry j) j
  unfolding owner_scan
  scanned entry zero = inl (record { none = λ i a b. absurd (omega (arith, ints)); same = same_refl entry })
  scanned entry (suc j) =
      let e1 : pos j +ℤ pos 1 ≡ pos (suc j) = omega (arith, ints) in
      cond_both (heads page.mag (packet_of (s (pos j)))) _ _ (λ x. IsNone entry x (suc j) ⊎ IsSome x (suc j))
      (λ e. inr (record {
        owner = record { slot = pos j; mine = heads_page page (packet_of (s (pos j))); tainted = false };
        is = refl;
        right = subst (IsOwner _) e1 (owner_new (pos j) e);
      }))
      (λ e. elim (scanned entry j) as
      (λ _. IsNone entry (tainted_by (ends_serial page.mag (packet_of (s (pos j)))) (owner_scan page s entry j)) (suc j)
      ⊎ IsSome (tainted_by (ends_serial page.mag (packet_of (s (pos j)))) (owner_scan page s entry j)) (suc j)) [
        | inl n ↦ inl (record {
          none = λ i a b. elim (cases_ltz i (pos j)) as (λ _. heads page.mag (packet_of (s i)) ≡ false) [
            | inl lt ↦ n.none i a lt
            | inr ge ↦ let q : pos j ≡ i = omega (arith, ints)
                in subst (λ x. heads page.mag (packet_of (s x)) ≡ false) q e
          ];
          same = same_tainted _ entry (owner_scan page s entry j) n.same;
        })
        | inr w ↦ inr (record {
          owner = record { slot = w.owner.slot; mine = w.owner.mine; tainted = w.owner.tainted || ends_serial page.mag (packet_of (s (pos j))) };
          is = ap (tainted_by (ends_serial page.mag (packet_of (s (pos j))))) w.is;
          right = subst (IsOwner _) e1 (owner_other (Some w.owner) (pos j) e w.right);
        })
      ])

  -- from a right entry each owner is right
  pub scan_right : (entry : Option PageOwner) → IsOwnerAt entry (pos 0) → (j : ℕ) → IsOwnerAt (owner_scan page s entry j) (pos j)
  unfolding owner_scan
  scan_right entry a zero = a
  scan_right entry a (suc j) = let e1 : pos j +ℤ pos 1 ≡ pos (suc j) = omega (arith, ints)
      in subst (IsOwnerAt (owner_scan page s entry (suc j))) e1
      (owner_step (owner_scan page s entry j) (pos j) (scan_right entry a j))

  module _ (n : ℕ) (some : 1 ≤ n) (period : (i : ℤ) → s (i +ℤ pos n) ≡ s i) where
    abbrev pub minus : ℤ
    minus = pos 0 -ℤ pos n

    period_back : (i : ℤ) → s (i +ℤ minus) ≡ s i
    period_back i = let e : (i +ℤ minus) +ℤ pos n ≡ i = omega (arith, ints) in sym (period (i +ℤ minus)) ∙ ap s e

    owner_back : (o : PageOwner) → IsOwner o (pos n) → IsOwner (record { slot = o.slot +ℤ minus; mine = o.mine; tainted = o.tainted }) (pos 0)
    owner_back o a =
        let e0 : pos n +ℤ minus ≡ pos 0 = omega (arith, ints) in
        record {
          latest = subst (IsLatestHeader s page.mag (o.slot +ℤ minus)) e0 (latest_moved s minus period_back page.mag o.slot (pos n) a.latest);
          mine = a.mine ∙ ap (λ x. heads_page page (packet_of x)) (sym (period_back o.slot));
          untainted = (
            (λ e i low high. ap (λ x. ends_serial page.mag (packet_of x)) (sym (period i))
                ∙ a.untainted.0 e (i +ℤ pos n) (omega (arith, ints)) (omega (arith, ints))),
            (λ u. a.untainted.1 (λ i low high. ap (λ x. ends_serial page.mag (packet_of x)) (sym (period_back i))
                ∙ u (i +ℤ minus) (omega (arith, ints)) (omega (arith, ints)))),
          );
        }

    none_anywhere : ((i : ℤ) → pos 0 ≤ℤ i → i <ℤ pos n → heads page.mag (packet_of (s i)) ≡ false) → (i : ℤ) →
        heads page.mag (packet_of (s i)) ≡ false
    none_anywhere none = everywhere n some (λ i. heads page.mag (packet_of (s i)) ≡ false) none
        (λ i h. ap (λ x. heads page.mag (packet_of x)) (period i) ∙ h)
        (λ i h. let e : i +ℤ minus ≡ i -ℤ pos n = omega (arith, ints) in ap (λ x. heads page.mag (packet_of (s x))) (sym e)
        ∙ ap (λ x. heads page.mag (packet_of x)) (period_back i) ∙ h)

    -- the owner at slot 0 is that of a scan from no owner, one period earlier
    pub first_entry : IsOwnerAt (owner_moved minus (owner_scan page s None n)) (pos 0)
    first_entry = elim (scanned None n) as (λ _. IsOwnerAt (owner_moved minus (owner_scan page s None n)) (pos 0)) [
      | inl w ↦ from_none (owner_scan page s None n) w
      | inr w ↦ subst (λ x. IsOwnerAt (owner_moved minus x) (pos 0)) (sym w.is) (owner_back w.owner w.right)
    ]
      where
        from_none : (o : Option PageOwner) → IsNone None o n → IsOwnerAt (owner_moved minus o) (pos 0)
        from_none None w = λ i lt. none_anywhere w.none i
        from_none (Some b) w = absurd w.same

  -- a sure transmission under an owner
  sure_under : (lines : ℕ) (o : PageOwner) (j : ℤ) → IsOwner o j → (int_lt (o.slot +ℤ pos lines) j && not o.tainted ≡ true)
      ↔ (((o.slot +ℤ pos lines) <ℤ j) × Untainted o.slot j)
  sure_under lines o j a = (
    (λ e. ((int_lt_is _ _).0 ((and_parts _ _ e).0), a.untainted.0 (not-true _ ((and_parts _ _ e).1)))),
    (λ b. and_from _ _ ((int_lt_is _ _).1 b.0) (not_from_false _ (a.untainted.1 b.1))),
  )

  module _ (lines : ℕ) (item : Item) where
    -- one slot holds no transmission, or the one in the list
    pub Says : ℤ → List Transmission → Type 0
    Says j [] = IsSentAt (IsOwned s page item) j → ⊥
    Says j (t ∷ []) = (t.slot ≡ j) × Tells (IsOwned s page item) (IsSure s lines page.mag item) t
    Says j (t ∷ u ∷ ts) = ⊥

    pub appended : (j : ℤ) (ts us : List Transmission) → pos 0 ≤ℤ j → Says j us →
        AreSent (IsOwned s page item) (IsSure s lines page.mag item) (pos 0) j ts →
        AreSent (IsOwned s page item) (IsSure s lines page.mag item) (pos 0) (j +ℤ pos 1) (ts ++ us)
    unfolding Says
    appended j ts [] low a l =
        subst (λ z. AreSent (IsOwned s page item) (IsSure s lines page.mag item) (pos 0) (j +ℤ pos 1) z) (sym (append-nil ts))
        (lists_same slot_of (IsSentAt (IsOwned s page item)) (Tells (IsOwned s page item) (IsSure s lines page.mag item))
        (told_sent (IsOwned s page item) (IsSure s lines page.mag item)) (pos 0) j ts low a l)
    appended j ts (t ∷ []) low a l = lists_more slot_of (IsSentAt (IsOwned s page item))
        (Tells (IsOwned s page item) (IsSure s lines page.mag item))
        (told_sent (IsOwned s page item) (IsSure s lines page.mag item)) (pos 0) j ts t low a.0 a.1 l
    appended j ts (t ∷ u ∷ us) low a l = absurd a

  module _ (lines r : ℕ) where
    under_row : (o : Option PageOwner) (j : ℤ) → carries page.mag (TheRow r) (packet_of (s j)) ≡ true → IsOwnerAt o j →
        Says lines (TheRow r) j (sent_under lines j o)
    unfolding Says
    under_row None j c a = λ t. let l = t.owned.0 in both_ways _ (a t.owner l.earlier) l.is_header
    under_row (Some o) j c a = cond_both o.mine
        (record { slot = j; owner = o.slot; sure = int_lt (o.slot +ℤ pos lines) j && not o.tainted } ∷ []) []
        (Says lines (TheRow r) j)
        (λ e. (refl, record { owned = (a.latest, sym a.mine ∙ e, c); sure = sure_under lines o j a }))
        (λ e t. both_ways _ (sym a.mine ∙ e)
        (subst (λ h. heads_page page (packet_of (s h)) ≡ true)
        (latest_same s page.mag t.owner o.slot j t.owned.0 a.latest) t.owned.1))

  module _ (lines : ℕ) where
    under_links : (o : Option PageOwner) (j : ℤ) → carries page.mag TheLinks (packet_of (s j)) ≡ true → IsOwnerAt o j →
        Says lines TheLinks j (sent_under lines j o)
    unfolding Says
    under_links None j c a = λ t. let l = t.owned.0 in both_ways _ (a t.owner l.earlier) l.is_header
    under_links (Some o) j c a = cond_both o.mine
        (record { slot = j; owner = o.slot; sure = int_lt (o.slot +ℤ pos lines) j && not o.tainted } ∷ []) []
        (Says lines TheLinks j)
        (λ e. (refl, record { owned = (a.latest, sym a.mine ∙ e, c); sure = sure_under lines o j a }))
        (λ e t. both_ways _ (sym a.mine ∙ e)
        (subst (λ h. heads_page page (packet_of (s h)) ≡ true)
        (latest_same s page.mag t.owner o.slot j t.owned.0 a.latest) t.owned.1))

    pub says : (item : Item) (o : Option PageOwner) (j : ℤ) → IsOwnerAt o j → Says lines item j (sent_at page lines item j (packet_of (s j)) o)
    unfolding Says
    says TheHead o j a = cond_both (heads_page page (packet_of (s j))) (record { slot = j; owner = j; sure = true } ∷ []) [] (Says lines TheHead j)
        (λ e. (refl, record { owned = (refl, e); sure = ((λ _. tt), (λ _. refl)) }))
        (λ e t. both_ways _ e t.owned.1)
    says (TheRow r) o j a = cond_both (carries page.mag (TheRow r) (packet_of (s j))) (sent_under lines j o) [] (Says lines (TheRow r) j)
        (λ e. under_row lines r o j e a) (λ e t. both_ways _ e t.owned.2)
    says TheLinks o j a = cond_both (carries page.mag TheLinks (packet_of (s j))) (sent_under lines j o) [] (Says lines TheLinks j)
        (λ e. under_links o j e a) (λ e t. both_ways _ e t.owned.2)

    -- the scan lists the transmissions of the first n slots
    pub scan_told : (item : Item) (entry : Option PageOwner) → IsOwnerAt entry (pos 0) → (n : ℕ) →
        AreSent (IsOwned s page item) (IsSure s lines page.mag item) (pos 0) (pos n) (sent_scan page lines item s entry n)
    unfolding sent_scan
    scan_told item entry a zero = λ x low high. absurd (omega (arith, ints))
    scan_told item entry a (suc n) =
        let e1 : pos n +ℤ pos 1 ≡ pos (suc n) = omega (arith, ints) in
        subst (λ z. AreSent (IsOwned s page item) (IsSure s lines page.mag item) (pos 0) z (sent_scan page lines item s entry (suc n))) e1
        (appended lines item (pos n) (sent_scan page lines item s entry n)
        (sent_at page lines item (pos n) (packet_of (s (pos n))) (owner_scan page s entry n)) (omega (arith, ints))
        (says item (owner_scan page s entry n) (pos n) (scan_right entry a n)) (scan_told item entry a n))
