-- The transmissions of the joined stream, period by period.
use Rattle.std.proofs.Common.{◌≡◌, ℕ, zero, suc, ◌*◌, ◌≤◌, ℤ, pos, ◌+ℤ◌, ◌-ℤ◌, ◌<ℤ◌, ◌≤ℤ◌, true, List, [], ◌∷◌, ◌++◌, map, length}
use Rattle.std.proofs.Common.{get_or, sym, ap, ◌∙◌, subst, inl, inr, arith, eq-eqb, eqb-true}
use Rattle.std.proofs.lemmas.Int.{ints}
use Rattle.std.proofs.lemmas.Bool.{and_parts, both_ways}
use Rattle.ttx_page.proofs.SlotDistances.{cases_ltz}
use Rattle.ttx_header.specs.Ids.{Id}
use Rattle.ttx_page.specs.Packets.{Packet, Empty, Unreadable, Header, Row, Links, Info, Other, packet_of}
use Rattle.ttx_page.specs.Pages.{Page}
use Rattle.ttx_page.specs.declared.item.Item.{Item}
use Rattle.ttx_page.specs.declared.item.Item.TheVariants.{Head as TheHead, Row as TheRow, Links as TheLinks}
use Rattle.ttx_page.specs.Streams.{Stream, repeated, turned, heads, heads_page, IsOwned, IsSure}
use Rattle.ttx_page.specs.Steady.{HasHeader}
use Rattle.ttx_page.specs.Laws.{IsSameOn, CyclesRepeat, OwnersAreNear}
use Rattle.ttx_witness.specs.declared.runs.transmissions.Transmission.{Transmission}
use Rattle.ttx_witness.specs.runs.Transmissions.{slot_of}
use Rattle.ttx_witness.specs.runs.Repeating.{Lists, IsSentAt, Tells, AreSent}
use Rattle.ttx_proof.specs.Splices.{Splice, stream}
use Rattle.ttx_proof.specs.Bridging.{low, high}
use Rattle.ttx_proof.specs.Joining.{shifted, periods_before, periods_after, JoinedAreListed}
use Rattle.ttx_proof.proofs.NamedStarts.{same_more}
use Rattle.ttx_proof.proofs.StreamsOfSides as J
use Rattle.ttx_proof.proofs.StreamsOfSides.{StreamLaws}

-- lists of what is between two slots
module _ (P : ℤ → Type 0) (Is : Transmission → Type 0) where
  lists_lower : (low mid high : ℤ) (bs : List Transmission) → low ≤ℤ mid → mid ≤ℤ high → ((x : ℤ) → low ≤ℤ x → x <ℤ mid → P x → ⊥) →
      Lists slot_of P Is mid high bs → Lists slot_of P Is low high bs
  lists_lower low mid high [] a b none l = λ x c d p. elim (cases_ltz x mid) as (λ _. ⊥) [ inl lt ↦ none x c lt p | inr ge ↦ l x ge d p ]
  lists_lower low mid high (t ∷ ts) a b none l = (
    l.0,
    let g = l.1 in omega (arith, ints),
    l.2,
    (λ x c d p. elim (cases_ltz x mid) as (λ _. ⊥) [ inl lt ↦ none x c lt p | inr ge ↦ l.3 x ge d p ]),
    l.4,
  )

  lists_join : (low mid high : ℤ) (ts bs : List Transmission) → low ≤ℤ mid → mid ≤ℤ high → Lists slot_of P Is low mid ts →
      Lists slot_of P Is mid high bs → Lists slot_of P Is low high (ts ++ bs)
  lists_join low mid high [] bs a b l m = lists_lower low mid high bs a b l m
  lists_join low mid high (t ∷ ts) bs a b l m =
      (l.0, l.1, (let g = l.2 in omega (arith, ints)), l.3, lists_join (t.slot +ℤ pos 1) mid high ts bs (let g = l.2 in omega (arith, ints)) b l.4 m)

-- the same list some slots later, in another stream
lists_shifted : (P Q : ℤ → Type 0) (Is Was : Transmission → Type 0) (d : ℤ) (from low high : ℤ) (ts : List Transmission) → from ≤ℤ low →
    ((t : Transmission) → from ≤ℤ t.slot → t.slot <ℤ high → Is t → Was (shifted d t)) → ((x : ℤ) → from ≤ℤ x → x <ℤ high → Q (x +ℤ d) → P x) →
    Lists slot_of P Is low high ts → Lists slot_of Q Was (low +ℤ d) (high +ℤ d) (map (shifted d) ts)
lists_shifted P Q Is Was d from low high [] le is none l = λ x a b q.
    let e : x ≡ (x -ℤ d) +ℤ d = omega (arith, ints) in
    l (x -ℤ d) (omega (arith, ints)) (omega (arith, ints)) (none (x -ℤ d) (omega (arith, ints)) (omega (arith, ints)) (subst Q e q))
lists_shifted P Q Is Was d from low high (t ∷ ts) le is none l =
    let a = l.1 in let b = l.2 in (
      is t (omega (arith, ints)) b l.0,
      omega (arith, ints),
      omega (arith, ints),
      (λ x c e q. let same : x ≡ (x -ℤ d) +ℤ d = omega (arith, ints) in
          l.3 (x -ℤ d) (omega (arith, ints)) (omega (arith, ints)) (none (x -ℤ d) (omega (arith, ints)) (omega (arith, ints)) (subst Q same q))),
      (let e : (t.slot +ℤ pos 1) +ℤ d ≡ (t.slot +ℤ d) +ℤ pos 1 = omega (arith, ints) in
          subst (λ z. Lists slot_of Q Was z (high +ℤ d) (map (shifted d) ts)) e
          (lists_shifted P Q Is Was d from (t.slot +ℤ pos 1) high ts (omega (arith, ints)) is none l.4)),
    )

module _ (laws : StreamLaws) (near : OwnersAreNear) (again : CyclesRepeat) (c : Splice) (p : Page) (item : Item)
    (some_old : 1 ≤ length c.old) (some_new : 1 ≤ length c.new) (header : HasHeader (repeated c.new) p.id) where
  abbrev page : Id
  page = p.id

  abbrev lines : ℕ
  lines = c.new_certificate.lines

  abbrev Sent : Stream → ℤ → Type 0
  Sent s = IsSentAt (IsOwned s page item)

  abbrev Told : Stream → Transmission → Type 0
  Told s = Tells (IsOwned s page item) (IsSure s lines page.mag item)

  -- the same, some slots later
  told_moved : (s : Stream) (d : ℤ) → IsSameOn s d → (t : Transmission) → Told s t → Told s (shifted d t)
  told_moved s d same t a =
      let m = laws.move s d same in
      let b = laws.move s (pos 0 -ℤ d) m.back in
      let e = λ (x : ℤ). (let q : (x +ℤ d) +ℤ (pos 0 -ℤ d) ≡ x = omega (arith, ints) in q) in
      record {
        owned = m.owned page item t.owner t.slot a.owned;
        sure = (
          (λ y. m.sure lines page.mag item t.owner t.slot (a.sure.0 y)),
          (λ y. a.sure.1 (subst (λ h. IsSure s lines page.mag item h t.slot) (e t.owner)
              (subst (λ j. IsSure s lines page.mag item ((t.owner +ℤ d) +ℤ (pos 0 -ℤ d)) j) (e t.slot)
              (b.sure lines page.mag item (t.owner +ℤ d) (t.slot +ℤ d) y)))),
        );
      }

  sent_moved : (s : Stream) (d : ℤ) → IsSameOn s d → (x : ℤ) → Sent s (x +ℤ d) → Sent s x
  sent_moved s d same x a =
      let b = laws.move s (pos 0 -ℤ d) (laws.move s d same).back in
      let e : (x +ℤ d) +ℤ (pos 0 -ℤ d) ≡ x = omega (arith, ints) in
      record {
        owner = a.owner +ℤ (pos 0 -ℤ d);
        owned = subst (IsOwned s page item (a.owner +ℤ (pos 0 -ℤ d))) e
            (b.owned page item a.owner (x +ℤ d) a.owned);
      }

  told_old : (t : Transmission) → t.slot <ℤ pos 0 → Told (repeated c.old) t → Told (stream c) t
  told_old t lt a =
      let l = laws.first (repeated c.old) page item t.owner t.slot a.owned in
      let s = J.old_sure laws c.old c.new lines page.mag item t.owner t.slot (omega (arith, ints)) lt in
      record { owned = J.old_owned laws c.old c.new page item t.owner t.slot lt a.owned; sure = ((λ y. s.0 (a.sure.0 y)), (λ y. a.sure.1 (s.1 y))) }

  told_new : (t : Transmission) → pos 0 ≤ℤ t.owner → Told (repeated c.new) t → Told (stream c) t
  told_new t le a =
      let l = laws.first (repeated c.new) page item t.owner t.slot a.owned in
      let s = J.new_sure laws c.old c.new lines page.mag item t.owner t.slot le (omega (arith, ints)) in
      record { owned = J.new_owned laws c.old c.new page item t.owner t.slot le a.owned; sure = ((λ y. s.0 (a.sure.0 y)), (λ y. a.sure.1 (s.1 y))) }

  -- the page's header in the first new period
  record HasFirst : Type 0 where
    at : ℤ
    from : pos 0 ≤ℤ at
    to : at <ℤ pos (length c.new)
    is_header : heads page.mag (packet_of (stream c at)) ≡ true

  first_header : HasFirst
  first_header =
      let t = laws.turn (length c.new) header.slot (omega arith) in
      let m = laws.move (repeated c.new) t.by (λ j. ap (λ n. get_or c.new n []) (t.same j)) in
      let b = m.back in
      let e : header.slot +ℤ (pos 0 -ℤ t.by) ≡ pos (turned (length c.new) header.slot) = let q = t.place in omega (arith, ints) in
      record {
        at = pos (turned (length c.new) header.slot);
        from = omega (arith, ints);
        to = let i = t.inside in omega (arith, ints);
        is_header = ap (λ x. heads page.mag (packet_of (repeated c.new x))) (sym e)
            ∙ ap (λ x. heads page.mag (packet_of x)) (b header.slot)
            ∙ of_page (packet_of (repeated c.new header.slot)) header.is_header;
      }
    where
      of_page : (packet : Packet) → heads_page page packet ≡ true → heads page.mag packet ≡ true
      of_page (Header id control text) h = eq-eqb id.mag page.mag (sym (eqb-true page.mag id.mag ((and_parts _ _ (and_parts _ _ h).0).0)))
      of_page (Row m n text) h = cc
      of_page (Links m content) h = cc
      of_page Empty h = cc
      of_page Unreadable h = cc
      of_page Info h = cc
      of_page Other h = cc

  -- after the first new period no slot belongs to an old header
  owner_above : (item : Item) (h j : ℤ) → pos (length c.new) ≤ℤ j → IsOwned (stream c) page item h j → pos 0 ≤ℤ h
  owner_above TheHead h j le a = let e = a.0 in omega (arith, ints)
  owner_above (TheRow r) h j le a = elim (cases_ltz h (pos 0)) as (λ _. pos 0 ≤ℤ h) [
    | inr ge ↦ ge
    | inl lt ↦ let f = first_header in let u = f.from in let v = f.to
        in absurd (both_ways _ (a.0.none_between f.at (omega (arith, ints)) (omega (arith, ints))) f.is_header)
  ]
  owner_above TheLinks h j le a = elim (cases_ltz h (pos 0)) as (λ _. pos 0 ≤ℤ h) [
    | inr ge ↦ ge
    | inl lt ↦ let f = first_header in let u = f.from in let v = f.to
        in absurd (both_ways _ (a.0.none_between f.at (omega (arith, ints)) (omega (arith, ints))) f.is_header)
  ]

  abbrev Joins : ℤ → ℤ → List Transmission → Type 0
  Joins low high ts = AreSent (IsOwned (stream c) page item) (IsSure (stream c) lines page.mag item) low high ts

  module _ (olds : List Transmission)
      (told : AreSent (IsOwned (repeated c.old) page item) (IsSure (repeated c.old) lines page.mag item) (pos 0)
      (pos (length c.old)) olds) where
    one_before : (m : ℕ) → Joins (pos 0 -ℤ pos (suc m * length c.old)) (pos 0 -ℤ pos (m * length c.old))
        (map (shifted (pos 0 -ℤ pos (suc m * length c.old))) olds)
    one_before m =
        let n = length c.old in
        let d = pos 0 -ℤ pos (suc m * n) in
        let same = (laws.move (repeated c.old) (pos (suc m * n)) (same_more (repeated c.old) n (suc m) (again c.old (omega arith)))).back in
        let l = lists_shifted (Sent (repeated c.old)) (Sent (stream c)) (Told (repeated c.old)) (Told (stream c)) d (pos 0) (pos 0)
        (pos n) olds (omega (arith, ints))
        (λ t a b is. told_old (shifted d t) (omega (arith, ints)) (told_moved (repeated c.old) d same t is))
        (λ x a b q. sent_moved (repeated c.old) d same x
        (record {
          owner = q.owner;
          owned = J.owned_old laws c.old c.new page item q.owner (x +ℤ d)
              (omega (arith, ints)) q.owned;
        })) told in
        let e : pos 0 +ℤ d ≡ pos 0 -ℤ pos (suc m * n) = omega (arith, ints) in
        let f : pos n +ℤ d ≡ pos 0 -ℤ pos (m * n) = omega (arith, ints) in
        subst (λ z. Joins z (pos 0 -ℤ pos (m * n)) (map (shifted d) olds)) e (subst (λ z. Joins (pos 0 +ℤ d) z (map (shifted d) olds)) f l)

    all_before : (m : ℕ) → Joins (pos 0 -ℤ pos (m * length c.old)) (pos 0) (periods_before (length c.old) m olds)
    unfolding periods_before
    all_before zero = λ x a b q. absurd (omega (arith, ints))
    all_before (suc m) =
        let n = length c.old in
        lists_join (Sent (stream c)) (Told (stream c)) (pos 0 -ℤ pos (suc m * n)) (pos 0 -ℤ pos (m * n)) (pos 0)
        (map (shifted (pos 0 -ℤ pos (suc m * n))) olds) (periods_before n m olds)
        (omega (arith, ints)) (omega (arith, ints)) (one_before m) (all_before m)

  module _ (news : List Transmission)
      (told : AreSent (IsOwned (repeated c.new) page item) (IsSure (repeated c.new) lines page.mag item) (pos 0)
      (pos (length c.new)) news) where
    one_after : (m : ℕ) → Joins (pos (suc m * length c.new)) (pos (suc (suc m) * length c.new)) (map (shifted (pos (suc m * length c.new))) news)
    one_after m =
        let n = length c.new in
        let d = pos (suc m * n) in
        let same = same_more (repeated c.new) n (suc m) (again c.new (omega arith)) in
        let l = lists_shifted (Sent (repeated c.new)) (Sent (stream c)) (Told (repeated c.new)) (Told (stream c)) d (pos 0) (pos 0)
        (pos n) news (omega (arith, ints))
        (λ t a b is. let w = near (repeated c.new) n (omega arith) (again c.new (omega arith)) page item t.owner t.slot is.owned in
        told_new (shifted d t) (omega (arith, ints)) (told_moved (repeated c.new) d same t is))
        (λ x a b q. sent_moved (repeated c.new) d same x
        (record {
          owner = q.owner;
          owned = J.owned_new laws c.old c.new page item q.owner (x +ℤ d)
              (owner_above item q.owner (x +ℤ d) (omega (arith, ints)) q.owned) q.owned;
        })) told in
        let e : pos 0 +ℤ d ≡ pos (suc m * n) = omega (arith, ints) in
        let f : pos n +ℤ d ≡ pos (suc (suc m) * n) = omega (arith, ints) in
        subst (λ z. Joins z (pos (suc (suc m) * n)) (map (shifted d) news)) e (subst (λ z. Joins (pos 0 +ℤ d) z (map (shifted d) news)) f l)

    all_after : (m : ℕ) → Joins (pos (length c.new)) (pos (suc m * length c.new)) (periods_after (length c.new) m news)
    unfolding periods_after
    all_after zero = λ x a b q. absurd (omega (arith, ints))
    all_after (suc m) =
        let n = length c.new in
        lists_join (Sent (stream c)) (Told (stream c)) (pos n) (pos (suc m * n)) (pos (suc (suc m) * n)) (periods_after n m news)
        (map (shifted (pos (suc m * n))) news)
        (omega (arith, ints)) (omega (arith, ints)) (all_after m) (one_after m)

pub joined_are_listed : StreamLaws → OwnersAreNear → CyclesRepeat → JoinedAreListed
joined_are_listed laws near again c p item k olds middle news some_old some_new header given =
    let n = length c.new in
    let b = all_before laws near again c p item some_old some_new header olds given.old (suc k) in
    let a = all_after laws near again c p item some_old some_new header news given.new (suc k) in
    let Is = Tells (IsOwned (stream c) p.id item) (IsSure (stream c) c.new_certificate.lines p.id.mag item) in
    lists_join (IsSentAt (IsOwned (stream c) p.id item)) Is (low c k) (pos 0) (high c k) (periods_before (length c.old) (suc k) olds)
    (middle ++ periods_after n (suc k) news)
    (omega (arith, ints)) (omega (arith, ints)) b
    (lists_join (IsSentAt (IsOwned (stream c) p.id item)) Is (pos 0) (pos n) (high c k) middle (periods_after n (suc k) news)
    (omega (arith, ints)) (omega (arith, ints)) given.middle a)
