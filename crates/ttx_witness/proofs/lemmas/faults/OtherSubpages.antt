-- Headers with another subcode than the listed one of their number are those of other subpages of pages that are alone.
use Rattle.std.proofs.Common.{◌≡◌, ◌↔◌, ℕ, ◌+◌, ◌<◌, ◌≤◌, ℤ, pos, ◌+ℤ◌, ◌-ℤ◌, Bool, true, false, ◌&&◌, ◌==◌, List, length, get_or, slice_get}
use Rattle.std.proofs.Common.{replicate, Option, Some, None, refl, sym, ap, ◌∙◌, subst, inl, inr, arith, eqb-true, eq-eqb}
use Rattle.std.proofs.lemmas.Bool.{cases_lt, cases_Bool, and_from, and_parts, cond_both, both_ways, not-true, not_from_false}
use Rattle.std.proofs.lemmas.List.{get_or-replicate, get_or_past, length-replicate}
use Rattle.std.proofs.lemmas.Option.{slice_get_within}
use Rattle.ttx_header.specs.Ids.{Id, same_id}
use Rattle.ttx_page.specs.Packets.{Packet, Empty, Unreadable, Header, Row, Links, Info, Other, packet_of}
use Rattle.ttx_page.specs.Pages.{Page, IsAlone, is_other_subpage}
use Rattle.ttx_page.specs.declared.selection.Selection.TheVariants.{AnySub}
use Rattle.ttx_page.specs.Streams.{Stream, repeated, heads_page, heads_matched}
use Rattle.ttx_page.specs.Steady.{OtherSubpageAt}
use Rattle.ttx_witness.specs.faults.Comparing.{HoldsNoHeader}
use Rattle.ttx_witness.specs.faults.Faults.{TellsFirst}
use Rattle.ttx_witness.specs.faults.OtherSubpages.{place, IsListed, AreSubcodes, is_other, heads_other, HeadsOtherAt, first_of, TellsBelow}
use Rattle.ttx_witness.specs.declared.faults.subcodes.Subcodes.{Subcodes}
use Rattle.ttx_witness.specs.declared.faults.subcodes.Subcodes.TheVariants.{Unlisted, One, Several}
use Rattle.ttx_witness.proofs.lemmas.faults.OverOnePeriod.{nowhere, one_more}
use Rattle.ttx_witness.proofs.lemmas.sent.CycleTransmissions.{period_of}
use Rattle.std.proofs.lemmas.Int.{ints}

-- a header whose subcode is not the page's
unlike : (p : Page) (id : Id) → (p.id.mag == id.mag) && (p.id.page == id.page) ≡ true → same_id p.id id ≡ false → (p.id.sub == id.sub) ≡ false
unlike p id a b = elim (cases_Bool (p.id.sub == id.sub)) as
    (λ _. (p.id.sub == id.sub) ≡ false) [ inl e ↦ absurd (both_ways _ b (and_from _ _ a e)) | inr e ↦ e ]

differs : (p : Page) (id : Id) → (p.id.sub == id.sub) ≡ false → same_id p.id id ≡ false
differs p id a = elim (cases_Bool (same_id p.id id)) as
    (λ _. same_id p.id id ≡ false)
    [ inl e ↦ absurd (both_ways _ a ((and_parts ((p.id.mag == id.mag) && (p.id.page == id.page)) _ e).1)) | inr e ↦ e ]

module _ (pages : List Page) (p : Page) (n : ℕ) (at : slice_get pages n ≡ Some p) (inside : n < length pages) where
  listed : IsListed pages (length pages) p.id.mag p.id.page p
  listed = record { index = n; below = inside; here = at; in_magazine = refl; numbered = refl }

  abbrev HeadsOther : Subcodes → Packet → Type 0
  HeadsOther t (Header id control text) = ((p.id.mag == id.mag) && (p.id.page == id.page) && is_other t id.sub) ≡ true
  HeadsOther t packet = ⊥

  record OtherPage (packet : Packet) : Type 0 where
    alone : IsAlone pages p
    number : heads_matched (AnySub p.id.mag p.id.page) packet ≡ true
    other : heads_page p.id packet ≡ false

  -- if the pages of the number have one subcode, the page is alone
  alone_of : (sub : ℕ) → ((q : Page) → IsListed pages (length pages) p.id.mag p.id.page q → q.id.sub ≡ sub) → IsAlone pages p
  alone_of sub all m q here = elim (cases_Bool (is_other_subpage p q)) as (λ _. is_other_subpage p q ≡ false) [
    | inl e ↦
        let a = (and_parts ((q.id.mag == p.id.mag) && (q.id.page == p.id.page)) _ e).0 in
        let l : IsListed pages (length pages) p.id.mag p.id.page q = record {
          index = m;
          below = slice_get_within pages m q here;
          here = here;
          in_magazine = eqb-true _ _ ((and_parts _ _ a).0);
          numbered = eqb-true _ _ ((and_parts (q.id.mag == p.id.mag) _ a).1);
        } in
        absurd (both_ways _ (not-true _ ((and_parts ((q.id.mag == p.id.mag) && (q.id.page == p.id.page)) _ e).1))
        (eq-eqb q.id.sub p.id.sub (all q l ∙ sym (all p listed))))
    | inr e ↦ e
  ]

  -- if the page is alone, the pages of its number have one subcode
  same_sub : IsAlone pages p → (q : Page) → IsListed pages (length pages) p.id.mag p.id.page q → q.id.sub ≡ p.id.sub
  same_sub alone q l = elim (cases_Bool (q.id.sub == p.id.sub)) as (λ _. q.id.sub ≡ p.id.sub) [
    | inl e ↦ eqb-true _ _ e
    | inr e ↦ absurd (both_ways _ (alone l.index q l.here)
        (and_from _ _ (and_from _ _ (eq-eqb _ _ l.in_magazine) (eq-eqb _ _ l.numbered)) (not_from_false _ e)))
  ]

  other_to : (t : Subcodes) → AreSubcodes pages (length pages) p.id.mag p.id.page t → (packet : Packet) → HeadsOther t packet → OtherPage packet
  other_to Unlisted a (Header id control text) h = absurd (a p listed)
  other_to (One sub) a (Header id control text) h =
      let m = (and_parts ((p.id.mag == id.mag) && (p.id.page == id.page)) _ h).0 in
      let d : (sub == id.sub) ≡ false = not-true _ ((and_parts ((p.id.mag == id.mag) && (p.id.page == id.page)) _ h).1) in
      record { alone = alone_of sub a.1; number = m; other = differs p id (ap (λ x. x == id.sub) (a.1 p listed) ∙ d) }
  other_to Several a (Header id control text) h = absurd (both_ways _ refl ((and_parts ((p.id.mag == id.mag) && (p.id.page == id.page)) _ h).1))
  other_to t a Empty h = absurd h
  other_to t a Unreadable h = absurd h
  other_to t a (Row m r text) h = absurd h
  other_to t a (Links m content) h = absurd h
  other_to t a Info h = absurd h
  other_to t a Other h = absurd h

  other_from : (t : Subcodes) → AreSubcodes pages (length pages) p.id.mag p.id.page t → (packet : Packet) → OtherPage packet → HeadsOther t packet
  other_from Unlisted a (Header id control text) o = absurd (a p listed)
  other_from (One sub) a (Header id control text) o =
      and_from _ _ o.number (not_from_false _ (ap (λ x. x == id.sub) (sym (a.1 p listed)) ∙ unlike p id o.number o.other))
  other_from Several a (Header id control text) o = absurd (a.4 (same_sub o.alone a.0 a.2 ∙ sym (same_sub o.alone a.1 a.3)))
  other_from t a Empty o = both_ways _ refl o.number
  other_from t a Unreadable o = both_ways _ refl o.number
  other_from t a (Row m r text) o = both_ways _ refl o.number
  other_from t a (Links m content) o = both_ways _ refl o.number
  other_from t a Info o = both_ways _ refl o.number
  other_from t a Other o = both_ways _ refl o.number

  module _ (table : List Subcodes) where
    to_other : (packet : Packet) → heads_other table p.id.mag p.id.page packet ≡ true →
        HeadsOther (get_or table (place p.id.mag p.id.page) Unlisted) packet
    to_other (Header id control text) h = h
    to_other Empty h = both_ways _ refl h
    to_other Unreadable h = both_ways _ refl h
    to_other (Row m r text) h = both_ways _ refl h
    to_other (Links m content) h = both_ways _ refl h
    to_other Info h = both_ways _ refl h
    to_other Other h = both_ways _ refl h

    from_other : (packet : Packet) → HeadsOther (get_or table (place p.id.mag p.id.page) Unlisted) packet →
        heads_other table p.id.mag p.id.page packet ≡ true
    from_other (Header id control text) h = h
    from_other Empty h = absurd h
    from_other Unreadable h = absurd h
    from_other (Row m r text) h = absurd h
    from_other (Links m content) h = absurd h
    from_other Info h = absurd h
    from_other Other h = absurd h

    pub other_is : (s : Stream) → AreSubcodes pages (length pages) p.id.mag p.id.page
        (get_or table (place p.id.mag p.id.page) Unlisted) → (j : ℤ) → HeadsOtherAt table s p.id.mag p.id.page j
        ↔ OtherSubpageAt s pages p j
    other_is s a j = (
      (λ h. let o = other_to (get_or table (place p.id.mag p.id.page) Unlisted) a (packet_of (s j)) (to_other (packet_of (s j)) h)
          in record { alone = o.alone; number = o.number; other = o.other }),
      (λ o. from_other (packet_of (s j))
          (other_from (get_or table (place p.id.mag p.id.page) Unlisted) a (packet_of (s j))
          (record { alone = o.alone; number = o.number; other = o.other }))),
    )

-- the first slots, slot by slot
pub first_more : (P : ℤ → Type 0) (j : ℕ) (is : Bool) → ((is ≡ true) ↔ P (pos j)) → (o : Option ℕ) → TellsBelow P j o →
    TellsBelow P (j + 1) (first_of o is j)
first_more P j is e None t = cond_both is (Some j) None (TellsBelow P (j + 1))
    (λ yes. (omega arith, e.0 yes, t))
    (λ n. one_more (λ i. P (pos i)) j t (λ p. both_ways _ n (e.1 p)))
first_more P j is e (Some i) t = (let l = t.0 in omega arith, t.1, t.2)

pub first_none : (P : ℤ → Type 0) (first : List (Option ℕ)) → first ≡ replicate 2048 None → (k : ℕ) → TellsBelow P 0 (get_or first k None)
first_none P first e k =
    let at : get_or first k None ≡ None = ap (λ t. get_or t k None) e ∙ untold in
    subst (TellsBelow P 0) (sym at) (λ i lt p. absurd (omega arith))
  where
    untold : get_or {A = Option ℕ} (replicate 2048 None) k None ≡ None
    untold = elim (cases_lt k 2048) as (λ _. get_or {A = Option ℕ} (replicate 2048 None) k None ≡ None) [
      | inl lt ↦ get_or-replicate {A = Option ℕ} 2048 k None None lt
      | inr ge ↦ get_or_past {X = Option ℕ} (replicate 2048 None) k None (omega (arith, length-replicate {A = Option ℕ} 2048 None))
    ]

pub first_all : (cycle : List (List ℕ)) → 1 ≤ length cycle → (table : List Subcodes) (mag number : ℕ) (o : Option ℕ) →
    TellsBelow (HeadsOtherAt table (repeated cycle) mag number) (length cycle) o → TellsFirst cycle (HeadsOtherAt table (repeated cycle) mag number) o
first_all cycle some table mag number None t = nowhere cycle some (HeadsOtherAt table (repeated cycle) mag number)
    (λ i. subst (λ x. heads_other table mag number (packet_of x) ≡ true) (period_of cycle i))
    (λ i. subst (λ x. heads_other table mag number (packet_of x) ≡ true) (back i)) t
  where
    back : (i : ℤ) → repeated cycle (i -ℤ pos (length cycle)) ≡ repeated cycle i
    back i = let e : (i -ℤ pos (length cycle)) +ℤ pos (length cycle) ≡ i = omega (arith, ints)
        in sym (period_of cycle (i -ℤ pos (length cycle))) ∙ ap (repeated cycle) e
first_all cycle some table mag number (Some j) t = record { within = t.0; here = t.1; none_before = t.2 }

-- a packet that is not a header is none of another subpage, so nothing is noted
pub none_other : (table : List Subcodes) (mag number : ℕ) (packet : Packet) → HoldsNoHeader packet → heads_other table mag number packet ≡ false
none_other table mag number Empty n = refl
none_other table mag number Unreadable n = refl
none_other table mag number (Header id control text) n = absurd n
none_other table mag number (Row m r text) n = refl
none_other table mag number (Links m content) n = refl
none_other table mag number Info n = refl
none_other table mag number Other n = refl

pub not_noted : (first : Option ℕ) (j : ℕ) → first_of first false j ≡ first
not_noted None j = refl
not_noted (Some i) j = refl
