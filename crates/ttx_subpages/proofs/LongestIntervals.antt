-- The longest interval of the subpages of a number.
use Rattle.std.proofs.Common.{◌≡◌, ◌⊎◌, ℕ, ◌+◌, ◌≤◌, true, false, ◌==◌, nat_lt, List, length, slice_get, Option, Some, None}
use Rattle.std.proofs.Common.{refl, sym, ◌∙◌, subst, inl, inr, arith, eq-eqb, eqb-true}
use Rattle.std.proofs.lemmas.Int.{ints}
use Rattle.std.proofs.lemmas.Bool.{and_from, and_parts, both_ways, cases_lt, cases_Bool, ltb-true, lt-ltb}
use Rattle.std.proofs.lemmas.Option.{slice_get_within}
use Rattle.ttx_certify.proofs.PageByPage.{same_page}
use Rattle.ttx_page.specs.Packets.{packet_of}
use Rattle.ttx_page.specs.Pages.{Page}
use Rattle.ttx_page.specs.declared.selection.Selection.{Selection}
use Rattle.ttx_page.specs.declared.selection.Selection.TheVariants.{Exact}
use Rattle.ttx_page.specs.Streams.{Stream, heads_matched}
use Rattle.ttx_subpages.specs.Numbers.{has_number}
use Rattle.ttx_subpages.specs.WholeBlocks.{IsSubpage}
use Rattle.ttx_subpages.specs.Stays.{HasNone, ComesAgainWithin, IsGreatestInterval}
use Rattle.ttx_subpages.specs.Intervals.{IsAmong, IsLongestBelow, LongestBelow, IsIntervalOf, longer_of}

-- an interval is 0 exactly where there is no header
module _ (s : Stream) (sel : Selection) where
  none_if_zero : IsGreatestInterval s sel 0 → HasNone s sel
  none_if_zero g h = elim (cases_Bool (heads_matched sel (packet_of (s h)))) as (λ _. heads_matched sel (packet_of (s h)) ≡ false) [
    | inl head ↦ let a = g.within h head in let low = a.1 in let high = a.2 in absurd (omega (arith, ints))
    | inr off ↦ off
  ]

  zero_if_none : (n : ℕ) → IsGreatestInterval s sel n → HasNone s sel → n ≡ 0
  zero_if_none n g none = let le = g.least 0 (λ h head. absurd (both_ways _ (none h) head)) in omega arith

  wider : (m n : ℕ) → m ≤ n → ComesAgainWithin s sel m → ComesAgainWithin s sel n
  wider m n le within h head = let a = within h head in let high = a.2 in (a.0, a.1, omega (arith, ints), a.3)

module _ (pages : List Page) (n mag number : ℕ) where
  later : (p : Page) → IsAmong pages n mag number p → IsAmong pages (n + 1) mag number p
  later p a = record { index = a.index; before = let lt = a.before in omega arith; listed = a.listed; named = a.named }

  -- one of the pages before, or this one
  either : (q : Page) → slice_get pages n ≡ Some q → (p : Page) → IsAmong pages (n + 1) mag number p →
      IsAmong pages n mag number p ⊎ ((q ≡ p) × (has_number mag number p ≡ true))
  either q here p a = elim (cases_lt a.index n) as (λ _. IsAmong pages n mag number p ⊎ ((q ≡ p) × (has_number mag number p ≡ true))) [
    | inl lt ↦ inl (record { index = a.index; before = lt; listed = a.listed; named = a.named })
    | inr ge ↦
        let lt = a.before in
        let e : a.index ≡ n = omega arith in
        inr (same_page q p here (subst (λ i. slice_get pages i ≡ Some p) e a.listed), a.named)
  ]

  module _ (s : Stream) (q : Page) (here : slice_get pages n ≡ Some q) where
    -- a page with another number
    pub page_skips : (most : Option ℕ) → has_number mag number q ≡ false → LongestBelow s pages n mag number most → LongestBelow s pages (n + 1) mag number most
    page_skips None off below = record { page = below.page; among = later below.page below.among; none = below.none }
    page_skips (Some most) off below = record {
      sent = λ p a. elim (either q here p a) as (λ _. HasNone s (Exact p.id) → ⊥) [
        | inl old ↦ below.sent p old
        | inr new ↦ absurd (both_ways _ off (subst (λ x. has_number mag number x ≡ true) (sym new.0) new.1))
      ];
      within = λ p a. elim (either q here p a) as (λ _. ComesAgainWithin s (Exact p.id) most) [
        | inl old ↦ below.within p old
        | inr new ↦ absurd (both_ways _ off (subst (λ x. has_number mag number x ≡ true) (sym new.0) new.1))
      ];
      needed = elim below.needed as (λ _. (most ≡ 0) ⊎ ((p : Page) × IsAmong pages (n + 1) mag number p × IsGreatestInterval s (Exact p.id) most)) [
        | inl e ↦ inl e
        | inr r ↦ inr (r.0, later r.0 r.1, r.2)
      ];
    }

    module _ (named : has_number mag number q ≡ true) (own : ℕ) (is : IsGreatestInterval s (Exact q.id) own) where
      this : IsAmong pages (n + 1) mag number q
      this = record { index = n; before = omega arith; listed = here; named = named }

      -- none of the pages has no header, and each comes again within the longer interval
      grown : (most new : ℕ) → most ≤ new → own ≤ new → (own ≡ 0 → ⊥) → IsLongestBelow s pages n mag number most →
          (new ≡ most) ⊎ (new ≡ own) → IsLongestBelow s pages (n + 1) mag number new
      grown most new le le' some below which = record {
        sent = λ p a. elim (either q here p a) as (λ _. HasNone s (Exact p.id) → ⊥) [
          | inl old ↦ below.sent p old
          | inr e ↦ λ none. some (zero_if_none s (Exact q.id) own is (subst (λ x. HasNone s (Exact x.id)) (sym e.0) none))
        ];
        within = λ p a. elim (either q here p a) as (λ _. ComesAgainWithin s (Exact p.id) new) [
          | inl old ↦ wider s (Exact p.id) most new le (below.within p old)
          | inr e ↦ subst (λ x. ComesAgainWithin s (Exact x.id) new) e.0 (wider s (Exact q.id) own new le' is.within)
        ];
        needed = elim which as (λ _. (new ≡ 0) ⊎ ((p : Page) × IsAmong pages (n + 1) mag number p × IsGreatestInterval s (Exact p.id) new)) [
          | inl e ↦ elim below.needed as (λ _. (new ≡ 0) ⊎ ((p : Page) × IsAmong pages (n + 1) mag number p × IsGreatestInterval s (Exact p.id) new)) [
            | inl z ↦ inl (e ∙ z)
            | inr r ↦ inr (r.0, later r.0 r.1, subst (IsGreatestInterval s (Exact r.0.id)) (sym e) r.2)
          ]
          | inr e ↦ inr (q, this, subst (IsGreatestInterval s (Exact q.id)) (sym e) is)
        ];
      }

      -- a page with the number
      pub page_more : (most : Option ℕ) → LongestBelow s pages n mag number most → LongestBelow s pages (n + 1) mag number (longer_of most own)
      page_more None below = record { page = below.page; among = later below.page below.among; none = below.none }
      page_more (Some most) below = elim (cases_Bool (own == 0)) as (λ _. LongestBelow s pages (n + 1) mag number (longer_of (Some most) own)) [
        | inl e ↦
            let z = eqb-true own 0 e in
            let r : None ≡ longer_of (Some most) own = rw e refl in
            subst (LongestBelow s pages (n + 1) mag number) r
            (record { page = q; among = this; none = none_if_zero s (Exact q.id) (subst (IsGreatestInterval s (Exact q.id)) z is) })
        | inr e ↦
            let some : (own ≡ 0 → ⊥) = λ z. both_ways _ e (eq-eqb own 0 z) in
            elim (cases_Bool (nat_lt most own)) as (λ _. LongestBelow s pages (n + 1) mag number (longer_of (Some most) own)) [
              | inl l ↦
                  let lt = ltb-true most own l in
                  let r : Some own ≡ longer_of (Some most) own = rw e (rw l refl) in
                  subst (LongestBelow s pages (n + 1) mag number) r (grown most own (omega arith) (omega arith) some below (inr refl))
              | inr l ↦
                  let le : own ≤ most = elim (cases_lt most own) as (λ _. own ≤ most) [
                    | inl lt ↦ absurd (both_ways _ l (lt-ltb most own lt))
                    | inr ge ↦ omega arith
                  ] in
                  let r : Some most ≡ longer_of (Some most) own = rw e (rw l refl) in
                  subst (LongestBelow s pages (n + 1) mag number) r (grown most most (omega arith) le some below (inl refl))
            ]
      ]

pub no_pages : (s : Stream) (pages : List Page) (mag number : ℕ) → LongestBelow s pages 0 mag number (Some 0)
no_pages s pages mag number = record {
  sent = λ p a. absurd (let lt = a.before in omega arith);
  within = λ p a. absurd (let lt = a.before in omega arith);
  needed = inl refl;
}

module _ (s : Stream) (pages : List Page) (mag number : ℕ) where
  subpage : (n : ℕ) (p : Page) → IsAmong pages n mag number p → IsSubpage pages mag number p
  subpage n p a = record {
    index = a.index;
    listed = a.listed;
    mag_is = eqb-true p.id.mag mag ((and_parts _ _ a.named).0);
    number_is = eqb-true p.id.page number ((and_parts (p.id.mag == mag) _ a.named).1);
  }

  among : (n : ℕ) → length pages ≤ n → (p : Page) → IsSubpage pages mag number p → IsAmong pages n mag number p
  among n past p sub = record {
    index = sub.index;
    before = let lt = slice_get_within pages sub.index p sub.listed in omega arith;
    listed = sub.listed;
    named = and_from (p.id.mag == mag) (p.id.page == number) (eq-eqb p.id.mag mag sub.mag_is) (eq-eqb p.id.page number sub.number_is);
  }

  -- all pages of the list
  pub interval_of_all : (n : ℕ) → length pages ≤ n → (most : Option ℕ) → LongestBelow s pages n mag number most → IsIntervalOf s pages mag number most
  interval_of_all n past None below = record { page = below.page; subpage = subpage n below.page below.among; none = below.none }
  interval_of_all n past (Some most) below = record {
    sent = λ p sub. below.sent p (among n past p sub);
    within = λ p sub. below.within p (among n past p sub);
    least = λ m within. elim below.needed as (λ _. most ≤ m) [
      | inl e ↦ omega arith
      | inr r ↦ r.2.least m (within r.0 (subpage n r.0 r.1))
    ];
  }
