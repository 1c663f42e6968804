-- The subcodes of the listed pages of a number, page by page.
use Rattle.std.proofs.Common.{◌≡◌, ◌⊎◌, ℕ, ◌+◌, ◌&&◌, ◌==◌, if◌then◌else◌, List, get_or, slice_get, replicate, Some, sym, ap, ◌∙◌, subst, inl, inr}
use Rattle.std.proofs.Common.{arith, eqb-true, eq-eqb}
use Rattle.std.proofs.lemmas.Bool.{cases_lt, and_from, and_parts, cond_both, both_ways}
use Rattle.std.proofs.lemmas.List.{get_or-replicate, get_or_past, length-replicate}
use Rattle.ttx_page.specs.Pages.{Page}
use Rattle.ttx_witness.specs.faults.OtherSubpages.{with_subcode, place, IsListed, AreSubcodes, AreAllSubcodes}
use Rattle.ttx_witness.specs.declared.faults.subcodes.Subcodes.{Subcodes}
use Rattle.ttx_witness.specs.declared.faults.subcodes.Subcodes.TheVariants.{Unlisted, One, Several}
use Rattle.ttx_witness.proofs.lemmas.faults.FirstSlots.{placed}

module _ (pages : List Page) (i mag number : ℕ) where
  later : (q : Page) → IsListed pages i mag number q → IsListed pages (i + 1) mag number q
  later q l = record { index = l.index; below = omega (arith, l.below); here = l.here; in_magazine = l.in_magazine; numbered = l.numbered }

  module _ (p : Page) (at : slice_get pages i ≡ Some p) where
    -- the pages up to p are those before it, and p itself
    either : (q : Page) → IsListed pages (i + 1) mag number q → IsListed pages i mag number q ⊎ (q ≡ p)
    either q l = elim (cases_lt l.index i) as (λ _. IsListed pages i mag number q ⊎ (q ≡ p)) [
      | inl lt ↦ inl (record { index = l.index; below = lt; here = l.here; in_magazine = l.in_magazine; numbered = l.numbered })
      | inr ge ↦ let e : l.index ≡ i = omega (arith, l.below)
          in inr (placed (slice_get pages i) q p (subst (λ n. slice_get pages n ≡ Some q) e l.here) at)
    ]

    -- p has another number
    apart : (p.id.mag ≡ mag → p.id.page ≡ number → ⊥) → (t : Subcodes) → AreSubcodes pages i mag number t → AreSubcodes pages (i + 1) mag number t
    apart differs Unlisted a = λ q l. elim (either q l) as (λ _. ⊥) [
      | inl m ↦ a q m
      | inr e ↦ differs (ap (λ x. x.id.mag) (sym e) ∙ l.in_magazine)
          (ap (λ x. x.id.page) (sym e) ∙ l.numbered)
    ]
    apart differs (One sub) a = (
      (a.0.0, later a.0.0 a.0.1),
      (λ q l. elim (either q l) as (λ _. q.id.sub ≡ sub) [
        | inl m ↦ a.1 q m
        | inr e ↦ absurd
            (differs (ap (λ x. x.id.mag) (sym e) ∙ l.in_magazine) (ap (λ x. x.id.page) (sym e) ∙ l.numbered))
      ]),
    )
    apart differs Several a = (a.0, a.1, later a.0 a.2, later a.1 a.3, a.4)

    -- p has this number
    module _ (m : p.id.mag ≡ mag) (n : p.id.page ≡ number) where
      own : IsListed pages (i + 1) mag number p
      own = record { index = i; below = omega arith; here = at; in_magazine = m; numbered = n }

      with_one : (t : Subcodes) → AreSubcodes pages i mag number t → AreSubcodes pages (i + 1) mag number (with_subcode t p.id.sub)
      with_one Unlisted a = (
        (p, own),
        (λ q l. elim (either q l) as (λ _. q.id.sub ≡ p.id.sub) [ inl k ↦ absurd (a q k) | inr e ↦ ap (λ x. x.id.sub) e ]),
      )
      with_one (One sub) a = cond_both (sub == p.id.sub) (One sub) Several (AreSubcodes pages (i + 1) mag number)
          (λ e. let s : sub ≡ p.id.sub = eqb-true sub p.id.sub e in (
            (a.0.0, later a.0.0 a.0.1),
            (λ q l. elim (either q l) as (λ _. q.id.sub ≡ sub)
                [ inl k ↦ a.1 q k | inr f ↦ ap (λ x. x.id.sub) f ∙ sym s ]),
          ))
          (λ e. (a.0.0, p, later a.0.0 a.0.1, own, (λ f. both_ways _ e (eq-eqb sub p.id.sub (sym (a.1 a.0.0 a.0.1) ∙ f)))))
      with_one Several a = (a.0, a.1, later a.0 a.2, later a.1 a.3, a.4)

    pub one_page : (t : Subcodes) → AreSubcodes pages i mag number t →
        AreSubcodes pages (i + 1) mag number (if (mag == p.id.mag) && (number == p.id.page) then with_subcode t p.id.sub else t)
    one_page t a = cond_both ((mag == p.id.mag) && (number == p.id.page)) (with_subcode t p.id.sub) t (AreSubcodes pages (i + 1) mag number)
        (λ e. with_one (sym (eqb-true mag p.id.mag ((and_parts _ _ e).0))) (sym (eqb-true number p.id.page ((and_parts _ _ e).1))) t a)
        (λ e. apart (λ m n. both_ways _ e (and_from _ _ (eq-eqb mag p.id.mag (sym m)) (eq-eqb number p.id.page (sym n)))) t a)

pub none_listed : (pages : List Page) (table : List Subcodes) → table ≡ replicate 2048 Unlisted → AreAllSubcodes pages 0 table
none_listed pages table e mag number low high small =
    let at : get_or table (place mag number) Unlisted ≡ Unlisted = ap (λ t. get_or t (place mag number) Unlisted) e ∙ unlisted (place mag number) in
    subst (AreSubcodes pages 0 mag number) (sym at) (λ q l. absurd (omega (arith, l.below)))
  where
    unlisted : (k : ℕ) → get_or (replicate 2048 Unlisted) k Unlisted ≡ Unlisted
    unlisted k = elim (cases_lt k 2048) as (λ _. get_or (replicate 2048 Unlisted) k Unlisted ≡ Unlisted) [
      | inl lt ↦ get_or-replicate 2048 k Unlisted Unlisted lt
      | inr ge ↦ get_or_past (replicate 2048 Unlisted) k Unlisted (omega (arith, length-replicate 2048 Unlisted))
    ]
