-- The facts of pages; one slot changes those of at most one page.
use Rattle.std.proofs.Common.{◌≡◌, ◌⊎◌, ℕ, ◌<◌, ◌≤◌, pos, Bool, true, false, ◌&&◌, ◌==◌, List, length, map, set, slice_get, Some, refl}
use Rattle.std.proofs.Common.{sym, ap, ◌∙◌, subst, inl, inr, arith, eqb-true, eq-eqb}
use Rattle.std.proofs.lemmas.Bool.{cases_Bool, both_ways}
use Rattle.std.proofs.lemmas.List.{length-map}
use Rattle.std.proofs.lemmas.Option.{slice_get_within}
use Rattle.ttx_page.specs.Pages.{Page}
use Rattle.ttx_page.specs.Views.{page_of}
use Rattle.ttx_page.specs.declared.page.Page.{Page as PageValue}
use Rattle.ttx_page.specs.declared.item.Item.{Item}
use Rattle.ttx_page.specs.declared.item.Item.TheVariants.{Head as TheHead}
use Rattle.ttx_witness.specs.sent.Collected.{item_number}
use Rattle.ttx_witness.proofs.FirstFaults.{after_none, placed}
use Rattle.ttx_certify.specs.declared.walks.page_facts.Facts.{Facts}
use Rattle.ttx_witness.specs.declared.sent.one_slot.Sent.{Sent}
use Rattle.ttx_witness.specs.sent.OneSlot.{is_sent}
use Rattle.ttx_witness.specs.Elements.{HoldsAt}
use Rattle.ttx_certify.specs.walks.PageFacts.{Noted, heads_after}
use Rattle.ttx_certify.proofs.walk_lemmas.ChangedPlaces.{set_here, set_other}

noted_none : (limit : ℕ) (p : Page) (sends : Item → Bool) (slot : List ℕ) (j : ℕ) (x : Facts) →
    ((item : Item) → sends item ≡ false) → Noted limit p sends slot j x x
noted_none limit p sends slot j x none = record {
  heads = ap (λ b. heads_after limit (pos j) b x.heads) (sym (none TheHead));
  first = after_none p sends slot j x.first none;
}

and_true : (a b : Bool) → b ≡ true → a ≡ (a && b)
and_true true b e = sym e
and_true false b e = refl

and_false : (a b : Bool) → b ≡ false → (a && b) ≡ false
and_false true b e = e
and_false false b e = refl

module _ (limit : ℕ) (pages : List PageValue) (s : Sent) (slot : List ℕ) (j : ℕ) (all : List Facts) where
  -- the facts of another page
  pub noted_other : (i : ℕ) (p : Page) (x : Facts) → (s.page ≡ i → ⊥) → Noted limit p (λ item. is_sent i item (Some s)) slot j x x
  noted_other i p x d = noted_none limit p (λ item. is_sent i item (Some s)) slot j x
      (λ item. and_false (item_number item == s.number) (s.page == i)
      (elim (cases_Bool (s.page == i)) as (λ _. (s.page == i) ≡ false) [ inl e ↦ absurd (d (eqb-true _ _ e)) | inr e ↦ e ]))

  -- the facts of the page itself
  pub noted_here : (q : Page) (old new : Facts) → slice_get (map page_of pages) s.page ≡ Some q → slice_get all s.page ≡ Some old →
      s.page < length all → Noted limit q (λ item. item_number item == s.number) slot j old new →
      (i : ℕ) (p : Page) (x : Facts) → slice_get (map page_of pages) i ≡ Some p → slice_get all i ≡ Some x →
      HoldsAt Facts (set all s.page new) i (Noted limit p (λ item. is_sent i item (Some s)) slot j x)
  noted_here q old new at_q at_old lt n i p x at here =
      elim (cases_Bool (s.page == i)) as
      (λ _. HoldsAt Facts (set all s.page new) i (Noted limit p (λ item. is_sent i item (Some s)) slot j x)) [
        | inl e ↦
            let same : s.page ≡ i = eqb-true _ _ e in
            let page : q ≡ p = placed _ q p at_q (ap (slice_get (map page_of pages)) same ∙ at) in
            let fact : old ≡ x = placed _ old x at_old (ap (slice_get all) same ∙ here) in
            record {
              value = new;
              here = ap (slice_get (set all s.page new)) (sym same) ∙ set_here all s.page new lt;
              is = subst (λ sends. Noted limit p sends slot j x new) (λ k item. and_true (item_number item == s.number) (s.page == i) e k)
                  (subst (λ y. Noted limit p (λ item. item_number item == s.number) slot j y new) fact
                  (subst (λ y. Noted limit y (λ item. item_number item == s.number) slot j old new) page n));
            }
        | inr e ↦ record {
          value = x;
          here = set_other all s.page i new (λ q. both_ways _ e (eq-eqb s.page i (sym q))) ∙ here;
          is = noted_other i p x (λ q. both_ways _ e (eq-eqb s.page i q));
        }
      ]

  -- the slot sends nothing of a listed page
  pub noted_past : (length all ≤ s.page) ⊎ (length pages ≤ s.page) → (i : ℕ) (p : Page) (x : Facts) → slice_get (map page_of pages) i
      ≡ Some p → slice_get all i ≡ Some x →
      HoldsAt Facts all i (Noted limit p (λ item. is_sent i item (Some s)) slot j x)
  noted_past past i p x at here = record {
    value = x;
    here = here;
    is = noted_other i p x (λ e. elim past as (λ _. ⊥) [
      | inl le ↦ let w = slice_get_within all i x here in absurd (omega arith)
      | inr le ↦ let w = slice_get_within (map page_of pages) i p at in let l = length-map pages page_of in absurd (omega arith)
    ]);
  }
