-- Services whose pages may be sent more often than in others.
use Rattle.std.proofs.Common.{◌≡◌, ◌⊎◌, ℕ, zero, suc, ◌+◌, ◌<◌, List, [], ◌∷◌, Some, None}
use Rattle.std.proofs.Common.{refl, ap, subst, arith, inl, inr, ◌∙◌}
use Rattle.ttx_source.specs.Promises.{PromiseFields}
use Rattle.ttx_source.specs.Services.{Authored, often_set, ServiceFields, with_often}
use Rattle.ttx_promise.specs.Promises.{MayRise, IsRaisedAt, AreRaised, IsRaised}
use Rattle.ttx_promise.proofs.PageOften.{IsSentSo}

same_page : (promises : List PromiseFields) (k : ℕ) (page : Authored) → IsRaisedAt promises k page page
same_page promises k page = record { page = refl; often = inl refl }

same_pages : (promises : List PromiseFields) (k : ℕ) (pages : List Authored) → AreRaised promises k pages pages
same_pages promises k [] = tt
same_pages promises k (page ∷ pages) = (same_page promises k page, same_pages promises (1 + k) pages)

pub same_service : (promises : List PromiseFields) (service : ServiceFields) → IsRaised promises service service
same_service promises service = record { lines = refl; serial = refl; info = refl; pages = same_pages promises 0 service.pages }

one_page : (promises : List PromiseFields) (k : ℕ) (pages : List Authored) (i often more : ℕ) → MayRise promises (k + i) →
    IsSentSo pages i often → often < more → AreRaised promises k pages (often_set pages i more)
one_page promises k [] i often more may s lt = let f : None ≡ Some s.page = s.at in cc
one_page promises k (p ∷ pages) zero often more may s lt =
    let f : Some p ≡ Some s.page = s.at in
    let g : p ≡ s.page = cc in
    let h : p.often ≡ often = ap (λ (q : Authored). q.often) g ∙ s.is in
    let n : k + 0 ≡ k = omega arith in
    (record { page = refl; often = inr (subst (MayRise promises) n may, omega (arith, h, lt)) }, same_pages promises (1 + k) pages)
one_page promises k (p ∷ pages) (suc i) often more may s lt =
    let n : k + suc i ≡ (1 + k) + i = omega arith in (
      same_page promises k p,
      one_page promises (1 + k) pages i often more (subst (MayRise promises) n may) (record { page = s.page; at = s.at; is = s.is }) lt,
    )

pub one_raised : (promises : List PromiseFields) (service : ServiceFields) (i often more : ℕ) → MayRise promises i →
    IsSentSo service.pages i often → often < more → IsRaised promises service (with_often service i more)
one_raised promises service i often more may s lt = record {
  lines = refl;
  serial = refl;
  info = refl;
  pages =
      let n : i ≡ 0 + i = omega arith in
      one_page promises 0 service.pages i often more (subst (MayRise promises) n may) s lt;
}

further_page : (promises : List PromiseFields) (k : ℕ) (a b c : Authored) → IsRaisedAt promises k a b → IsRaisedAt promises k b c →
    IsRaisedAt promises k a c
further_page promises k a b c f s = record {
  page = s.page ∙ f.page;
  often = elim s.often as (λ _. (c.often ≡ a.often) ⊎ MayRise promises k × (a.often < c.often)) [
    | inl same ↦ elim f.often as (λ _. (c.often ≡ a.often) ⊎ MayRise promises k × (a.often < c.often)) [
      | inl before ↦ inl (same ∙ before)
      | inr less ↦ let lt = less.1 in inr (less.0, omega (arith, same, lt))
    ]
    | inr more ↦ elim f.often as (λ _. (c.often ≡ a.often) ⊎ MayRise promises k × (a.often < c.often)) [
      | inl before ↦ let lt = more.1 in inr (more.0, omega (arith, before, lt))
      | inr less ↦ let lt = more.1 in let less_lt = less.1 in inr (more.0, omega (arith, lt, less_lt))
    ]
  ];
}

further_pages : (promises : List PromiseFields) (k : ℕ) (xs ys zs : List Authored) → AreRaised promises k xs ys → AreRaised promises k ys zs →
    AreRaised promises k xs zs
further_pages promises k [] [] [] f s = tt
further_pages promises k [] [] (z ∷ zs) f s = absurd s
further_pages promises k [] (y ∷ ys) zs f s = absurd f
further_pages promises k (x ∷ xs) [] zs f s = absurd f
further_pages promises k (x ∷ xs) (y ∷ ys) [] f s = absurd s
further_pages promises k (x ∷ xs) (y ∷ ys) (z ∷ zs) f s =
    (further_page promises k x y z f.0 s.0, further_pages promises (1 + k) xs ys zs f.1 s.1)

pub further_raised : (promises : List PromiseFields) (a b c : ServiceFields) → IsRaised promises a b → IsRaised promises b c →
    IsRaised promises a c
further_raised promises a b c f s = record {
  lines = s.lines ∙ f.lines;
  serial = s.serial ∙ f.serial;
  info = s.info ∙ f.info;
  pages = further_pages promises 0 a.pages b.pages c.pages f.pages s.pages;
}
