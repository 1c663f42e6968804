-- The waits for the items of a page, one by one.
use Rattle.std.proofs.Common.{◌≡◌, ℕ, zero, suc, ◌+◌, false, ◌==◌, if◌then◌else◌, List, [], ◌∷◌, ◌++◌, length, take, slice_get, Some, None, refl, sym}
use Rattle.std.proofs.Common.{ap, ◌∙◌, subst, inl, inr, arith, eqb-true, length-append}
use Rattle.std.proofs.lemmas.Bool.{cases_lt, cases_Bool}
use Rattle.std.proofs.lemmas.List.{append-nil, map-append}
use Rattle.std.proofs.lemmas.Option.{slice_get_within}
use Rattle.ttx_page.specs.Pages.{Page, needed}
use Rattle.ttx_page.specs.declared.item.Item.{Item}
use Rattle.ttx_page.specs.declared.item.Item.TheVariants.{Head as TheHead, Row as TheRow, Links as TheLinks}
use Rattle.ttx_page.specs.declared.class.Class.{Class}
use Rattle.ttx_witness.specs.sent.Collected.{IsItem, item_number}
use Rattle.ttx_witness.specs.Elements.{HoldsAt}
use Rattle.ttx_witness.specs.wait_times.ItemWaits.{item_at, seen_below, IsItemWait, AreItemsTold, AreItemWaits}
use Rattle.ttx_witness.specs.declared.wait_times.wait.ItemWait.{ItemWait}
use Rattle.ttx_witness.specs.declared.wait_times.wait.OwnWait.{OwnWait}
use Rattle.ttx_witness.proofs.lemmas.GrownLists.{before_here, last_here}
use Rattle.ttx_witness.proofs.lemmas.search.DueItems.{all_append}

pub item_is : (item : Item) → IsItem item → item_at (item_number item) ≡ item
item_is TheHead is = refl
item_is (TheRow zero) is = absurd (let l = is.0 in omega arith)
item_is (TheRow (suc r)) is = elim (cases_Bool (r == 24)) as (λ _. (if r == 24 then TheLinks else TheRow (suc r)) ≡ TheRow (suc r)) [
  | inl e ↦ absurd (let q : r ≡ 24 = eqb-true r 24 e in let h = is.1 in omega arith)
  | inr e ↦ ap (λ b. if b then TheLinks else TheRow (suc r)) e
]
item_is TheLinks is = refl

seen_step : (p : Page) (n : ℕ) (item : Item) → IsItem item → item_number item ≡ n → seen_below p (n + 1) ≡ seen_below p n
    ++ (if needed p item then item ∷ [] else [])
unfolding seen_below
seen_step p n item is e =
    let next : n + 1 ≡ suc n = omega arith in
    let same : item_at n ≡ item = ap item_at (sym e) ∙ item_is item is in
    ap (seen_below p) next ∙ ap (λ i. seen_below p n ++ (if needed p i then i ∷ [] else [])) same

module _ (cycle : List (List ℕ)) (p : Page) (class : Class) (repeat lines : ℕ) where
  pub nothing_told : (told : List ItemWait) → told ≡ [] → AreItemsTold cycle p class repeat lines 0 told
  unfolding seen_below
  nothing_told told e = subst (AreItemsTold cycle p class repeat lines 0) (sym e) (record { items = refl; each = tt })

  module _ (n : ℕ) (item : Item) (is : IsItem item) (number : item_number item ≡ n) (told : List ItemWait)
      (h : AreItemsTold cycle p class repeat lines n told) where
    pub item_unseen : needed p item ≡ false → AreItemsTold cycle p class repeat lines (n + 1) told
    item_unseen unseen = record {
      items = h.items ∙ sym (append-nil (seen_below p n)) ∙ ap (λ b. seen_below p n ++ (if b then item ∷ [] else [])) (sym unseen)
          ∙ sym (seen_step p n item is number);
      each = h.each;
    }

    pub item_told : (wait : OwnWait) → IsItemWait cycle p class repeat lines item wait →
        AreItemsTold cycle p class repeat lines (n + 1) (told ++ record { item = item; wait = wait } ∷ [])
    item_told wait w =
        let one : ItemWait = record { item = item; wait = wait } in
        record {
          items = map-append (λ one. one.item) told (one ∷ []) ∙ ap (λ items. items ++ item ∷ []) h.items
              ∙ ap (λ b. seen_below p n ++ (if b then item ∷ [] else [])) (sym w.seen) ∙ sym (seen_step p n item is number);
          each = all_append (λ one. IsItemWait cycle p class repeat lines one.item one.wait) told one h.each w;
        }

take_one : {A : Type 0} (xs : List A) (n : ℕ) (x : A) → slice_get xs n ≡ Some x → take n xs ++ x ∷ [] ≡ take (suc n) xs
take_one [] n x e = let h : None ≡ Some x = e in cc
take_one (y ∷ xs) zero x e = let h : y ≡ x = cc in ap (λ z. z ∷ []) (sym h)
take_one (y ∷ xs) (suc n) x e = ap (λ ys. y ∷ ys) (take_one xs n x e)

pub take_next : {A : Type 0} (xs : List A) (n : ℕ) (x : A) → slice_get xs n ≡ Some x → take n xs ++ x ∷ [] ≡ take (n + 1) xs
take_next xs n x e = take_one xs n x e ∙ ap (λ m. take m xs) (let s : suc n ≡ n + 1 = omega arith in s)

-- the items of one more page
pub page_told : (cycle : List (List ℕ)) (pages : List Page) (p : Page) (class : Class) (repeat lines : ℕ) (all : List (List ItemWait))
    (told : List ItemWait) →
    AreItemWaits cycle pages class repeat lines all → AreItemsTold cycle p class repeat lines 26 told →
    AreItemWaits cycle (pages ++ p ∷ []) class repeat lines (all ++ told ∷ [])
page_told cycle pages p class repeat lines all told h t = record {
  count = length-append all (told ∷ []) ∙ ap (λ n. n + 1) h.count ∙ sym (length-append pages (p ∷ []));
  each = λ index q at. elim (cases_lt index (length pages)) as
      (λ _. HoldsAt (List ItemWait) (all ++ told ∷ []) index (AreItemsTold cycle q class repeat lines 26)) [
        | inl low ↦
            let o = h.each index q (sym (before_here pages (p ∷ []) index low) ∙ at) in
            record { value = o.value; here = before_here all (told ∷ []) index (let c = h.count in omega arith) ∙ o.here; is = o.is }
        | inr high ↦
            let w = slice_get_within (pages ++ p ∷ []) index q at in
            let l = length-append pages (p ∷ []) in
            let end : index ≡ length pages = omega arith in
            let last : index ≡ length all = (let c = h.count in omega arith) in
            let same : p ≡ q = some_same (sym (last_here pages p) ∙ ap (slice_get (pages ++ p ∷ [])) (sym end) ∙ at) in
            record {
              value = told;
              here = ap (slice_get (all ++ told ∷ [])) last ∙ last_here all told;
              is = subst (λ x. AreItemsTold cycle x class repeat lines 26 told) same t;
            }
      ];
}
  where
    some_same : {a b : Page} → Some a ≡ Some b → a ≡ b
    some_same e = cc
