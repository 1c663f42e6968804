-- The items of pages in their places, and the entries and limits after one more item.
use Rattle.std.proofs.Common.{◌≡◌, ◌≢◌, ◌⊎◌, ℕ, zero, ◌+◌, ◌<◌, true, false, eqb-true, List, [], ◌∷◌, ◌++◌, map, get_or, slice_get, Option, Some}
use Rattle.std.proofs.Common.{None, refl, sym, ap, ◌∙◌, subst, inl, inr, arith}
use Rattle.std.specs.List.{All, AllByRecursion, AllPairs, Contains}
use Rattle.std.proofs.lemmas.List.Elements.{Contains-append_left, Contains-append_right}
use Rattle.std.proofs.lemmas.List.Quantifiers.{all_pairs_push}
use Rattle.std.proofs.lemmas.Option.{slice_get_within, get_or_from_slice_get}
use Rattle.ttx_header.specs.Ids.{same_id}
use Rattle.std.proofs.lemmas.Bool.{cases_lt, cases_Bool, and_parts, both_ways}
use Rattle.ttx_page.specs.declared.page.Page.{Page as PageValue}
use Rattle.ttx_page.specs.Views.{page_of, ids_of}
use Rattle.ttx_page.specs.Pages.{Page, needed}
use Rattle.ttx_page.specs.declared.item.Item.{Item}
use Rattle.ttx_page.specs.declared.item.Item.TheVariants.{Head as TheHead, Row as TheRow, Links as TheLinks}
use Rattle.ttx_page.specs.declared.class.Class.{Class}
use Rattle.ttx_witness.specs.sent.Collected.{IsItem, item_number, place_of_item}
use Rattle.ttx_witness.specs.search.Finding.{starts_for, limit_for, IsEnough, wider, IsDone, NamesStarts, HasEntry, same_place, AreNamed, AddsEntry}
use Rattle.ttx_certificate.specs.declared.entries.Entry.{Entry}
use Rattle.ttx_certificate.proofs.EntryOrder.{same_entry}
use Rattle.ttx_witness.proofs.lemmas.sent.PageIndexes.{same_one, id_of_page}
use Rattle.ttx_witness.proofs.lemmas.sent.AllLists.{all_by_place, all_by_recursion}
use Rattle.ttx_witness.proofs.lemmas.sent.ItemPlaces.{item_small}

abbrev pub AreApart : List Page → Type 0
AreApart pages = (i j : ℕ) (p q : Page) → slice_get pages i ≡ Some p → slice_get pages j ≡ Some q → p.id ≡ q.id → i ≡ j

-- the pages of a list whose ids are distinct
pub pages_apart : (pages : List PageValue) → AllPairs (λ a b. a ≢ b) (ids_of pages) → AreApart (map page_of pages)
pages_apart pages distinct i j p q e f same = elim (cases_lt i j) as (λ _. i ≡ j) [
  | inl low ↦ absurd (differ i j p q low e f same)
  | inr le ↦ elim (cases_lt j i) as (λ _. i ≡ j)
      [ inl high ↦ absurd (differ j i q p high f e (sym same)) | inr ge ↦ (let g : i ≡ j = omega arith in g) ]
]
  where
    differ : (i j : ℕ) (p q : Page) → i < j → slice_get (map page_of pages) i ≡ Some p → slice_get (map page_of pages) j ≡ Some q → p.id ≡ q.id → ⊥
    differ i j p q lt e f same =
        let a = id_of_page pages i p e in let b = id_of_page pages j q f in
        distinct i j p.id lt (slice_get_within (ids_of pages) j q.id b)
        (get_or_from_slice_get (ids_of pages) i p.id p.id a ∙ same ∙ sym (get_or_from_slice_get (ids_of pages) j q.id p.id b))

pub item_one : (a b : Item) → IsItem a → IsItem b → item_number a ≡ item_number b → a ≡ b
item_one TheHead TheHead x y e = refl
item_one TheHead (TheRow r) x y e = absurd (let h = y.0 in omega arith)
item_one TheHead TheLinks x y e = absurd (omega arith)
item_one (TheRow r) TheHead x y e = absurd (let h = x.0 in omega arith)
item_one (TheRow r) (TheRow s) x y e = ap TheRow e
item_one (TheRow r) TheLinks x y e = absurd (let h = x.1 in omega arith)
item_one TheLinks TheHead x y e = absurd (omega arith)
item_one TheLinks (TheRow s) x y e = absurd (let h = y.1 in omega arith)
item_one TheLinks TheLinks x y e = refl

fits_left : (a b : Option ℕ) (limit : ℕ) → IsEnough (wider a b) limit → IsEnough a limit
fits_left None b limit f = f
fits_left (Some a) None limit f = absurd f
fits_left (Some a) (Some b) limit f = omega arith

fits_right : (a b : Option ℕ) (limit : ℕ) → IsEnough (wider a b) limit → IsEnough b limit
fits_right None b limit f = absurd f
fits_right (Some a) None limit f = f
fits_right (Some a) (Some b) limit f = omega arith

fits_both : (a b : Option ℕ) (limit : ℕ) → IsEnough a limit → IsEnough b limit → IsEnough (wider a b) limit
fits_both None b limit f g = f
fits_both (Some a) None limit f g = g
fits_both (Some a) (Some b) limit f g = omega arith

pub all_more : {A : Type 0} (P Q : A → Type 0) → ((x : A) → P x → Q x) → (xs : List A) → All P xs → All Q xs
all_more P Q f xs a k d lt = f (get_or xs k d) (a k d lt)

pub all_append : {A : Type 0} (P : A → Type 0) (xs : List A) (x : A) → AllByRecursion P xs → P x → AllByRecursion P (xs ++ x ∷ [])
all_append P [] x a p = (p, tt)
all_append P (y ∷ ys) x a p = (a.0, all_append P ys x a.1 p)

all_push : {A : Type 0} (P : A → Type 0) (xs : List A) (x : A) → All P xs → P x → All P (xs ++ x ∷ [])
all_push P xs x a p = all_by_place P (xs ++ x ∷ []) (all_append P xs x (all_by_recursion P xs a) p)

module _ (pages : List Page) (class : Class) (m j : ℕ) (q : Page) (given : Item) (at : slice_get pages j ≡ Some q) (is : IsItem given)
    (here : place_of_item j given ≡ m) where
  pub done_more : (i : ℕ) (p : Page) (item : Item) → IsDone pages m i p item → IsDone pages (m + 1) i p item
  done_more i p item d = record { at = d.at; is = d.is; seen = d.seen; before = let b = d.before in omega arith }

  pub record IsLast (i : ℕ) (p : Page) (item : Item) : Type 0 where
    pub index : i ≡ j
    pub of_page : p ≡ q
    pub of_item : item ≡ given

  pub done_cases : (i : ℕ) (p : Page) (item : Item) → IsDone pages (m + 1) i p item → IsDone pages m i p item ⊎ IsLast i p item
  done_cases i p item d = elim (cases_lt (place_of_item i item) m) as (λ _. IsDone pages m i p item ⊎ IsLast i p item) [
    | inl low ↦ inl (record { at = d.at; is = d.is; seen = d.seen; before = low })
    | inr high ↦
        let b = d.before in let r = item_small item d.is in let s = item_small given is in
        let index : i ≡ j = omega arith in
        let number : item_number item ≡ item_number given = omega arith in
        let there : slice_get pages j ≡ Some p = subst (λ n. slice_get pages n ≡ Some p) index d.at in
        let same : p ≡ q = cc in
        inr (record { index = index; of_page = same; of_item = item_one item given d.is is number })
  ]

  module _ (cycle : List (List ℕ)) (lines repeat : ℕ) where
    -- no earlier entry is in the place of an entry of this item
    new_place : AreApart pages → (e n : Entry) → NamesStarts cycle pages class lines repeat m e → n.page ≡ q.id → n.item ≡ given →
        same_place e n ≡ false
    new_place apart e n t page item = elim (cases_Bool (same_place e n)) as (λ _. same_place e n ≡ false) [
      | inl same ↦
          let one = same_entry n.page n.item n.kept.id n.kept.item e (eqb-true _ _ same) in
          let id : t.p.id ≡ q.id = sym t.page ∙ same_one e.page n.page ((and_parts _ _ one).0) ∙ page in
          let index : t.index ≡ j = apart t.index j t.p q t.done.at at id in
          let number : item_number e.item ≡ item_number given = eqb-true _ _ ((and_parts (same_id e.page n.page) _ one).1) ∙ ap item_number item in
          let before = t.done.before in
          absurd (omega arith)
      | inr other ↦ other
    ]

    told_more : (e : Entry) → NamesStarts cycle pages class lines repeat m e → NamesStarts cycle pages class lines repeat (m + 1) e
    told_more e t = record { index = t.index; p = t.p; done = done_more t.index t.p e.item t.done; page = t.page; starts = t.starts }

    pub nothing_named : (entries : List Entry) (least : Option ℕ) → needed q given ≡ false →
        AreNamed cycle pages class lines repeat m entries least → AreNamed cycle pages class lines repeat (m + 1) entries least
    nothing_named entries least not_seen a = record {
      told = all_more (NamesStarts cycle pages class lines repeat m) (NamesStarts cycle pages class lines repeat (m + 1)) told_more entries a.told;
      apart = a.apart;
      kept = λ i p item d. elim (done_cases i p item d) as (λ _. (starts_for cycle class lines repeat p item ≡ []) ⊎ HasEntry entries p.id item)
          [ inl b ↦ a.kept i p item b | inr l ↦ absurd (not_last i p item d l) ];
      least_to = λ limit f i p item d. elim (done_cases i p item d) as (λ _. IsEnough (limit_for cycle class lines repeat p item) limit)
          [ inl b ↦ a.least_to limit f i p item b | inr l ↦ absurd (not_last i p item d l) ];
      least_from = λ limit f. a.least_from limit (λ i p item d. f i p item (done_more i p item d));
    }
      where
        not_last : (i : ℕ) (p : Page) (item : Item) → IsDone pages (m + 1) i p item → IsLast i p item → ⊥
        not_last i p item d l = both_ways (needed q given) not_seen
            (subst (λ x. needed q x ≡ true) l.of_item (subst (λ x. needed x item ≡ true) l.of_page d.seen))

    pub one_named : AreApart pages → (old new : List Entry) (least limit_here : Option ℕ) → needed q given ≡ true →
        AddsEntry old new q.id given (starts_for cycle class lines repeat q given) →
        limit_here ≡ limit_for cycle class lines repeat q given → AreNamed cycle pages class lines repeat m old least →
        AreNamed cycle pages class lines repeat (m + 1) new (wider least limit_here)
    one_named distinct old new least limit_here seen adds e a = record {
      told = told_now adds;
      apart = apart_now adds;
      kept = λ i p item d. elim (done_cases i p item d) as (λ _. (starts_for cycle class lines repeat p item ≡ []) ⊎ HasEntry new p.id item) [
        | inl b ↦ kept_before adds p item (a.kept i p item b)
        | inr l ↦ subst (λ x. (starts_for cycle class lines repeat p x ≡ []) ⊎ HasEntry new p.id x) (sym l.of_item)
            (subst (λ x. (starts_for cycle class lines repeat x given ≡ []) ⊎ HasEntry new x.id given) (sym l.of_page)
            (kept_now adds))
      ];
      least_to = λ limit f i p item d. elim (done_cases i p item d) as (λ _. IsEnough (limit_for cycle class lines repeat p item) limit) [
        | inl b ↦ a.least_to limit (fits_left least limit_here limit f) i p item b
        | inr l ↦ subst (λ x. IsEnough (limit_for cycle class lines repeat p x) limit) (sym l.of_item)
            (subst (λ x. IsEnough (limit_for cycle class lines repeat x given) limit) (sym l.of_page)
            (subst (λ x. IsEnough x limit) e (fits_right least limit_here limit f)))
      ];
      least_from = λ limit f. fits_both least limit_here limit (a.least_from limit (λ i p item d. f i p item (done_more i p item d)))
          (subst (λ x. IsEnough x limit) (sym e) (f j q given done_here));
    }
      where
        done_here : IsDone pages (m + 1) j q given
        done_here = record { at = at; is = is; seen = seen; before = omega arith }

        told_now : AddsEntry old new q.id given (starts_for cycle class lines repeat q given) →
            All (NamesStarts cycle pages class lines repeat (m + 1)) new
        told_now (inl n) = subst (All (NamesStarts cycle pages class lines repeat (m + 1))) (sym n.1)
            (all_more (NamesStarts cycle pages class lines repeat m)
            (NamesStarts cycle pages class lines repeat (m + 1)) told_more old a.told)
        told_now (inr n) = subst (All (NamesStarts cycle pages class lines repeat (m + 1))) (sym n.1)
            (all_push (NamesStarts cycle pages class lines repeat (m + 1)) old n.0
            (all_more (NamesStarts cycle pages class lines repeat m)
            (NamesStarts cycle pages class lines repeat (m + 1)) told_more old a.told)
            (record {
              index = j;
              p = q;
              done = subst (IsDone pages (m + 1) j q) (sym n.3) done_here;
              page = n.2;
              starts = n.4
                  ∙ ap (starts_for cycle class lines repeat q) (sym n.3);
            }))

        apart_now : AddsEntry old new q.id given (starts_for cycle class lines repeat q given) → AllPairs (λ x y. same_place x y ≡ false) new
        apart_now (inl n) = subst (AllPairs (λ x y. same_place x y ≡ false)) (sym n.1) a.apart
        apart_now (inr n) = subst (AllPairs (λ x y. same_place x y ≡ false)) (sym n.1)
            (all_pairs_push (λ x y. same_place x y ≡ false) old n.0 a.apart
            (λ k d lt. new_place distinct (get_or old k d) n.0 (a.told k d lt) n.2 n.3))

        kept_before : AddsEntry old new q.id given (starts_for cycle class lines repeat q given) → (p : Page) (item : Item) →
            (starts_for cycle class lines repeat p item ≡ []) ⊎ HasEntry old p.id item →
            (starts_for cycle class lines repeat p item ≡ []) ⊎ HasEntry new p.id item
        kept_before adds p item (inl e) = inl e
        kept_before (inl n) p item (inr h) = inr (subst (λ x. HasEntry x p.id item) (sym n.1) h)
        kept_before (inr n) p item (inr h) = inr
            (record {
              entry = h.entry;
              among = subst (λ x. Contains x h.entry) (sym n.1)
                  (Contains-append_left old (n.0 ∷ []) h.entry h.among);
              of_page = h.of_page;
              of_item = h.of_item;
            })

        kept_now : AddsEntry old new q.id given (starts_for cycle class lines repeat q given) →
            (starts_for cycle class lines repeat q given ≡ []) ⊎ HasEntry new q.id given
        kept_now (inl n) = inl n.0
        kept_now (inr n) = inr (record {
          entry = n.0;
          among = subst (λ x. Contains x n.0) (sym n.1) (Contains-append_right old (n.0 ∷ []) n.0 (zero, (omega arith), refl));
          of_page = n.2;
          of_item = n.3;
        })
