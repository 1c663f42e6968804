-- What a slot sends, by the places of the items of pages.
use Rattle.std.proofs.Common.{◌≡◌, ℕ, nat_lt, Option, None, ap, ◌+◌, ◌*◌, ◌<◌, Bool, true, false, ◌&&◌, ◌==◌, if◌then◌else◌, List, [], ◌∷◌, ◌++◌}
use Rattle.std.proofs.Common.{Some, refl, sym, ◌∙◌, inl, inr, arith, eqb-true, eq-eqb}
use Rattle.std.proofs.lemmas.Bool.{cases_lt, cases_Bool, and_parts, both_ways}
use Rattle.std.proofs.lemmas.Bool.Decides.{nat_tests}
use Rattle.std.proofs.lemmas.List.{append-nil}
use Rattle.ttx_page.specs.declared.item.Item.{Item}
use Rattle.ttx_page.specs.declared.item.Item.TheVariants.{Head as TheHead, Row as TheRow, Links as TheLinks}
use Rattle.ttx_witness.specs.sent.Collected.{IsItem, item_number, place_of_item}
use Rattle.ttx_witness.specs.sent.OneSlot.{sent_of, sends_place, placed_at}
use Rattle.ttx_witness.specs.declared.runs.transmissions.Transmission.{Transmission}
use Rattle.ttx_witness.specs.declared.sent.one_slot.Sent.{Sent}

pub item_small : (item : Item) → IsItem item → item_number item < 26
item_small TheHead is = omega arith
item_small (TheRow r) is = let h = is.1 in omega arith
item_small TheLinks is = omega arith

bool_same : (a b : Bool) → (a ≡ true → b ≡ true) → (b ≡ true → a ≡ true) → a ≡ b
bool_same true true f g = refl
bool_same true false f g = sym (f refl)
bool_same false true f g = g refl
bool_same false false f g = refl

pub same_place : (i page number : ℕ) (item : Item) → IsItem item → number < 26 → (place_of_item i item == 26 * page + number)
    ≡ ((item_number item == number) && (page == i))
same_place i page number item is lt = bool_same _ _
    (λ e.
    let q : place_of_item i item ≡ 26 * page + number = eqb-true _ _ e in
    let s = item_small item is in
    let a : item_number item ≡ number = omega arith in
    let b : page ≡ i = omega arith in
    rw (eq-eqb _ _ a) (eq-eqb _ _ b))
    (λ e. elim (cases_Bool (item_number item == number)) as (λ _. (place_of_item i item == 26 * page + number) ≡ true) [
      | inl p ↦
          let a : item_number item ≡ number = eqb-true _ _ p in
          let b : page ≡ i = eqb-true _ _ ((and_parts (item_number item == number) (page == i) e).1) in
          let r : place_of_item i item ≡ 26 * page + number = omega arith in
          eq-eqb _ _ r
      | inr p ↦ absurd (both_ways _ p ((and_parts (item_number item == number) (page == i) e).0))
    ])

-- a place, from page and item number
pub placed_item : (i : ℕ) (item : Item) → IsItem item → (sent : Option Sent) → placed_at (place_of_item i item) sent ≡ sent_of i item sent
placed_item i item is None = refl
placed_item i item is (Some s) = elim (cases_lt s.number 26) as (λ _. placed_at (place_of_item i item) (Some s) ≡ sent_of i item (Some s)) [
  | inl lt ↦
      let small : nat_lt s.number 26 ≡ true = grind (arith, nat_tests) in
      ap (λ b. if b && (place_of_item i item == 26 * s.page + s.number) then s.transmission ∷ [] else []) small
      ∙ ap (λ b. if b then s.transmission ∷ [] else []) (same_place i s.page s.number item is lt)
  | inr ge ↦
      let large : nat_lt s.number 26 ≡ false = grind (arith, nat_tests) in
      let h = item_small item is in
      let other : (item_number item == s.number) ≡ false = differ (item_number item) s.number (omega arith) in
      ap (λ b. if b && (place_of_item i item == 26 * s.page + s.number) then s.transmission ∷ [] else []) large
      ∙ ap (λ b. if b && (s.page == i) then s.transmission ∷ [] else []) (sym other)
]
  where
    differ : (m n : ℕ) → m < n → (m == n) ≡ false
    differ m n lt = elim (cases_Bool (m == n)) as
        (λ _. (m == n) ≡ false) [ inl e ↦ (let q : m ≡ n = eqb-true m n e in absurd (omega arith)) | inr e ↦ e ]

-- a slot sends at most one place
pub one_place : (m n : ℕ) (sent : Option Sent) → sends_place m sent ≡ true → sends_place n sent ≡ true → m ≡ n
one_place m n None e f = cc
one_place m n (Some s) e f = eqb-true _ _ ((and_parts (nat_lt s.number 26) _ e).1) ∙ sym (eqb-true _ _ ((and_parts (nat_lt s.number 26) _ f).1))

-- a list that grows by what is sent, if this is the item of its place
pub placed_added : (place n : ℕ) (s : Sent) (ts : List Transmission) → sends_place place (Some s) ≡ true →
    (if n == place then ts ++ s.transmission ∷ [] else ts) ≡ ts ++ placed_at n (Some s)
placed_added place n s ts here = elim (cases_Bool (n == place)) as
    (λ _. (if n == place then ts ++ s.transmission ∷ [] else ts) ≡ ts ++ placed_at n (Some s)) [
      | inl e ↦
          let sends : sends_place n (Some s) ≡ true = ap (λ m. sends_place m (Some s)) (eqb-true n place e) ∙ here in
          rw e (ap (λ b. ts ++ (if b then s.transmission ∷ [] else [])) (sym sends))
      | inr e ↦
          let silent = never n (λ sends. both_ways (n == place) e (eq-eqb n place (one_place n place (Some s) sends here))) in
          rw e (sym (append-nil ts) ∙ ap (λ b. ts ++ (if b then s.transmission ∷ [] else [])) (sym silent))
    ]
  where
    never : (n : ℕ) → (sends_place n (Some s) ≡ true → ⊥) → sends_place n (Some s) ≡ false
    never n f = elim (cases_Bool (sends_place n (Some s))) as (λ _. sends_place n (Some s) ≡ false) [ inl e ↦ absurd (f e) | inr e ↦ e ]
