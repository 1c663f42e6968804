-- The first true reason of the items of a page, item by item.
use Rattle.std.proofs.Common.{◌≡◌, ◌⊎◌, ℕ, ◌+◌, ◌<◌, ◌≤◌, nat_lt, Bool, true, false, if◌then◌else◌, Option, Some, None, List, refl, sym, ap, subst}
use Rattle.std.proofs.Common.{inl, inr, arith, leb-true}
use Rattle.std.proofs.lemmas.Bool.{cases_lt, and_parts}
use Rattle.std.proofs.lemmas.Bool.Decides.{nat_tests}
use Rattle.ttx_header.specs.Ids.{Id}
use Rattle.ttx_page.specs.Pages.{Page, needed}
use Rattle.ttx_page.specs.declared.item.Item.{Item}
use Rattle.ttx_page.specs.declared.item.Item.TheVariants.{Head as TheHead, Row as TheRow, Links as TheLinks}
use Rattle.ttx_witness.specs.sent.Collected.{item_number, IsItem}
use Rattle.ttx_witness.specs.Coverage.{Certificate}
use Rattle.ttx_witness.specs.faults.Faults.{IsWitnessFault}
use Rattle.ttx_witness.specs.faults.Reasons.{HasNoWitness, WitnessBadAt, LateAt, LateBlankAt}
use Rattle.ttx_witness.specs.declared.faults.reason.Reason.{Reason}
use Rattle.ttx_witness.specs.declared.faults.reason.Reason.TheVariants.{NoWitness, WitnessBad, Late, LateBlank}
use Rattle.ttx_certify.specs.ItemReasons.{reason_number, start_in, IsTrueOf, IsFine, IsFirstReason, IsItemReason, IsFirstBelow, IsReasonBelow}
use Rattle.ttx_certify.specs.ItemReasons.{IsReasonAt, told_first}
use Rattle.ttx_certify.proofs.OneItem.{of_four, true_needed}

-- what a viewer sees is an item of the page
pub needed_item : (p : Page) (item : Item) → needed p item ≡ true → IsItem item
needed_item p TheHead h = tt
needed_item p (TheRow r) h =
    let a = (and_parts _ _ (and_parts _ _ (and_parts _ _ h).0).0).0 in
    let b = (and_parts _ _ (and_parts _ _ (and_parts _ _ h).0).0).1 in
    (leb-true 1 r a, leb-true r 24 b)
needed_item p TheLinks h = tt

pub item_within : (item : Item) → IsItem item → item_number item < 26
item_within TheHead i = omega arith
item_within (TheRow r) i = let b = i.1 in omega arith
item_within TheLinks i = omega arith

-- an item is known by its number
pub one_item : (a b : Item) → IsItem a → IsItem b → item_number a ≡ item_number b → a ≡ b
one_item TheHead TheHead i j e = refl
one_item TheHead (TheRow r) i j e = let l = j.0 in absurd (omega arith)
one_item TheHead TheLinks i j e = absurd (omega arith)
one_item (TheRow r) TheHead i j e = let l = i.0 in absurd (omega arith)
one_item (TheRow r) (TheRow q) i j e = ap TheRow e
one_item (TheRow r) TheLinks i j e = let l = i.1 in absurd (omega arith)
one_item TheLinks TheHead i j e = absurd (omega arith)
one_item TheLinks (TheRow r) i j e = let l = j.1 in absurd (omega arith)
one_item TheLinks TheLinks i j e = refl

module _ (cycle : List (List ℕ)) (p : Page) (w : Certificate) where
  abbrev T : Item → Reason → Type 0
  T = IsTrueOf cycle p w

  abbrev Fine : Item → Type 0
  Fine = IsFine cycle p w

  need_of : (item : Item) (reason : Reason) → T item reason → needed p item ≡ true
  need_of = true_needed cycle p w

  -- an item that is not one of the page
  not_fine : (item : Item) → (needed p item ≡ true → Fine item) → Fine item
  not_fine item f = record {
    none = λ reason t. (f (need_of item reason t)).none reason t;
    covered = λ need. (f need).covered need;
  }

  module _ (n : ℕ) (own : Item) (is : IsItem own) (place : item_number own ≡ n) where
    -- an item whose number is below n + 1 is this one, or its number is below n
    abbrev At : Item → Type 0
    At item = (item_number item < n) ⊎ (needed p item ≡ true → own ≡ item)

    before_or : (item : Item) → item_number item < n + 1 → At item
    before_or item lt = elim (cases_lt (item_number item) n) as (λ _. At item) [
      | inl less ↦ inl less
      | inr ge ↦ inr (λ need. one_item own item is (needed_item p item need) (omega arith))
    ]

    fine_more : IsReasonBelow cycle p w n None → Fine own → IsReasonBelow cycle p w (n + 1) None
    fine_more a f = λ item lt. elim (before_or item lt) as (λ _. Fine item)
        [ inl less ↦ a item less | inr same ↦ not_fine item (λ need. subst Fine (same need) f) ]

    keep_more : (e : Reason) → IsFirstBelow cycle p w n e →
        ((other : Reason) → T own other → reason_number other < reason_number e → ⊥) → IsFirstBelow cycle p w (n + 1) e
    keep_more e a none = record {
      item = a.item;
      within = let l = a.within in omega arith;
      first = a.first;
      no_item = a.no_item;
      no_number = λ item other t lt less. elim (before_or item lt) as (λ _. ⊥) [
        | inl low ↦ a.no_number item other t low less
        | inr same ↦ none other (subst (λ x. T x other) (sym (same (need_of item other t))) t) less
      ];
    }

    take_new : (f : Reason) → IsFirstReason cycle p w own f →
        ((item : Item) (other : Reason) → T item other → item_number item < n → reason_number other ≤ reason_number f → ⊥) →
        IsFirstBelow cycle p w (n + 1) f
    take_new f a none = record {
      item = own;
      within = omega arith;
      first = a;
      no_item = λ item other t lt same. none item other t (omega arith) (omega arith);
      no_number = λ item other t lt less. elim (before_or item lt) as (λ _. ⊥) [
        | inl low ↦ none item other t low (omega arith)
        | inr same ↦ a.no_number other (subst (λ x. T x other) (sym (same (need_of item other t))) t) less
      ];
    }

    choose : (earlier next : Option Reason) → IsReasonBelow cycle p w n earlier → IsItemReason cycle p w own next →
        IsReasonBelow cycle p w (n + 1) (told_first earlier next)
    choose None None a f = fine_more a f
    choose (Some e) None a f = keep_more e a (λ other t less. f.none other t)
    choose None (Some f) a b = take_new f b (λ item other t lt le. (a item lt).none other t)
    choose (Some e) (Some f) a b = pick (nat_lt (reason_number f) (reason_number e)) refl
      where
        pick : (c : Bool) → nat_lt (reason_number f) (reason_number e) ≡ c → IsReasonBelow cycle p w (n + 1) (if c then Some f else Some e)
        pick true q =
            let less : reason_number f < reason_number e = grind (arith, nat_tests) in
            take_new f b (λ item other t lt le. a.no_number item other t lt (omega arith))
        pick false q =
            let ge : reason_number e ≤ reason_number f = grind (arith, nat_tests) in
            keep_more e a (λ other t low. b.no_number other t (omega arith))

  pub reason_more : (n : ℕ) (earlier next : Option Reason) → IsReasonBelow cycle p w n earlier → IsReasonAt cycle p w n next →
      IsReasonBelow cycle p w (n + 1) (told_first earlier next)
  reason_more n earlier next a f = choose n f.item f.is f.place earlier next a f.first

  pub no_reason : IsReasonBelow cycle p w 0 None
  no_reason = λ item lt. absurd (omega arith)

  -- no reason with a smaller number is true of any item
  none_less : (reason : Reason) → IsFirstBelow cycle p w 26 reason → (item : Item) (other : Reason) → T item other →
      reason_number other < reason_number reason → ⊥
  none_less reason a item other t lt = a.no_number item other t (item_within item (needed_item p item (need_of item other t))) lt

  first_fault : (reason : Reason) → IsFirstBelow cycle p w 26 reason → IsWitnessFault cycle p w (Some reason)
  first_fault reason a = of_four cycle p w a.item
      (λ r. r ≡ reason → IsWitnessFault cycle p w (Some r)) no_witness bad late blank reason a.first.here refl
    where
      no_witness : (page : Id) (of : Item) → page ≡ p.id → of ≡ a.item → HasNoWitness p w a.item → NoWitness page of ≡ reason →
          IsWitnessFault cycle p w (Some (NoWitness page of))
      no_witness page of e f h q = (
        e,
        record {
          here = subst (HasNoWitness p w) (sym f) h;
          none_before = λ other lt k. a.no_item other (NoWitness p.id other) (refl, refl, k)
              (subst (λ x. item_number other < item_number x) f lt) (ap reason_number q);
        },
      )

      bad : (page : Id) (of : Item) (start : ℕ) → page ≡ p.id → of ≡ a.item → WitnessBadAt cycle p w a.item start →
          WitnessBad page of start ≡ reason →
          IsWitnessFault cycle p w (Some (WitnessBad page of start))
      bad page of start e f h q = let number : 9 ≡ reason_number reason = ap reason_number q in let at : start ≡ start_in reason = ap start_in q in (
        e,
        (λ item k. none_less reason a item (NoWitness p.id item) (refl, refl, k) (omega arith)),
        record {
          here = subst (λ x. WitnessBadAt cycle p w x start) (sym f) h;
          none_before = λ other lt k. a.first.no_start (WitnessBad p.id a.item other)
              (refl, refl, subst (λ x. WitnessBadAt cycle p w x other) f k) number (omega arith);
          no_item_before = λ other any lt k. a.no_item other (WitnessBad p.id other any) (refl, refl, k)
              (subst (λ x. item_number other < item_number x) f lt) number;
        },
      )

      late : (page : Id) (of : Item) (start : ℕ) → page ≡ p.id → of ≡ a.item → LateAt cycle p w a.item start → Late page of start
          ≡ reason → IsWitnessFault cycle p w (Some (Late page of start))
      late page of start e f h q = let number : 10 ≡ reason_number reason = ap reason_number q in let at : start ≡ start_in reason =
          ap start_in q in (
            e,
            (λ item k. none_less reason a item (NoWitness p.id item) (refl, refl, k) (omega arith)),
            (λ item other k. none_less reason a item (WitnessBad p.id item other) (refl, refl, k) (omega arith)),
            record {
              here = subst (λ x. LateAt cycle p w x start) (sym f) h;
              none_before = λ other lt k. a.first.no_start (Late p.id a.item other)
                  (refl, refl, subst (λ x. LateAt cycle p w x other) f k) number (omega arith);
              no_item_before = λ other any lt k. a.no_item other (Late p.id other any) (refl, refl, k)
                  (subst (λ x. item_number other < item_number x) f lt) number;
            },
          )

      blank : (page : Id) (of : Item) (header : ℕ) → page ≡ p.id → of ≡ a.item → LateBlankAt cycle p w a.item header →
          LateBlank page of header ≡ reason →
          IsWitnessFault cycle p w (Some (LateBlank page of header))
      blank page of header e f h q = let number : 12 ≡ reason_number reason = ap reason_number q in let at : header ≡ start_in reason =
          ap start_in q in (
            e,
            (λ item k. none_less reason a item (NoWitness p.id item) (refl, refl, k) (omega arith)),
            (λ item other k. none_less reason a item (WitnessBad p.id item other) (refl, refl, k) (omega arith)),
            (λ item other k. none_less reason a item (Late p.id item other) (refl, refl, k) (omega arith)),
            record {
              here = subst (λ x. LateBlankAt cycle p w x header) (sym f) h;
              none_before = λ other lt k. a.first.no_start (LateBlank p.id a.item other)
                  (refl, refl, subst (λ x. LateBlankAt cycle p w x other) f k) number (omega arith);
              no_item_before = λ other any lt k. a.no_item other (LateBlank p.id other any) (refl, refl, k)
                  (subst (λ x. item_number other < item_number x) f lt) number;
            },
          )

  -- the first true reason of all items is the page's first fault
  pub witness_fault : (reason : Option Reason) → IsReasonBelow cycle p w 26 reason → IsWitnessFault cycle p w reason
  witness_fault None a = λ item need. (a item (item_within item (needed_item p item need))).covered need
  witness_fault (Some reason) a = first_fault reason a
