-- For a cycle, pages and a certificate at most one verdict is right.
use Rattle.std.proofs.Common.{◌≡◌, ◌⊎◌, ℕ, zero, suc, ◌<◌, ◌≤◌, pos, true, List, length, slice_get, Some, None, refl, sym, ap, ◌∙◌, subst, inl, inr}
use Rattle.std.proofs.Common.{arith}
use Rattle.std.proofs.lemmas.Bool.{cases_lt}
use Rattle.ttx_page.specs.Pages.{Page, needed}
use Rattle.ttx_page.specs.declared.item.Item.{Item}
use Rattle.ttx_page.specs.declared.item.Item.TheVariants.{Head as TheHead, Row as TheRow, Links as TheLinks}
use Rattle.ttx_page.specs.Streams.{repeated}
use Rattle.ttx_page.specs.Steady.{HasHeader, HasNoHeader, OtherSubpageAt, ErasedAt, HeadDiffersAt, RowDiffersAt, LinksDifferAt}
use Rattle.ttx_witness.specs.sent.Collected.{item_number}
use Rattle.ttx_witness.specs.Coverage.{Certificate, IsCertificate}
use Rattle.ttx_witness.specs.faults.Faults.{IsFault, IsPageFault, IsWitnessFault, Never, NoItem, NoStart}
use Rattle.ttx_witness.specs.faults.Reasons.{BadSlotAt, HasNoWitness, WitnessBadAt, LateAt, LateBlankAt}
use Rattle.ttx_witness.specs.declared.faults.reason.Reason.{Reason}
use Rattle.ttx_witness.specs.declared.faults.reason.Reason.TheVariants.{BadSlot, NoHeader, OtherSubpage, Erased, HeadDiffers, RowDiffers, LinksDiffer}
use Rattle.ttx_witness.specs.declared.faults.reason.Reason.TheVariants.{NoWitness, WitnessBad, Late, Unsteady, LateBlank}
use Rattle.ttx_certify.specs.Verdicts.{IsClean, IsFirstFault, IsRefusal, IsVerdict}
use Rattle.ttx_certify.specs.VerdictLaws.{VerdictsAreOne}
use Rattle.ttx_certify.specs.declared.verdict.Verdict.{Verdict}
use Rattle.ttx_certify.specs.declared.verdict.Verdict.TheVariants.{Yes, No}
use Rattle.ttx_certify.proofs.Accepting.{CoverLaws, fault_not}

-- the first true one, by number, item number and slot

pub record IsFirst (True : ℕ → ℕ → ℕ → Type 0) (number item slot : ℕ) : Type 0 where
  pub here : True number item slot
  pub no_slot : (j : ℕ) → j < slot → True number item j → ⊥
  pub no_item : (i j : ℕ) → i < item → True number i j → ⊥
  pub no_number : (k i j : ℕ) → k < number → True k i j → ⊥

same_number : (a b : ℕ) → (a < b → ⊥) → (b < a → ⊥) → a ≡ b
same_number a b f g = elim (cases_lt a b) as (λ _. a ≡ b)
    [ inl lt ↦ absurd (f lt) | inr ge ↦ elim (cases_lt b a) as (λ _. a ≡ b) [ inl gt ↦ absurd (g gt) | inr le ↦ omega arith ] ]

module _ (True : ℕ → ℕ → ℕ → Type 0) where
  firsts_agree : (k i j k' i' j' : ℕ) → IsFirst True k i j → IsFirst True k' i' j' → (k ≡ k') × (i ≡ i') × (j ≡ j')
  firsts_agree k i j k' i' j' a b =
      let e : k ≡ k' = same_number k k' (λ lt. b.no_number k i j lt a.here) (λ gt. a.no_number k' i' j' gt b.here) in
      let c : IsFirst True k i' j' = subst (λ x. IsFirst True x i' j') (sym e) b in
      let f : i ≡ i' = same_number i i' (λ lt. c.no_item i j lt a.here) (λ gt. a.no_item i' j' gt c.here) in
      let d : IsFirst True k i j' = subst (λ x. IsFirst True k x j') (sym f) c in
      (e, f, same_number j j' (λ lt. d.no_slot j lt a.here) (λ gt. a.no_slot j' gt d.here))

  one_more : (n : ℕ) → ((k i j : ℕ) → k < n → True k i j → ⊥) → ((i j : ℕ) → True n i j → ⊥) → (k i j : ℕ) → k < suc n → True k i j → ⊥
  one_more n none here k i j lt t = elim (cases_lt k n) as (λ _. ⊥) [
    | inl less ↦ none k i j less t
    | inr ge ↦ let e : k ≡ n = omega arith in here i j (subst (λ x. True x i j) e t)
  ]

-- the reasons that concern only a page and a cycle

module _ (cycle : List (List ℕ)) (pages : List Page) (p : Page) where
  PageTrue : ℕ → ℕ → ℕ → Type 0
  PageTrue zero item slot = HasNoHeader (repeated cycle) p
  PageTrue (suc zero) item slot = OtherSubpageAt (repeated cycle) pages p (pos slot)
  PageTrue (suc (suc zero)) item slot = ErasedAt (repeated cycle) p (pos slot)
  PageTrue (suc (suc (suc zero))) item slot = HeadDiffersAt (repeated cycle) p (pos slot)
  PageTrue (suc (suc (suc (suc zero)))) item slot = RowDiffersAt (repeated cycle) p (pos slot)
  PageTrue (suc (suc (suc (suc (suc n))))) item slot = LinksDifferAt (repeated cycle) p (pos slot)

  page_reason : ℕ → ℕ → Reason
  page_reason zero slot = NoHeader p.id
  page_reason (suc zero) slot = OtherSubpage p.id slot
  page_reason (suc (suc zero)) slot = Erased p.id slot
  page_reason (suc (suc (suc zero))) slot = HeadDiffers p.id slot
  page_reason (suc (suc (suc (suc zero)))) slot = RowDiffers p.id slot
  page_reason (suc (suc (suc (suc (suc n))))) slot = LinksDiffer p.id slot

  record IsToldPage (reason : Reason) : Type 0 where
    number : ℕ
    slot : ℕ
    is : reason ≡ page_reason number slot
    first : IsFirst PageTrue number 0 slot

  -- such a reason does not name an item
  first_at : (number slot : ℕ) → PageTrue number 0 slot → ((j : ℕ) → j < slot → PageTrue number 0 j → ⊥) →
      ((k i j : ℕ) → k < number → PageTrue k i j → ⊥) → IsFirst PageTrue number 0 slot
  first_at number slot here slots numbers = record { here = here; no_slot = slots; no_item = λ i j lt t. omega arith; no_number = numbers }

  abbrev NoneBelow : ℕ → Type 0
  NoneBelow n = (k i j : ℕ) → k < n → PageTrue k i j → ⊥

  none_0 : NoneBelow 0
  none_0 k i j lt t = omega arith

  none_1 : HasHeader (repeated cycle) p.id → NoneBelow 1
  unfolding PageTrue
  none_1 header = one_more PageTrue 0 none_0 (λ i j t. let none = t header.slot in let is = header.is_header in cc)

  none_2 : HasHeader (repeated cycle) p.id → Never (OtherSubpageAt (repeated cycle) pages p) → NoneBelow 2
  unfolding PageTrue
  none_2 header other = one_more PageTrue 1 (none_1 header) (λ i j t. other (pos j) t)

  told_page : (reason : Reason) → IsPageFault cycle pages p (Some reason) → IsToldPage reason
  unfolding PageTrue page_reason
  told_page (NoHeader page) f = record { number = 0; slot = 0; is = ap NoHeader f.0; first = first_at 0 0 f.1 (λ j lt t. omega arith) none_0 }
  told_page (OtherSubpage page slot) f =
      record { number = 1; slot = slot; is = ap (λ q. OtherSubpage q slot) f.0; first = first_at 1 slot f.2.here f.2.none_before (none_1 f.1) }
  told_page (Erased page slot) f =
      record { number = 2; slot = slot; is = ap (λ q. Erased q slot) f.0; first = first_at 2 slot f.3.here f.3.none_before (none_2 f.1 f.2) }
  told_page (HeadDiffers page slot) f = record {
    number = 3;
    slot = slot;
    is = ap (λ q. HeadDiffers q slot) f.0;
    first = first_at 3 slot f.4.here f.4.none_before (one_more PageTrue 2 (none_2 f.1 f.2) (λ i j t. f.3 (pos j) t));
  }
  told_page (RowDiffers page slot) f = record {
    number = 4;
    slot = slot;
    is = ap (λ q. RowDiffers q slot) f.0;
    first = first_at 4 slot f.5.here f.5.none_before
        (one_more PageTrue 3 (one_more PageTrue 2 (none_2 f.1 f.2) (λ i j t. f.3 (pos j) t)) (λ i j t. f.4 (pos j) t));
  }
  told_page (LinksDiffer page slot) f = record {
    number = 5;
    slot = slot;
    is = ap (λ q. LinksDiffer q slot) f.0;
    first = first_at 5 slot f.6.here f.6.none_before
        (one_more PageTrue 4 (one_more PageTrue 3 (one_more PageTrue 2 (none_2 f.1 f.2) (λ i j t. f.3 (pos j) t))
        (λ i j t. f.4 (pos j) t)) (λ i j t. f.5 (pos j) t));
  }
  told_page (BadSlot slot) f = absurd f
  told_page (NoWitness page item) f = absurd f
  told_page (WitnessBad page item start) f = absurd f
  told_page (Late page item start) f = absurd f
  told_page Unsteady f = absurd f
  told_page (LateBlank page item header) f = absurd f

  page_faults_agree : (a b : Reason) → IsPageFault cycle pages p (Some a) → IsPageFault cycle pages p (Some b) → a ≡ b
  page_faults_agree a b f g =
      let x = told_page a f in
      let y = told_page b g in
      let same = firsts_agree PageTrue x.number 0 x.slot y.number 0 y.slot x.first y.first in
      x.is ∙ ap (λ n. page_reason n x.slot) same.0 ∙ ap (page_reason y.number) same.2 ∙ sym y.is

-- the reasons that concern named starts

-- an item that a viewer sees, by its number
item_at : (p : Page) (a b : Item) → needed p a ≡ true → needed p b ≡ true → item_number a ≡ item_number b → a ≡ b
item_at p TheHead TheHead h k e = refl
item_at p TheHead (TheRow s) h k e = let z : needed p (TheRow 0) ≡ true = subst (λ n. needed p (TheRow n) ≡ true) (sym e) k in cc
item_at p TheHead TheLinks h k e = absurd (omega arith)
item_at p (TheRow r) TheHead h k e = let z : needed p (TheRow 0) ≡ true = subst (λ n. needed p (TheRow n) ≡ true) e h in cc
item_at p (TheRow r) (TheRow s) h k e = ap TheRow e
item_at p (TheRow r) TheLinks h k e = let z : needed p (TheRow 25) ≡ true = subst (λ n. needed p (TheRow n) ≡ true) e h in cc
item_at p TheLinks TheHead h k e = absurd (omega arith)
item_at p TheLinks (TheRow s) h k e = let z : needed p (TheRow 25) ≡ true = subst (λ n. needed p (TheRow n) ≡ true) (sym e) k in cc
item_at p TheLinks TheLinks h k e = refl

module _ (cycle : List (List ℕ)) (p : Page) (w : Certificate) where
  ItemTrue : ℕ → Item → ℕ → Type 0
  ItemTrue zero item slot = HasNoWitness p w item
  ItemTrue (suc zero) item slot = WitnessBadAt cycle p w item slot
  ItemTrue (suc (suc zero)) item slot = LateAt cycle p w item slot
  ItemTrue (suc (suc (suc n))) item slot = LateBlankAt cycle p w item slot

  item_needed : (number : ℕ) (item : Item) (slot : ℕ) → ItemTrue number item slot → needed p item ≡ true
  unfolding ItemTrue
  item_needed zero item slot t = t.needed
  item_needed (suc zero) item slot t = t.needed
  item_needed (suc (suc zero)) item slot t = t.needed
  item_needed (suc (suc (suc n))) item slot t = t.needed

  abbrev StartTrue : ℕ → ℕ → ℕ → Type 0
  StartTrue number i slot = (item : Item) × (item_number item ≡ i) × ItemTrue number item slot

  start_reason : ℕ → Item → ℕ → Reason
  start_reason zero item slot = NoWitness p.id item
  start_reason (suc zero) item slot = WitnessBad p.id item slot
  start_reason (suc (suc zero)) item slot = Late p.id item slot
  start_reason (suc (suc (suc n))) item slot = LateBlank p.id item slot

  record IsToldStart (reason : Reason) : Type 0 where
    number : ℕ
    item : Item
    slot : ℕ
    is : reason ≡ start_reason number item slot
    need : needed p item ≡ true
    first : IsFirst StartTrue number (item_number item) slot

  -- for an item and its start: no smaller start of this item, and no start of an item before it
  first_start : (number : ℕ) (item : Item) (slot : ℕ) → ItemTrue number item slot → ((j : ℕ) → j < slot → ItemTrue number item j → ⊥) →
      ((other : Item) (j : ℕ) → item_number other < item_number item → ItemTrue number other j → ⊥) →
      ((k i j : ℕ) → k < number → StartTrue k i j → ⊥) → IsFirst StartTrue number (item_number item) slot
  first_start number item slot here slots items numbers = record {
    here = (item, refl, here);
    no_slot = λ j lt t. slots j lt
        (subst (λ x. ItemTrue number x j)
        (item_at p t.0 item (item_needed number t.0 j t.2) (item_needed number item slot here) t.1) t.2);
    no_item = λ i j lt t. items t.0 j (let e = t.1 in omega arith) t.2;
    no_number = numbers;
  }

  no_start : (k i j : ℕ) → k < 0 → StartTrue k i j → ⊥
  no_start k i j lt t = omega arith

  all_named : NoItem (HasNoWitness p w) → (k i j : ℕ) → k < 1 → StartTrue k i j → ⊥
  unfolding ItemTrue
  all_named none = one_more StartTrue 0 no_start (λ i j t. none t.0 t.2)

  all_sure : NoItem (HasNoWitness p w) → NoStart (WitnessBadAt cycle p w) → (k i j : ℕ) → k < 2 → StartTrue k i j → ⊥
  unfolding ItemTrue
  all_sure none bad = one_more StartTrue 1 (all_named none) (λ i j t. bad t.0 j t.2)

  told_start : (reason : Reason) → IsWitnessFault cycle p w (Some reason) → IsToldStart reason
  unfolding ItemTrue start_reason
  told_start (NoWitness page item) f = record {
    number = 0;
    item = item;
    slot = 0;
    is = ap (λ q. NoWitness q item) f.0;
    need = f.1.here.needed;
    first = first_start 0 item 0 f.1.here (λ j lt t. omega arith) (λ other j lt t. f.1.none_before other lt t) no_start;
  }
  told_start (WitnessBad page item start) f = record {
    number = 1;
    item = item;
    slot = start;
    is = ap (λ q. WitnessBad q item start) f.0;
    need = f.2.here.needed;
    first = first_start 1 item start f.2.here f.2.none_before f.2.no_item_before (all_named f.1);
  }
  told_start (Late page item start) f = record {
    number = 2;
    item = item;
    slot = start;
    is = ap (λ q. Late q item start) f.0;
    need = f.3.here.needed;
    first = first_start 2 item start f.3.here f.3.none_before f.3.no_item_before (all_sure f.1 f.2);
  }
  told_start (LateBlank page item header) f = record {
    number = 3;
    item = item;
    slot = header;
    is = ap (λ q. LateBlank q item header) f.0;
    need = f.4.here.needed;
    first = first_start 3 item header f.4.here f.4.none_before f.4.no_item_before (one_more StartTrue 2 (all_sure f.1 f.2) (λ i j t. f.3 t.0 j t.2));
  }
  told_start (BadSlot slot) f = absurd f
  told_start (NoHeader page) f = absurd f
  told_start (OtherSubpage page slot) f = absurd f
  told_start (Erased page slot) f = absurd f
  told_start (HeadDiffers page slot) f = absurd f
  told_start (RowDiffers page slot) f = absurd f
  told_start (LinksDiffer page slot) f = absurd f
  told_start Unsteady f = absurd f

  start_faults_agree : (a b : Reason) → IsWitnessFault cycle p w (Some a) → IsWitnessFault cycle p w (Some b) → a ≡ b
  start_faults_agree a b f g =
      let x = told_start a f in
      let y = told_start b g in
      let same = firsts_agree StartTrue x.number (item_number x.item) x.slot y.number (item_number y.item) y.slot x.first y.first in
      x.is ∙ ap (λ n. start_reason n x.item x.slot) same.0
      ∙ ap (λ i. start_reason y.number i x.slot) (item_at p x.item y.item x.need y.need same.1)
      ∙ ap (start_reason y.number y.item) same.2 ∙ sym y.is

-- verdicts

module _ (laws : CoverLaws) (cycle : List (List ℕ)) (some : 1 ≤ length cycle) (pages : List Page) (w : Certificate) (is : IsCertificate w) where
  faults_agree : (p : Page) (a b : Reason) → IsFault cycle pages p w (Some a) → IsFault cycle pages p w (Some b) → a ≡ b
  faults_agree p a b (inl f) (inl g) = page_faults_agree cycle pages p a b f g
  faults_agree p a b (inl f) (inr g) = let e : Some a ≡ None = (laws.steady cycle pages p (Some a) f).1 g.0 in cc
  faults_agree p a b (inr f) (inl g) = let e : Some b ≡ None = (laws.steady cycle pages p (Some b) g).1 f.0 in cc
  faults_agree p a b (inr f) (inr g) = start_faults_agree cycle p w a b f.1 g.1

  not_earlier : (a b : Reason) (f : IsFirstFault cycle pages w a) (g : IsFirstFault cycle pages w b) → f.index < g.index → ⊥
  not_earlier a b f g lt =
      let none = g.none_before f.index f.page lt f.here in
      fault_not laws cycle some pages f.page w is a f.fault none.0 none.1

  first_faults_agree : (a b : Reason) → IsFirstFault cycle pages w a → IsFirstFault cycle pages w b → a ≡ b
  first_faults_agree a b f g =
      let e : f.index ≡ g.index = same_number f.index g.index (not_earlier a b f g) (not_earlier b a g f) in
      let here : Some f.page ≡ Some g.page = sym f.here ∙ ap (slice_get pages) e ∙ g.here in
      let same : f.page ≡ g.page = cc in
      faults_agree g.page a b (subst (λ p. IsFault cycle pages p w (Some a)) same f.fault) g.fault

  abbrev IsBadSlot : Reason → Type 0
  IsBadSlot reason = (slot : ℕ) × (reason ≡ BadSlot slot) × BadSlotAt cycle slot × ((i : ℕ) → i < slot → BadSlotAt cycle i → ⊥)

  refusal_cases : (reason : Reason) → IsRefusal cycle pages w reason → IsBadSlot reason ⊎ (IsClean cycle × IsFirstFault cycle pages w reason)
  refusal_cases (BadSlot slot) r = inl (slot, refl, r.0, r.1)
  refusal_cases (NoHeader page) r = inr r
  refusal_cases (OtherSubpage page slot) r = inr r
  refusal_cases (Erased page slot) r = inr r
  refusal_cases (HeadDiffers page slot) r = inr r
  refusal_cases (RowDiffers page slot) r = inr r
  refusal_cases (LinksDiffer page slot) r = inr r
  refusal_cases (NoWitness page item) r = inr r
  refusal_cases (WitnessBad page item start) r = inr r
  refusal_cases (Late page item start) r = inr r
  refusal_cases Unsteady r = inr r
  refusal_cases (LateBlank page item header) r = inr r

  not_clean : (reason : Reason) → IsBadSlot reason → IsClean cycle → ⊥
  not_clean reason b clean = let bad = b.2.bad in let good = clean b.0 b.2.within in cc

  refusals_agree : (a b : Reason) → IsBadSlot a ⊎ (IsClean cycle × IsFirstFault cycle pages w a) → IsBadSlot b
      ⊎ (IsClean cycle × IsFirstFault cycle pages w b) → a ≡ b
  refusals_agree a b (inl f) (inl g) =
      f.1 ∙ ap BadSlot (same_number f.0 g.0 (λ lt. g.3 f.0 lt f.2) (λ gt. f.3 g.0 gt g.2)) ∙ sym g.1
  refusals_agree a b (inl f) (inr g) = absurd (not_clean a f g.0)
  refusals_agree a b (inr f) (inl g) = absurd (not_clean b g f.0)
  refusals_agree a b (inr f) (inr g) = first_faults_agree a b f.1 g.1

  verdicts_agree : (a b : Verdict) → IsVerdict cycle pages w a → IsVerdict cycle pages w b → a ≡ b
  verdicts_agree Yes Yes f g = refl
  verdicts_agree Yes (No b) f g = absurd (g.1 f)
  verdicts_agree (No a) Yes f g = absurd (f.1 g)
  verdicts_agree (No a) (No b) f g = ap No (refusals_agree a b (refusal_cases a f.0) (refusal_cases b g.0))

pub verdicts_are_one : CoverLaws → VerdictsAreOne
verdicts_are_one laws cycle pages w some is a b f g = verdicts_agree laws cycle (omega arith) pages w is a b f g
