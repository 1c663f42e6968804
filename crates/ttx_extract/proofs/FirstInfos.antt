-- The first packet 8/30 of a list of slots.
use Rattle.std.proofs.Common.{◌≡◌, ℕ, zero, suc, ◌+◌, ◌<◌, ◌≤◌, List, [], ◌∷◌, length, drop, get_or, Option, Some, None, refl, ap, sym, ◌∙◌, inl, inr, arith}
use Rattle.std.specs.Option.{option_map}
use Rattle.std.proofs.lemmas.Bool.{cases_lt}
use Rattle.std.proofs.Math.Seq.{drop-cons}
use Rattle.std.proofs.Math.ListN.{drop_of_length-le}
use Rattle.ttx_info.specs.Infos.{InfoFields}
use Rattle.ttx_extract.specs.FirstPackets.{slot_info, first_info, info_or}
use Rattle.ttx_extract.specs.Extracts.{HasOffset}
use Rattle.ttx_extract.specs.FoundInfos.{TellsInfo, MinusZero}
use Rattle.ttx_extract.specs.declared.infos.FoundInfo.{FoundInfo}

first_of : (slot : List ℕ) (slots : List (List ℕ)) → first_info (slot ∷ slots) ≡ info_or (slot_info slot) (first_info slots)
unfolding first_info
first_of slot slots = refl

first_none : first_info [] ≡ None
unfolding first_info
first_none = refl

module _ (slots : List (List ℕ)) (i : ℕ) (e : first_info slots ≡ first_info (drop i slots)) where
  module _ (lt : i < length slots) where
    here : first_info slots ≡ info_or (slot_info (get_or slots i [])) (first_info (drop (suc i) slots))
    here = e ∙ ap first_info (drop-cons slots i [] lt) ∙ first_of (get_or slots i []) (drop (suc i) slots)

    pub found : (fields : InfoFields) → slot_info (get_or slots i []) ≡ Some fields → first_info slots ≡ Some fields
    found fields is = here ∙ ap (λ o. info_or o (first_info (drop (suc i) slots))) is

    pub none_yet : slot_info (get_or slots i []) ≡ None → first_info slots ≡ first_info (drop (i + 1) slots)
    none_yet is =
        let one : suc i ≡ i + 1 = omega arith in
        here ∙ ap (λ o. info_or o (first_info (drop (suc i) slots))) is ∙ ap (λ n. first_info (drop n slots)) one

  pub none : length slots ≤ i → first_info slots ≡ None
  none past = e ∙ ap first_info (drop_of_length-le slots past) ∙ first_none

pub none_more : (slots : List (List ℕ)) (i : ℕ) → ((n : ℕ) → n < i → slot_info (get_or slots n []) ≡ None) → slot_info (get_or slots i []) ≡ None →
    (n : ℕ) → n < i + 1 → slot_info (get_or slots n []) ≡ None
none_more slots i before is n lt = elim (cases_lt n i) as (λ _. slot_info (get_or slots n []) ≡ None) [
  | inl less ↦ before n less
  | inr ge ↦ let same : n ≡ i = omega arith in ap (λ m. slot_info (get_or slots m [])) same ∙ is
]

-- where what was found has no minus zero, the first packet 8/30 has none
pub offset_told : (slots : List (List ℕ)) (o : Option FoundInfo) → TellsInfo slots o → ((slot : ℕ) → MinusZero o slot → ⊥) → HasOffset slots
offset_told slots None told none = λ fields first halves west. absurd (let h : None ≡ Some fields = sym told ∙ first in cc)
offset_told slots (Some found) told none = λ fields first halves west.
    let same : found.info ≡ fields = let h : Some found.info ≡ Some fields = sym told.0 ∙ first in cc in
    none found.slot (refl, ap (λ f. f.halves) same ∙ halves, ap (λ f. f.west) same ∙ west)

-- a slot before which no slot has a packet 8/30 has the first
rest_is : (slots : List (List ℕ)) (i : ℕ) → i ≤ length slots → ((n : ℕ) → n < i → slot_info (get_or slots n []) ≡ None) →
    first_info slots ≡ first_info (drop i slots)
rest_is slots zero le none = refl
rest_is slots (suc i) le none =
    let before = rest_is slots i (omega arith) (λ n lt. none n (omega arith)) in
    let one : i + 1 ≡ suc i = omega arith in
    none_yet slots i before (omega arith) (none i (omega arith)) ∙ ap (λ n. first_info (drop n slots)) one

pub first_is : (slots : List (List ℕ)) (i : ℕ) (fields : InfoFields) → i < length slots → slot_info (get_or slots i []) ≡ Some fields →
    ((n : ℕ) → n < i → slot_info (get_or slots n []) ≡ None) → first_info slots ≡ Some fields
first_is slots i fields lt here none = found slots i (rest_is slots i (omega arith) none) lt fields here
