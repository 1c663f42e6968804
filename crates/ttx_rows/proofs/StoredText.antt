-- Texts that are taken as they come: what is sent instead of a row, so that a permitted receiver stores the same.
use Rattle.std.proofs.Common.{◌≡◌, ℕ, zero, suc, ◌+◌, ◌%◌, ◌<◌, ◌≤◌, ◌&&◌, ◌||◌, ◌==◌, leb, not, Bool, true, false}
use Rattle.std.proofs.Common.{List, [], ◌∷◌, length, get_or, drop, refl, sym, ap, ◌∙◌, subst, inl, inr, arith}
use Rattle.std.proofs.Common.{leb-true, eqb-true, get_or-drop, length-drop}
use Rattle.std.specs.List.{list_all}
use Rattle.std.proofs.lemmas.Bool.{agree_below, agree_below_at, both_ways, and_parts}
use Rattle.ttx_code.specs.Words.{Near, ones, distance, is_odd, odd_byte}
use Rattle.ttx_packet.specs.Slots.{IsSlot, IsRow, kind_of, is_clean}
use Rattle.ttx_packet.specs.Receptions.{MayBeReceivedAs}
use Rattle.ttx_packet.specs.Laws.{RowsAreNumbered}
use Rattle.ttx_page.specs.Packets.{Row, packet_of}
use Rattle.ttx_page.specs.Pages.{Page}
use Rattle.ttx_rows.specs.RowReceivers.{MayBeTakenAs, AreTakenAs}
use Rattle.ttx_rows.proofs.OneSlot.{LawsBelow, packet_at}
use Rattle.ttx_rows.proofs.OtherStream.{with_text, length-with_text, text_before, text_after}
use Rattle.ttx_rows.proofs.OtherStream.{texted, texted_slot, texted_kind, row, IsCleanRow}

-- bytes

abbrev is_taken : ℕ → Bool
is_taken b = leb (odd_byte (b % 128)) 255 && leb (distance b (odd_byte (b % 128))) 1 && (not (is_odd b) || (odd_byte (b % 128) == b))

all_taken : agree_below is_taken (λ _. true) 256 ≡ true
unfolding ones distance
all_taken = refl

taken_facts : (b : ℕ) → b < 256 → is_taken b ≡ true
taken_facts b lt = agree_below_at is_taken (λ _. true) 256 b all_taken lt

or_second : (a b : Bool) → (not a || b) ≡ true → a ≡ true → b ≡ true
or_second true b h e = h
or_second false b h e = absurd (both_ways false refl e)

pub taken_fits : (b t : ℕ) → b < 256 → MayBeTakenAs b t → t < 256
taken_fits b t lt may = elim may as (λ _. t < 256) [
  | inl e ↦ subst (λ v. v < 256) (sym e) lt
  | inr e ↦ let h : odd_byte (b % 128) ≤ 255 = leb-true _ _ ((and_parts _ _ (and_parts _ _ (taken_facts b lt)).0).0) in
      subst (λ v. v < 256) (sym e) (omega arith)
]

taken_near : LawsBelow → (b t : ℕ) → b < 256 → MayBeTakenAs b t → Near b t
taken_near laws b t lt may = elim may as (λ _. Near b t) [
  | inl e ↦ subst (Near b) (sym e) (laws.near_self b)
  | inr e ↦ subst (Near b) (sym e) (leb-true _ _ ((and_parts (leb (odd_byte (b % 128)) 255) _ (and_parts _ _ (taken_facts b lt)).0).1))
]

-- a byte of odd parity is taken as it is
pub taken_odd : (b t : ℕ) → b < 256 → MayBeTakenAs b t → is_odd b ≡ true → t ≡ b
taken_odd b t lt may odd = elim may as (λ _. t ≡ b) [
  | inl e ↦ e
  | inr e ↦ e ∙ eqb-true _ _ (or_second (is_odd b) _
      ((and_parts (leb (odd_byte (b % 128)) 255 && leb (distance b (odd_byte (b % 128))) 1) _ (taken_facts b lt)).1) odd)
]

-- texts

pub length-taken : (text taken : List ℕ) → AreTakenAs text taken → length taken ≡ length text
length-taken [] [] are = refl
length-taken [] (t ∷ taken) are = absurd are
length-taken (b ∷ text) [] are = absurd are
length-taken (b ∷ text) (t ∷ taken) are = ap suc (length-taken text taken are.1)

pub taken_at : (text taken : List ℕ) → AreTakenAs text taken → (c : ℕ) → MayBeTakenAs (get_or text c 0) (get_or taken c 0)
taken_at [] [] are c = inl refl
taken_at [] (t ∷ taken) are c = absurd are
taken_at (b ∷ text) [] are c = absurd are
taken_at (b ∷ text) (t ∷ taken) are zero = are.0
taken_at (b ∷ text) (t ∷ taken) are (suc c) = taken_at text taken are.1 c

pub taken_same : (text taken : List ℕ) → AreTakenAs text taken → ((c : ℕ) → get_or text c 0 < 256) → list_all is_odd text ≡ true → taken ≡ text
taken_same [] [] are fits odd = refl
taken_same [] (t ∷ taken) are fits odd = absurd are
taken_same (b ∷ text) [] are fits odd = absurd are
taken_same (b ∷ text) (t ∷ taken) are fits odd =
    ap (λ v. v ∷ taken) (taken_odd b t (fits 0) are.0 ((and_parts _ _ odd).0))
    ∙ ap (λ rest. b ∷ rest) (taken_same text taken are.1 (λ c. fits (suc c)) ((and_parts (is_odd b) _ odd).1))

drop_text : (n : ℕ) (sent heard : List ℕ) → length sent ≡ length heard → drop n (with_text n sent heard) ≡ drop n heard
drop_text zero [] [] e = refl
drop_text zero [] (c ∷ heard) e = absurd (omega arith)
drop_text zero (b ∷ sent) heard e = refl
drop_text (suc n) [] [] e = refl
drop_text (suc n) [] (c ∷ heard) e = absurd (omega arith)
drop_text (suc n) (b ∷ sent) [] e = absurd (omega arith)
drop_text (suc n) (b ∷ sent) (c ∷ heard) e = drop_text n sent heard (omega arith)

-- rows

-- a row with the text as it is taken
pub record TakenRow (sent : List ℕ) (mag number : ℕ) (taken : List ℕ) : Type 0 where
  pub sends : List ℕ
  pub slot : IsSlot sends
  pub clean : is_clean sends ≡ true
  pub packet : packet_of sends ≡ Row mag number taken

module _ (laws : LawsBelow) (numbered : RowsAreNumbered) (p : Page) (sent received : List ℕ) (s : IsSlot sent) (clean : is_clean sent ≡ true)
    (h : MayBeReceivedAs sent received) (mag number : ℕ) (kind : kind_of sent ≡ IsRow mag number)
    (taken : List ℕ) (are : AreTakenAs (drop 2 received) taken) where
  -- the address as it is sent, and the text as it is received
  abbrev first : List ℕ
  first = texted laws numbered p sent received s clean h

  first_slot : IsSlot first
  first_slot = texted_slot laws numbered p sent received s clean h

  first_row : IsCleanRow first
  first_row = row laws numbered p sent received s clean h mag number kind

  first_kind : kind_of first ≡ IsRow mag number
  first_kind = texted_kind laws numbered p sent received s clean h mag number kind

  -- the same with the text as it is taken
  abbrev heard : List ℕ
  heard = with_text 2 sent (0 ∷ 0 ∷ taken)

  long : length sent ≡ length (0 ∷ 0 ∷ taken)
  long =
      let a = s.size in
      let b = h.slot.size in
      let c = length-taken (drop 2 received) taken are in
      let d = length-drop 2 received in
      omega arith

  same_long : length sent ≡ length received
  same_long = s.size ∙ sym h.slot.size

  byte : (c : ℕ) → MayBeTakenAs (get_or received (2 + c) 0) (get_or taken c 0)
  byte c = subst (λ b. MayBeTakenAs b (get_or taken c 0)) (get_or-drop 2 received c 0) (taken_at (drop 2 received) taken are c)

  first_at : (c : ℕ) → get_or first (2 + c) 0 ≡ get_or received (2 + c) 0
  first_at c = text_after 2 sent received (2 + c) same_long (omega arith)

  heard_at : (c : ℕ) → get_or heard (2 + c) 0 ≡ get_or taken c 0
  heard_at c = text_after 2 sent (0 ∷ 0 ∷ taken) (2 + c) long (omega arith) ∙ sym (get_or-drop 2 (0 ∷ 0 ∷ taken) c 0)

  -- each place is in the address or in the text
  by_place : (P : ℕ → Type 0) → ((x : ℕ) → x < 2 → P x) → ((c : ℕ) → P (2 + c)) → (x : ℕ) → P x
  by_place P low high zero = low 0 (omega arith)
  by_place P low high (suc zero) = low 1 (omega arith)
  by_place P low high (suc (suc c)) = let e : 2 + c ≡ suc (suc c) = omega arith in subst P e (high c)

  heard_byte : (x : ℕ) → get_or heard x 0 < 256
  heard_byte = by_place (λ x. get_or heard x 0 < 256)
      (λ x low. subst (λ b. b < 256) (sym (text_before 2 sent (0 ∷ 0 ∷ taken) x low)) (s.bytes x))
      (λ c. subst (λ b. b < 256) (sym (heard_at c)) (taken_fits _ _ (h.slot.bytes (2 + c)) (byte c)))

  heard_near : (x : ℕ) → Near (get_or first x 0) (get_or heard x 0)
  heard_near = by_place (λ x. Near (get_or first x 0) (get_or heard x 0))
      (λ x low. subst (λ b. Near b (get_or heard x 0)) (sym (text_before 2 sent received x low))
      (subst (Near (get_or sent x 0)) (sym (text_before 2 sent (0 ∷ 0 ∷ taken) x low)) (laws.near_self (get_or sent x 0))))
      (λ c. subst (λ b. Near b (get_or heard (2 + c) 0)) (sym (first_at c))
      (subst (Near (get_or received (2 + c) 0)) (sym (heard_at c)) (taken_near laws _ _ (h.slot.bytes (2 + c)) (byte c))))

  heard_may : MayBeReceivedAs first heard
  heard_may = record {
    slot = record { size = length-with_text 2 sent (0 ∷ 0 ∷ taken) long ∙ s.size; bytes = heard_byte };
    empty = λ e. absurd (both_ways _ first_row.some e);
    near = λ x lt. inr (heard_near x);
  }

  pub taken_row : TakenRow sent mag number taken
  taken_row =
      let kind_again = texted_kind laws numbered p first heard first_slot first_row.clean heard_may mag number first_kind in
      record {
        sends = texted laws numbered p first heard first_slot first_row.clean heard_may;
        slot = texted_slot laws numbered p first heard first_slot first_row.clean heard_may;
        clean = (row laws numbered p first heard first_slot first_row.clean heard_may mag number first_kind).clean;
        packet = packet_at _ (IsRow mag number) kind_again ∙ ap (Row mag number) text;
      }
    where
      text : drop 2 (with_text 2 first heard) ≡ taken
      text = drop_text 2 first heard (first_slot.size ∙ sym heard_may.slot.size) ∙ drop_text 2 sent (0 ∷ 0 ∷ taken) long
