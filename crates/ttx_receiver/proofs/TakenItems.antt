-- Each needed item stays once it has been taken.
use Rattle.std.proofs.Common.{◌≡◌, ℕ, suc, ◌+◌, ◌<◌, ◌≤◌, Bool, true, false, List, length, get_or, sym, subst, inl, inr, arith, leb-true}
use Rattle.std.proofs.lemmas.Bool.{cases_lt, and_parts}
use Rattle.ttx_page.specs.Packets.{Packet}
use Rattle.ttx_page.specs.Pages.{Page, IsPage, selected_mag, needed, page_row}
use Rattle.ttx_page.specs.declared.selection.Selection.{Selection}
use Rattle.ttx_page.specs.declared.item.Item.TheVariants.{Row as TheRow, Links as TheLinks}
use Rattle.ttx_page.specs.declared.class.Class.{Class}
use Rattle.ttx_page.specs.Memories.{Memory, char_at}
use Rattle.ttx_page.specs.Receivers.{older, after, Run}
use Rattle.ttx_page.specs.Streams.{heads, heads_matched, ends_serial, carries}
use Rattle.ttx_receiver.proofs.StepsOverPage.{Shape}
use Rattle.ttx_receiver.proofs.TakenAndKept.{HeadRightAt, RowRightAt, keep_row, keep_head, keep_links, take_row, take_links, take_head}
use Rattle.ttx_receiver.proofs.Runs.{packet_at, run_keeps, ReceivesPage, IsTuned, IsStoring, tuned_begin, tuned_next, storing_next, lasting}

-- a transmission under the header at position h that no permitted receiver misses
pub record IsSureAt (sel : Selection) (g : ℕ → Packet) (lines : ℕ) (h j : ℕ) : Type 0 where
  pub late : h + lines < j
  pub matched : heads_matched sel (g h) ≡ true
  pub no_header : (i : ℕ) → h < i → i < j → heads (selected_mag sel) (g i) ≡ false
  pub no_end : (i : ℕ) → h < i → i < j → ends_serial (selected_mag sel) (g i) ≡ false

pub needed_row : (p : Page) (r : ℕ) → needed p (TheRow r) ≡ true → (1 ≤ r) × (r ≤ 24)
needed_row p r h =
    let a = (and_parts _ _ (and_parts _ _ (and_parts _ _ h).0).0).0 in
    let b = (and_parts _ _ (and_parts _ _ (and_parts _ _ h).0).0).1 in
    (leb-true 1 r a, leb-true r 24 b)

module _ (class : Class) (lines : ℕ) (sel : Selection) (p : Page) (page : IsPage p) (few : lines ≤ 32) (received : List (List ℕ))
    (receives_page : ReceivesPage sel p (packet_at received) (length received)) where
  abbrev g : ℕ → Packet
  g = packet_at received

  -- what is taken at position j and kept is there in the end
  held : (Before : ℕ → Memory → Type 0) (Good : Memory → Type 0) (j : ℕ) → j < length received →
      ((t : ℕ) → t < j → (choice : Bool) (m : Memory) → Shape m → Before t m → Before (suc t) (after class lines sel choice (older m) (g t))) →
      ((choice : Bool) (m : Memory) → Shape m → Before j m → IsTuned sel p g (suc j) (after class lines sel choice (older m) (g j))
      × Good (after class lines sel choice (older m) (g j))) →
      ((t : ℕ) → t < length received → (choice : Bool) (m : Memory) → Shape m → IsTuned sel p g t m → Good m → Good
      (after class lines sel choice (older m) (g t))) →
      (m new : Memory) → Shape m → Before 0 m → Run class lines sel m received new → (new.control ≡ p.control) × Good new
  held Before Good j inside earlier begins keeps m new shape before run =
      let Inv : ℕ → Memory → Type 0 = λ t x. Shape x × (t ≤ j → Before t x) × (j < t → IsTuned sel p g t x × Good x) in
      let last = run_keeps class lines sel Inv received 0
      (λ k lt choice x i.
      let e : k ≡ 0 + k = omega arith in
      subst (λ t. Inv (suc t) (after class lines sel choice (older x) (g k))) e
      (lasting class lines sel p g (length received) receives_page Before Good j inside earlier begins keeps k lt choice x
      (subst (λ t. Inv t x) (sym e) i)))
      m new run (shape, (λ _. before), (λ lt. absurd (omega arith))) in
      let w = last.2 (omega arith) in
      (w.0.control, w.1)

  abbrev Before : ℕ → ℕ → Memory → Type 0
  Before h t m = h < t → IsTuned sel p g t m × IsStoring h t m

  before_next : (h j : ℕ) → j < length received → IsSureAt sel g lines h j →
      (t : ℕ) → t < j → (choice : Bool) (m : Memory) → Before h t m → Before h (suc t) (after class lines sel choice (older m) (g t))
  before_next h j inside sure t lt choice m i le =
      elim (cases_lt h t) as (λ _. IsTuned sel p g (suc t) (after class lines sel choice (older m) (g t))
      × IsStoring h (suc t) (after class lines sel choice (older m) (g t))) [
        | inl later ↦
            let w = i later in (
              tuned_next class lines sel p g (length received) receives_page t (omega arith) choice m w.0,
              storing_next class lines sel p g (length received) receives_page h t later (sure.no_header t later lt)
                  (sure.no_end t later lt) choice m w.1,
            )
        | inr ge ↦
            let e : h ≡ t = omega arith in
            let here : heads_matched sel (g t) ≡ true = subst (λ x. heads_matched sel (g x) ≡ true) e sure.matched in
            subst (λ x. IsTuned sel p g (suc t) (after class lines sel choice (older m) (g t))
            × IsStoring x (suc t) (after class lines sel choice (older m) (g t))) (sym e)
            (tuned_begin class lines sel p g (length received) receives_page t (omega arith) here choice m)
      ]

  old_enough : (h j : ℕ) (m : Memory) → h + lines < j → IsStoring h j m → lines < (older m).age
  old_enough h j m late s = omega (arith, s.age)

  pub row_held : (r c : ℕ) → needed p (TheRow r) ≡ true → c < 40 → (h j : ℕ) → j < length received → IsSureAt sel g lines h j →
      carries (selected_mag sel) (TheRow r) (g j) ≡ true → RowRightAt p r c (g j) →
      (m new : Memory) → Shape m → Run class lines sel m received new → (new.control ≡ p.control) × (char_at new r c ≡ get_or (page_row p r) c 0)
  row_held r c need col h j inside sure here right m new shape run =
      let range = needed_row p r need in
      held (Before h) (λ x. char_at x r c ≡ get_or (page_row p r) c 0) j inside
      (λ t lt choice x _ b. before_next h j inside sure t lt choice x b)
      (λ choice x s b.
      let w = b (omega (arith, sure.late)) in (
        tuned_next class lines sel p g (length received) receives_page j inside choice x w.0,
        take_row class lines sel p r c (omega (arith, range.1)) col choice (older x) (g j) (record { count = s.count; width = s.width }) w.1.storing
            (old_enough h j x sure.late w.1) here right,
      ))
      (λ t lt choice x s tuned good.
      keep_row class lines sel p page.no_erase r c range.0 (omega (arith, range.1)) col choice (older x) (g t)
      (record { count = s.count; width = s.width }) tuned.settled
      (receives_page.heads t lt) (λ st carry. receives_page.rows t lt (tuned.owned st) r need carry) good)
      m new shape (λ lt. absurd (omega arith)) run

  pub links_held : (h j : ℕ) → j < length received → IsSureAt sel g lines h j → carries (selected_mag sel) TheLinks (g j) ≡ true →
      (m new : Memory) → Shape m → Run class lines sel m received new → (new.control ≡ p.control) × (new.links ≡ p.links)
  links_held h j inside sure here m new shape run =
      held (Before h) (λ x. x.links ≡ p.links) j inside
      (λ t lt choice x _ b. before_next h j inside sure t lt choice x b)
      (λ choice x s b.
      let w = b (omega (arith, sure.late)) in (
        tuned_next class lines sel p g (length received) receives_page j inside choice x w.0,
        take_links class lines sel p choice (older x) (g j) w.1.storing (old_enough h j x sure.late w.1) here
            (receives_page.links j inside (w.0.owned w.1.storing) here),
      ))
      (λ t lt choice x s tuned good.
      keep_links class lines sel p page.no_erase choice (older x) (g t) tuned.settled
      (receives_page.heads t lt) (λ st carry. receives_page.links t lt (tuned.owned st) carry) good)
      m new shape (λ lt. absurd (omega arith)) run

  pub head_held : (c : ℕ) → c < 24 → (j : ℕ) → j < length received → heads_matched sel (g j) ≡ true → HeadRightAt p c (g j) →
      (m new : Memory) → Shape m → Run class lines sel m received new → (new.control ≡ p.control) × (char_at new 0 (8 + c) ≡ get_or p.head c 0)
  head_held c col j inside here right m new shape run =
      held (λ t x. Unit {0}) (λ x. char_at x 0 (8 + c) ≡ get_or p.head c 0) j inside
      (λ t lt choice x _ b. tt)
      (λ choice x s b. (
        (tuned_begin class lines sel p g (length received) receives_page j inside here choice x).0,
        take_head class lines sel p c col choice (older x) (g j) (record { count = s.count; width = s.width }) here right,
      ))
      (λ t lt choice x s tuned good.
      keep_head class lines sel p c col choice (older x) (g t) (record { count = s.count; width = s.width }) (receives_page.heads t lt)
      (receives_page.no_row_0 t lt) good)
      m new shape tt run
