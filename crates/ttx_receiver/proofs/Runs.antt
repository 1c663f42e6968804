-- Runs of a receiver over the packets that it is given.
use Rattle.std.proofs.Common.{◌≡◌, ℕ, suc, ◌+◌, ◌-◌, ◌<◌, ◌≤◌, min, Bool, true, false, List, [], ◌∷◌, length, get_or, sym, ◌∙◌, subst, inl, inr}
use Rattle.std.proofs.Common.{arith}
use Rattle.std.proofs.lemmas.Bool.{cases_lt}
use Rattle.ttx_page.specs.Packets.{Packet, packet_of}
use Rattle.ttx_page.specs.Pages.{Page, selected_mag, needed}
use Rattle.ttx_page.specs.declared.selection.Selection.{Selection}
use Rattle.ttx_page.specs.declared.item.Item.TheVariants.{Row as TheRow, Links as TheLinks}
use Rattle.ttx_page.specs.declared.class.Class.{Class}
use Rattle.ttx_page.specs.Memories.{Memory}
use Rattle.ttx_page.specs.Receivers.{older, after, Run}
use Rattle.ttx_page.specs.Streams.{heads, heads_matched, ends_serial, carries}
use Rattle.ttx_receiver.proofs.StepsOverPage.{Shape, IsHeadOf, IsRowOf, AreLinksOf, shape_after, after_storing, after_ready, after_begin}
use Rattle.ttx_receiver.proofs.StepsOverPage.{after_settled}

-- the packet received at a position of the list
abbrev pub packet_at : List (List ℕ) → ℕ → Packet
packet_at received t = packet_of (get_or received t [])

-- what each slot keeps, a run keeps
pub run_keeps : (class : Class) (lines : ℕ) (sel : Selection) (Inv : ℕ → Memory → Type 0) (received : List (List ℕ)) (t : ℕ) →
    ((k : ℕ) → k < length received → (choice : Bool) (m : Memory) → Inv (t + k) m → Inv (suc (t + k))
    (after class lines sel choice (older m) (packet_at received k))) →
    (m new : Memory) → Run class lines sel m received new → Inv t m → Inv (t + length received) new
run_keeps class lines sel Inv [] t step m new r i =
    let e : t ≡ t + 0 = omega arith in subst (λ x. Inv x new) e (subst (λ x. Inv t x) (sym r) i)
run_keeps class lines sel Inv (slot ∷ received) t step m new r i =
    let mid = r.0 in
    let e0 : t ≡ t + 0 = omega arith in
    let e1 : suc (t + 0) ≡ suc t = omega arith in
    let first : Inv (suc t) mid = subst (λ x. Inv (suc t) x) (sym r.1.is)
    (subst (λ x. Inv x (after class lines sel r.1.choice (older m) (packet_of slot))) e1
    (step 0 (omega arith) r.1.choice m (subst (λ x. Inv x m) e0 i))) in
    let e2 : suc t + length received ≡ t + suc (length received) = omega arith in
    subst (λ x. Inv x new) e2 (run_keeps class lines sel Inv received (suc t)
    (λ k lt choice x ix.
    let e3 : suc t + k ≡ t + suc k = omega arith in
    let e4 : suc (t + suc k) ≡ suc (suc t + k) = omega arith in
    subst (λ y. Inv y (after class lines sel choice (older x) (packet_at received k))) e4
    (step (suc k) (omega arith) choice x (subst (λ y. Inv y x) e3 ix)))
    mid new r.2 first)

-- the latest header of the magazine before position t is one that the selection matches
pub record IsOwnedAt (sel : Selection) (g : ℕ → Packet) (t : ℕ) : Type 0 where
  pub place : ℕ
  pub before : place < t
  pub matched : heads_matched sel (g place) ≡ true
  pub none : (i : ℕ) → place < i → i < t → heads (selected_mag sel) (g i) ≡ false

-- what the first n positions bring of the page
pub record ReceivesPage (sel : Selection) (p : Page) (g : ℕ → Packet) (n : ℕ) : Type 0 where
  pub heads : (t : ℕ) → t < n → heads_matched sel (g t) ≡ true → IsHeadOf p (g t)
  pub rows : (t : ℕ) → t < n → IsOwnedAt sel g t → (r : ℕ) → needed p (TheRow r) ≡ true → carries (selected_mag sel) (TheRow r) (g t)
      ≡ true → IsRowOf p r (g t)
  pub links : (t : ℕ) → t < n → IsOwnedAt sel g t → carries (selected_mag sel) TheLinks (g t) ≡ true → AreLinksOf p (g t)
  pub no_row_0 : (t : ℕ) → t < n → carries (selected_mag sel) (TheRow 0) (g t) ≡ false

-- a memory after a matching header
pub record IsTuned (sel : Selection) (p : Page) (g : ℕ → Packet) (t : ℕ) (m : Memory) : Type 0 where
  pub settled : m.fresh ≡ false
  pub control : m.control ≡ p.control
  pub owned : m.storing ≡ true → IsOwnedAt sel g t

-- since the header at position h the receiver has been storing the page
pub record IsStoring (h t : ℕ) (m : Memory) : Type 0 where
  pub storing : m.storing ≡ true
  pub age : m.age ≡ min (t - suc h) 64

module _ (class : Class) (lines : ℕ) (sel : Selection) (p : Page) (g : ℕ → Packet) (n : ℕ) (receives_page : ReceivesPage sel p g n) where
  abbrev next : Bool → Memory → ℕ → Memory
  next choice m t = after class lines sel choice (older m) (g t)

  pub tuned_begin : (t : ℕ) → t < n → heads_matched sel (g t) ≡ true → (choice : Bool) (m : Memory) →
      IsTuned sel p g (suc t) (next choice m t) × IsStoring t (suc t) (next choice m t)
  tuned_begin t lt here choice m =
      let b = after_begin class lines sel p choice (older m) (g t) here (receives_page.heads t lt here) in (
        record {
          settled = b.2;
          control = b.3;
          owned = λ _. record { place = t; before = omega arith; matched = here; none = λ i h k. absurd (omega arith) };
        },
        record { storing = b.0; age = b.1 ∙ omega arith },
      )

  owned_next : (t : ℕ) → (choice : Bool) (m : Memory) → (m.storing ≡ true → IsOwnedAt sel g t) → (next choice m t).storing ≡ true →
      IsOwnedAt sel g (suc t)
  owned_next t choice m owned st = elim (after_storing class lines sel choice (older m) (g t) st) as (λ _. IsOwnedAt sel g (suc t)) [
    | inl here ↦ record { place = t; before = omega arith; matched = here; none = λ i h k. absurd (omega arith) }
    | inr w ↦ let o = owned w.0 in record {
      place = o.place;
      before = omega (arith, o.before);
      matched = o.matched;
      none = λ i h k. elim (cases_lt i t) as (λ _. heads (selected_mag sel) (g i) ≡ false)
          [ inl lt ↦ o.none i h lt | inr ge ↦ let e : t ≡ i = omega arith in subst (λ x. heads (selected_mag sel) (g x) ≡ false) e w.1 ];
    }
  ]

  pub tuned_next : (t : ℕ) → t < n → (choice : Bool) (m : Memory) → IsTuned sel p g t m → IsTuned sel p g (suc t) (next choice m t)
  tuned_next t lt choice m c =
      let k = after_settled class lines sel p choice (older m) (g t) (receives_page.heads t lt) c.settled c.control in
      record { settled = k.0; control = k.1; owned = owned_next t choice m c.owned }

  pub storing_next : (h t : ℕ) → h < t → heads (selected_mag sel) (g t) ≡ false → ends_serial (selected_mag sel) (g t) ≡ false →
      (choice : Bool) (m : Memory) →
      IsStoring h t m → IsStoring h (suc t) (next choice m t)
  storing_next h t lt other on choice m s =
      let k = after_ready class lines sel choice (older m) (g t) other on s.storing in
      record { storing = k.0; age = k.1 ∙ omega (arith, s.age) }

  -- what is taken at position j and kept by each slot from then on is there in the end
  pub lasting : (Before : ℕ → Memory → Type 0) (Good : Memory → Type 0) (j : ℕ) → j < n →
      ((t : ℕ) → t < j → (choice : Bool) (m : Memory) → Shape m → Before t m → Before (suc t) (next choice m t)) →
      ((choice : Bool) (m : Memory) → Shape m → Before j m → IsTuned sel p g (suc j) (next choice m j) × Good (next choice m j)) →
      ((t : ℕ) → t < n → (choice : Bool) (m : Memory) → Shape m → IsTuned sel p g t m → Good m → Good (next choice m t)) →
      (t : ℕ) → t < n → (choice : Bool) (m : Memory) →
      Shape m × (t ≤ j → Before t m) × (j < t → IsTuned sel p g t m × Good m) →
      let new = next choice m t in Shape new × (suc t ≤ j → Before (suc t) new) × (j < suc t → IsTuned sel p g (suc t) new × Good new)
  lasting Before Good j inside earlier begins keeps t lt choice m i =
      let shape = shape_after class lines sel choice (older m) (g t) (record { count = i.0.count; width = i.0.width }) in (
        shape,
        (λ le. earlier t le choice m i.0 (i.1 (omega arith))),
        (λ le. elim (cases_lt j t) as (λ _. IsTuned sel p g (suc t) (next choice m t) × Good (next choice m t)) [
          | inl later ↦ let w = i.2 later in (tuned_next t lt choice m w.0, keeps t lt choice m i.0 w.0 w.1)
          | inr ge ↦ let e : j ≡ t = omega arith in
              subst (λ x. IsTuned sel p g (suc x) (next choice m x) × Good (next choice m x)) e
              (begins choice m i.0 (subst (λ x. Before x m) (sym e) (i.1 ge)))
        ]),
      )
