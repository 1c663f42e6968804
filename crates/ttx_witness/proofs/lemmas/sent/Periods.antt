-- If a stream repeats after n slots, then so do its owners and sure transmissions.
use Rattle.std.proofs.Common.{◌≡◌, ◌↔◌, ℕ, ◌≤◌, ℤ, pos, ◌+ℤ◌, ◌-ℤ◌, ◌<ℤ◌, ◌≤ℤ◌, false, sym, ap, ◌∙◌, subst, inl, inr, arith}
use Rattle.std.proofs.lemmas.Int.{ints}
use Rattle.std.proofs.lemmas.Bool.{both_ways}
use Rattle.ttx_page.proofs.SlotDistances.{cases_ltz}
use Rattle.ttx_header.specs.Ids.{Id}
use Rattle.ttx_page.specs.Packets.{packet_of}
use Rattle.ttx_page.specs.declared.item.Item.{Item}
use Rattle.ttx_page.specs.declared.item.Item.TheVariants.{Head as TheHead, Row as TheRow, Links as TheLinks}
use Rattle.ttx_page.specs.Streams.{Stream, heads, heads_page, ends_serial, carries, IsLatestHeader, IsOwned, IsSure}
use Rattle.ttx_witness.specs.runs.Repeating.{Repeats}

-- one slot has one owner
pub latest_same : (s : Stream) (mag : ℕ) (h k j : ℤ) → IsLatestHeader s mag h j → IsLatestHeader s mag k j → h ≡ k
latest_same s mag h k j a b = elim (cases_ltz h k) as (λ _. h ≡ k) [
  | inl lt ↦ absurd (both_ways _ (a.none_between k lt b.earlier) b.is_header)
  | inr ge ↦ elim (cases_ltz k h) as (λ _. h ≡ k) [
    | inl lt ↦ absurd (both_ways _ (b.none_between h lt a.earlier) a.is_header)
    | inr le ↦ omega (arith, ints)
  ]
]

pub owned_same : (s : Stream) (page : Id) (item : Item) (h k j : ℤ) → IsOwned s page item h j → IsOwned s page item k j → h ≡ k
owned_same s page TheHead h k j a b = a.0 ∙ sym b.0
owned_same s page (TheRow r) h k j a b = latest_same s page.mag h k j a.0 b.0
owned_same s page TheLinks h k j a b = latest_same s page.mag h k j a.0 b.0

-- owners are not later than their slots, and do not fall
pub owned_before : (s : Stream) (page : Id) (item : Item) (h j : ℤ) → IsOwned s page item h j → h ≤ℤ j
owned_before s page TheHead h j a = let e = a.0 in omega (arith, ints)
owned_before s page (TheRow r) h j a = let e = a.0.earlier in omega (arith, ints)
owned_before s page TheLinks h j a = let e = a.0.earlier in omega (arith, ints)

latest_monotone : (s : Stream) (mag : ℕ) (h k i j : ℤ) → i ≤ℤ j → IsLatestHeader s mag h i → IsLatestHeader s mag k j → h ≤ℤ k
latest_monotone s mag h k i j le a b = elim (cases_ltz k h) as (λ _. h ≤ℤ k) [
  | inl lt ↦ absurd (both_ways _ (b.none_between h lt (let e = a.earlier in omega (arith, ints))) a.is_header)
  | inr ge ↦ ge
]

pub owned_monotone : (s : Stream) (page : Id) (item : Item) (h k i j : ℤ) → i ≤ℤ j → IsOwned s page item h i → IsOwned s page item k j → h ≤ℤ k
owned_monotone s page TheHead h k i j le a b = let e = a.0 in let f = b.0 in omega (arith, ints)
owned_monotone s page (TheRow r) h k i j le a b = latest_monotone s page.mag h k i j le a.0 b.0
owned_monotone s page TheLinks h k i j le a b = latest_monotone s page.mag h k i j le a.0 b.0

module _ (s : Stream) (n : ℕ) (period : (i : ℤ) → s (i +ℤ pos n) ≡ s i) where
  back : (i : ℤ) → s (i -ℤ pos n) ≡ s i
  back i = let e : (i -ℤ pos n) +ℤ pos n ≡ i = omega (arith, ints) in sym (period (i -ℤ pos n)) ∙ ap s e

  pub latest_later : (mag : ℕ) (h j : ℤ) → IsLatestHeader s mag h j → IsLatestHeader s mag (h +ℤ pos n) (j +ℤ pos n)
  latest_later mag h j a = record {
    earlier = let e = a.earlier in omega (arith, ints);
    is_header = ap (λ x. heads mag (packet_of x)) (period h) ∙ a.is_header;
    none_between = λ i low high. ap (λ x. heads mag (packet_of x)) (sym (back i))
        ∙ a.none_between (i -ℤ pos n) (omega (arith, ints)) (omega (arith, ints));
  }

  pub latest_earlier : (mag : ℕ) (h j : ℤ) → IsLatestHeader s mag h j → IsLatestHeader s mag (h -ℤ pos n) (j -ℤ pos n)
  latest_earlier mag h j a = record {
    earlier = let e = a.earlier in omega (arith, ints);
    is_header = ap (λ x. heads mag (packet_of x)) (back h) ∙ a.is_header;
    none_between = λ i low high. ap (λ x. heads mag (packet_of x)) (sym (period i))
        ∙ a.none_between (i +ℤ pos n) (omega (arith, ints)) (omega (arith, ints));
  }

  pub owned_later : (page : Id) (item : Item) (h j : ℤ) → IsOwned s page item h j → IsOwned s page item (h +ℤ pos n) (j +ℤ pos n)
  owned_later page TheHead h j a = (ap (λ x. x +ℤ pos n) a.0, ap (λ x. heads_page page (packet_of x)) (period j) ∙ a.1)
  owned_later page (TheRow r) h j a = (
    latest_later page.mag h j a.0,
    ap (λ x. heads_page page (packet_of x)) (period h) ∙ a.1,
    ap (λ x. carries page.mag (TheRow r) (packet_of x)) (period j) ∙ a.2,
  )
  owned_later page TheLinks h j a = (
    latest_later page.mag h j a.0,
    ap (λ x. heads_page page (packet_of x)) (period h) ∙ a.1,
    ap (λ x. carries page.mag TheLinks (packet_of x)) (period j) ∙ a.2,
  )

  pub owned_earlier : (page : Id) (item : Item) (h j : ℤ) → IsOwned s page item h j → IsOwned s page item (h -ℤ pos n) (j -ℤ pos n)
  owned_earlier page TheHead h j a = (ap (λ x. x -ℤ pos n) a.0, ap (λ x. heads_page page (packet_of x)) (back j) ∙ a.1)
  owned_earlier page (TheRow r) h j a = (
    latest_earlier page.mag h j a.0,
    ap (λ x. heads_page page (packet_of x)) (back h) ∙ a.1,
    ap (λ x. carries page.mag (TheRow r) (packet_of x)) (back j) ∙ a.2,
  )
  owned_earlier page TheLinks h j a = (
    latest_earlier page.mag h j a.0,
    ap (λ x. heads_page page (packet_of x)) (back h) ∙ a.1,
    ap (λ x. carries page.mag TheLinks (packet_of x)) (back j) ∙ a.2,
  )

  sure_row_later : (lines mag : ℕ) (h j : ℤ) → ((h +ℤ pos lines) <ℤ j) × ((i : ℤ) → h <ℤ i → i <ℤ j → ends_serial mag (packet_of (s i)) ≡ false) →
      (((h +ℤ pos n) +ℤ pos lines) <ℤ (j +ℤ pos n)) × ((i : ℤ) → (h +ℤ pos n) <ℤ i → i <ℤ (j +ℤ pos n) → ends_serial mag (packet_of (s i)) ≡ false)
  sure_row_later lines mag h j a = (
    let e = a.0 in omega (arith, ints),
    λ i low high. ap (λ x. ends_serial mag (packet_of x)) (sym (back i))
        ∙ a.1 (i -ℤ pos n) (omega (arith, ints)) (omega (arith, ints)),
  )

  sure_row_earlier : (lines mag : ℕ) (h j : ℤ) → (((h +ℤ pos n) +ℤ pos lines) <ℤ (j +ℤ pos n))
      × ((i : ℤ) → (h +ℤ pos n) <ℤ i → i <ℤ (j +ℤ pos n) → ends_serial mag (packet_of (s i)) ≡ false) →
      ((h +ℤ pos lines) <ℤ j) × ((i : ℤ) → h <ℤ i → i <ℤ j → ends_serial mag (packet_of (s i)) ≡ false)
  sure_row_earlier lines mag h j a = (
    let e = a.0 in omega (arith, ints),
    λ i low high. ap (λ x. ends_serial mag (packet_of x)) (sym (period i))
        ∙ a.1 (i +ℤ pos n) (omega (arith, ints)) (omega (arith, ints)),
  )

  pub sure_later : (lines mag : ℕ) (item : Item) (h j : ℤ) → IsSure s lines mag item h j ↔ IsSure s lines mag item (h +ℤ pos n) (j +ℤ pos n)
  sure_later lines mag TheHead h j = (λ a. a, λ a. a)
  sure_later lines mag (TheRow r) h j = (sure_row_later lines mag h j, sure_row_earlier lines mag h j)
  sure_later lines mag TheLinks h j = (sure_row_later lines mag h j, sure_row_earlier lines mag h j)

  -- an owner is at most one period before its slot
  latest_near : 1 ≤ n → (mag : ℕ) (h j : ℤ) → IsLatestHeader s mag h j → j ≤ℤ (h +ℤ pos n)
  latest_near some mag h j a = elim (cases_ltz (h +ℤ pos n) j) as (λ _. j ≤ℤ (h +ℤ pos n)) [
    | inl lt ↦ elim (cases_ltz h (h +ℤ pos n)) as (λ _. j ≤ℤ (h +ℤ pos n)) [
      | inl up ↦ absurd (both_ways _ (a.none_between (h +ℤ pos n) up lt) (ap (λ x. heads mag (packet_of x)) (period h) ∙ a.is_header))
      | inr dn ↦ absurd (omega (arith, ints))
    ]
    | inr ge ↦ ge
  ]

  pub owned_near : 1 ≤ n → (page : Id) (item : Item) (h j : ℤ) → IsOwned s page item h j → j ≤ℤ (h +ℤ pos n)
  owned_near some page TheHead h j a = let e = a.0 in omega (arith, ints)
  owned_near some page (TheRow r) h j a = latest_near some page.mag h j a.0
  owned_near some page TheLinks h j a = latest_near some page.mag h j a.0

-- the same for any distance d
module _ (s : Stream) (d : ℤ) (same : (i : ℤ) → s (i +ℤ d) ≡ s i) where
  back_d : (i : ℤ) → s (i -ℤ d) ≡ s i
  back_d i = let e : (i -ℤ d) +ℤ d ≡ i = omega (arith, ints) in sym (same (i -ℤ d)) ∙ ap s e

  pub latest_moved : (mag : ℕ) (h j : ℤ) → IsLatestHeader s mag h j → IsLatestHeader s mag (h +ℤ d) (j +ℤ d)
  latest_moved mag h j a = record {
    earlier = let e = a.earlier in omega (arith, ints);
    is_header = ap (λ x. heads mag (packet_of x)) (same h) ∙ a.is_header;
    none_between = λ i low high. ap (λ x. heads mag (packet_of x)) (sym (back_d i))
        ∙ a.none_between (i -ℤ d) (omega (arith, ints)) (omega (arith, ints));
  }

-- the transmissions of an item in a stream that repeats
pub repeats : (s : Stream) (n : ℕ) → 1 ≤ n → ((i : ℤ) → s (i +ℤ pos n) ≡ s i) → (page : Id) (lines : ℕ) (item : Item) →
    Repeats n (IsOwned s page item) (IsSure s lines page.mag item)
repeats s n some period page lines item = record {
  some = some;
  one_owner = λ h k j. owned_same s page item h k j;
  before = λ h j. owned_before s page item h j;
  near = λ h j. owned_near s n period some page item h j;
  order = λ h k i j. owned_monotone s page item h k i j;
  owned_later = λ h j. owned_later s n period page item h j;
  owned_earlier = λ h j. owned_earlier s n period page item h j;
  sure_later = λ h j. (sure_later s n period lines page.mag item h j).0;
  sure_earlier = λ h j a.
      let e = back_z h in let f = back_z j in
      (sure_later s n period lines page.mag item (h -ℤ pos n) (j -ℤ pos n)).1
      (subst (λ x. IsSure s lines page.mag item x ((j -ℤ pos n) +ℤ pos n)) (sym e)
      (subst (IsSure s lines page.mag item h) (sym f) a));
}
  where
    back_z : (x : ℤ) → (x -ℤ pos n) +ℤ pos n ≡ x
    back_z x = omega (arith, ints)
