-- Slots under a header of a page, and receivers that are storing there.
use Rattle.std.proofs.Common.{◌≡◌, ◌⊎◌, ℕ, ℤ, pos, ◌+ℤ◌, ◌<ℤ◌, ◌≤ℤ◌, true, false, List, sym, ◌∙◌, subst, inl, inr, arith}
use Rattle.std.proofs.lemmas.Int.{ints}
use Rattle.std.proofs.lemmas.Bool.{both_ways, cases_Bool}
use Rattle.ttx_page.proofs.SlotDistances.{cases_ltz}
use Rattle.ttx_page.proofs.Owners.{page_heads}
use Rattle.ttx_header.specs.Ids.{Id}
use Rattle.ttx_page.specs.Packets.{Packet, packet_of}
use Rattle.ttx_page.specs.Pages.{selected_mag, matches}
use Rattle.ttx_page.specs.declared.selection.Selection.{Selection}
use Rattle.ttx_page.specs.declared.class.Class.{Class}
use Rattle.ttx_page.specs.Memories.{Memory}
use Rattle.ttx_page.specs.Receivers.{Step}
use Rattle.ttx_page.specs.Streams.{Stream, heads, heads_page, heads_matched, IsLatestHeader}
use Rattle.ttx_page.specs.Followers.{heads_another, IsFollowed}
use Rattle.ttx_late.specs.LateReceivers.{heads_number}
use Rattle.ttx_late.proofs.KeptSlots.{SameTests}
use Rattle.ttx_late.proofs.GatheredMemories.{mag_is, number_heads, another_number, step_storing}

-- a list of slots with no header of the magazine, and one more
pub none_more : (s : Stream) (mag : ℕ) (P : ℤ → Type 0) (j k : ℤ) → k ≡ j +ℤ pos 1 →
    ((i : ℤ) → P i → i <ℤ j → heads mag (packet_of (s i)) ≡ false) → heads mag (packet_of (s j)) ≡ false →
    (i : ℤ) → P i → i <ℤ k → heads mag (packet_of (s i)) ≡ false
none_more s mag P j k next none here i from to = elim (cases_ltz i j) as (λ _. heads mag (packet_of (s i)) ≡ false)
    [ inl lt ↦ none i from lt | inr ge ↦ let e : j ≡ i = omega (arith, ints) in subst (λ z. heads mag (packet_of (s z)) ≡ false) e here ]

pub another_heads : (page : Id) (pkt : Packet) → heads_another page pkt ≡ true → heads page.mag pkt ≡ true
another_heads page pkt h = grind arith

-- the header that follows is not before a slot up to which there is none
pub not_earlier : (s : Stream) (page : Id) (h j : ℤ) → IsLatestHeader s page.mag h j → (f : IsFollowed s page h) → j ≤ℤ f.slot
not_earlier s page h j latest f = elim (cases_ltz f.slot j) as (λ _. j ≤ℤ f.slot) [
  | inl lt ↦ absurd (both_ways _ (latest.none_between f.slot f.next.earlier lt) (another_heads page (packet_of (s f.slot)) f.another))
  | inr ge ↦ ge
]

-- the next header of the magazine is the one that follows
pub next_is : (s : Stream) (page : Id) (h j : ℤ) → IsLatestHeader s page.mag h j → heads page.mag (packet_of (s j)) ≡ true →
    (f : IsFollowed s page h) → f.slot ≡ j
next_is s page h j latest head f =
    let ge = not_earlier s page h j latest f in
    elim (cases_ltz j f.slot) as (λ _. f.slot ≡ j)
    [ inl lt ↦ absurd (both_ways _ (f.next.none_between j latest.earlier lt) head) | inr le ↦ omega (arith, ints) ]

-- the latest header of the magazine before slot j is the page's, and at one of these slots
pub record IsUnder (s : Stream) (page : Id) (P : ℤ → Type 0) (j : ℤ) : Type 0 where
  pub header : ℤ
  pub within : P header
  pub own : heads_page page (packet_of (s header)) ≡ true
  pub latest : IsLatestHeader s page.mag header j

module _ (s : Stream) (page : Id) (P : ℤ → Type 0) (j k : ℤ) (next : k ≡ j +ℤ pos 1) where
  pub under_own : P j → heads_page page (packet_of (s j)) ≡ true → IsUnder s page P k
  under_own here own = record {
    header = j;
    within = here;
    own = own;
    latest = record {
      earlier = omega (arith, ints);
      is_header = page_heads page (packet_of (s j)) own;
      none_between = λ i from to. absurd (omega (arith, ints));
    };
  }

  pub under_more : (u : IsUnder s page P j) → heads page.mag (packet_of (s j)) ≡ false → IsUnder s page P k
  under_more u none = record {
    header = u.header;
    within = u.within;
    own = u.own;
    latest = record {
      earlier = let before = u.latest.earlier in omega (arith, ints);
      is_header = u.latest.is_header;
      none_between = none_more s page.mag (λ i. u.header <ℤ i) j k next u.latest.none_between none;
    };
  }

module _ (s : Stream) (page : Id) (sel : Selection) (fits : matches sel page ≡ true) (j : ℤ) (slot : List ℕ) (same : SameTests (s j) slot) where
  pub no_header : heads (selected_mag sel) (packet_of slot) ≡ false → heads page.mag (packet_of (s j)) ≡ false
  no_header none = subst (λ mag. heads mag (packet_of (s j)) ≡ false) (mag_is sel page fits) (sym (same.heads (selected_mag sel)) ∙ none)

  -- under a followed header no other header of the page number is received
  pub not_number : (h : ℤ) → IsLatestHeader s page.mag h j → IsFollowed s page h → heads_number sel (packet_of slot) ≡ false
  not_number h latest f = elim (cases_Bool (heads_number sel (packet_of (s j)))) as (λ _. heads_number sel (packet_of slot) ≡ false) [
    | inr other ↦ same.number sel ∙ other
    | inl own ↦
        let head = subst (λ mag. heads mag (packet_of (s j)) ≡ true) (mag_is sel page fits) (number_heads sel (packet_of (s j)) own) in
        absurd (both_ways _ (another_number sel page fits (packet_of (s f.slot)) f.another)
        (subst (λ z. heads_number sel (packet_of (s z)) ≡ true) (sym (next_is s page h j latest head f)) own))
  ]

  -- if a receiver is storing after the slot, the slot is a header of the page, or it was storing before and the slot is no header
  pub stores : (class : Class) (lines : ℕ) → (heads_matched sel (packet_of (s j)) ≡ true → heads_page page (packet_of (s j)) ≡ true) →
      (m new : Memory) → Step class lines sel m slot new → new.storing ≡ true →
      (heads_page page (packet_of (s j)) ≡ true) ⊎ ((m.storing ≡ true) × (heads page.mag (packet_of (s j)) ≡ false))
  stores class lines selected m new step on = elim (step_storing class lines sel m new slot step on) as
      (λ _. (heads_page page (packet_of (s j)) ≡ true) ⊎ ((m.storing ≡ true) × (heads page.mag (packet_of (s j)) ≡ false)))
      [ inl matched ↦ inl (selected (sym (same.matched sel) ∙ matched)) | inr kept ↦ inr (kept.0, no_header kept.1) ]
