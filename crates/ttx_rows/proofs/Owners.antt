-- Whether a slot is under a header of the page that came since a slot of the stream, decided by looking back slot by slot.
use Rattle.std.proofs.Common.{◌≡◌, ℕ, zero, suc, ℤ, pos, negsuc, ◌+ℤ◌, ◌-ℤ◌, ◌≤ℤ◌, Bool, true, false, if◌then◌else◌}
use Rattle.std.proofs.Common.{refl, sym, ap, ◌∙◌, subst, inl, inr, arith}
use Rattle.std.proofs.lemmas.Bool.{cases_Bool, both_ways}
use Rattle.std.proofs.lemmas.Int.{ints}
use Rattle.ttx_header.specs.Ids.{Id}
use Rattle.ttx_page.specs.Packets.{packet_of}
use Rattle.ttx_page.specs.Streams.{Stream, heads, heads_page, IsLatestHeader}
use Rattle.ttx_page.proofs.SlotDistances.{cases_ltz, offset}

-- whether the latest header of the magazine among the n slots from slot tau on is the page's
abbrev pub is_under : Id → Stream → ℤ → ℕ → Bool
is_under page s tau zero = false
is_under page s tau (suc n) =
    if heads page.mag (packet_of (s (tau +ℤ pos n))) then heads_page page (packet_of (s (tau +ℤ pos n))) else is_under page s tau n

-- a header of the page, at slot tau or later, to which slot j belongs
pub record Owner (page : Id) (s : Stream) (tau j : ℤ) : Type 0 where
  pub slot : ℤ
  pub not_before : tau ≤ℤ slot
  pub latest : IsLatestHeader s page.mag slot j
  pub is_page : heads_page page (packet_of (s slot)) ≡ true

pub owner_found : (page : Id) (s : Stream) (tau : ℤ) (n : ℕ) → is_under page s tau n ≡ true → Owner page s tau (tau +ℤ pos n)
owner_found page s tau zero h = absurd (both_ways false refl h)
owner_found page s tau (suc n) h = elim (cases_Bool (heads page.mag (packet_of (s (tau +ℤ pos n))))) as (λ _. Owner page s tau (tau +ℤ pos (suc n))) [
  | inl here ↦ record {
    slot = tau +ℤ pos n;
    not_before = omega (arith, ints);
    latest = record { earlier = omega (arith, ints); is_header = here; none_between = λ i low high. absurd (omega (arith, ints)) };
    is_page = sym (chosen here) ∙ h;
  }
  | inr none ↦
      let o = owner_found page s tau n (sym (passed none) ∙ h) in
      record {
        slot = o.slot;
        not_before = o.not_before;
        latest = record {
          earlier = let e = o.latest.earlier in omega (arith, ints);
          is_header = o.latest.is_header;
          none_between = λ i low high. elim (cases_ltz i (tau +ℤ pos n)) as (λ _. heads page.mag (packet_of (s i)) ≡ false) [
            | inl before ↦ o.latest.none_between i low before
            | inr past ↦
                let e : tau +ℤ pos n ≡ i = omega (arith, ints) in
                subst (λ k. heads page.mag (packet_of (s k)) ≡ false) e none
          ];
        };
        is_page = o.is_page;
      }
]
  where
    chosen : heads page.mag (packet_of (s (tau +ℤ pos n))) ≡ true → is_under page s tau (suc n) ≡ heads_page page (packet_of (s (tau +ℤ pos n)))
    chosen here = ap (λ (b : Bool). if b then heads_page page (packet_of (s (tau +ℤ pos n))) else is_under page s tau n) here

    passed : heads page.mag (packet_of (s (tau +ℤ pos n))) ≡ false → is_under page s tau (suc n) ≡ is_under page s tau n
    passed none = ap (λ (b : Bool). if b then heads_page page (packet_of (s (tau +ℤ pos n))) else is_under page s tau n) none

pub owner_known : (page : Id) (s : Stream) (tau : ℤ) (n : ℕ) → Owner page s tau (tau +ℤ pos n) → is_under page s tau n ≡ true
owner_known page s tau zero o = let low = o.not_before in let high = o.latest.earlier in absurd (omega (arith, ints))
owner_known page s tau (suc n) o = elim (cases_ltz o.slot (tau +ℤ pos n)) as (λ _. is_under page s tau (suc n) ≡ true) [
  | inl before ↦
      let none : heads page.mag (packet_of (s (tau +ℤ pos n))) ≡ false = o.latest.none_between (tau +ℤ pos n) before (omega (arith, ints)) in
      ap (λ (b : Bool). if b then heads_page page (packet_of (s (tau +ℤ pos n))) else is_under page s tau n) none
      ∙ owner_known page s tau n (record {
        slot = o.slot;
        not_before = o.not_before;
        latest = record {
          earlier = before;
          is_header = o.latest.is_header;
          none_between = λ i low high. o.latest.none_between i low (omega (arith, ints));
        };
        is_page = o.is_page;
      })
  | inr past ↦
      let high = o.latest.earlier in
      let e : o.slot ≡ tau +ℤ pos n = omega (arith, ints) in
      let here : heads page.mag (packet_of (s (tau +ℤ pos n))) ≡ true = subst (λ k. heads page.mag (packet_of (s k)) ≡ true) e o.latest.is_header in
      ap (λ (b : Bool). if b then heads_page page (packet_of (s (tau +ℤ pos n))) else is_under page s tau n) here
      ∙ subst (λ k. heads_page page (packet_of (s k)) ≡ true) e o.is_page
]

-- the same, by the place of the slot
abbrev pub under_at : Id → Stream → ℤ → ℤ → Bool
under_at page s tau (pos n) = is_under page s tau n
under_at page s tau (negsuc n) = false

abbrev pub is_under_since : Id → Stream → ℤ → ℤ → Bool
is_under_since page s tau j = under_at page s tau (j -ℤ tau)

pub since_found : (page : Id) (s : Stream) (tau j : ℤ) → is_under_since page s tau j ≡ true → Owner page s tau j
since_found page s tau j h = go (j -ℤ tau) refl h
  where
    go : (d : ℤ) → j -ℤ tau ≡ d → under_at page s tau d ≡ true → Owner page s tau j
    go (pos n) e h = let at : tau +ℤ pos n ≡ j = omega (arith, ints) in subst (Owner page s tau) at (owner_found page s tau n h)
    go (negsuc n) e h = absurd (both_ways false refl h)

pub since_known : (page : Id) (s : Stream) (tau j : ℤ) → Owner page s tau j → is_under_since page s tau j ≡ true
since_known page s tau j o =
    let low = o.not_before in
    let high = o.latest.earlier in
    let k = offset tau j (omega (arith, ints)) in
    let e : j -ℤ tau ≡ pos k.0 = let at = k.1 in omega (arith, ints) in
    ap (under_at page s tau) e ∙ owner_known page s tau k.0 (subst (Owner page s tau) k.1 o)
