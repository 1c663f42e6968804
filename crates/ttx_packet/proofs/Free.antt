-- Bytes that may be received as anything.
use Rattle.std.proofs.Common.{◌≡◌, ◌⊎◌, ℕ, ◌<◌, ◌≤◌, List, slice_index, sym, ◌∙◌, subst, inl, inr}
use Rattle.std.proofs.lemmas.Bool.{cases_lt}
use Rattle.ttx_code.specs.Words.{Near}
use Rattle.ttx_packet.specs.Slots.{Kind, IsEmpty, IsHeader, IsInfo, IsSlot, kind_of}
use Rattle.ttx_packet.specs.Receptions.{IsFree, MayBeReceivedAs}
use Rattle.ttx_packet.specs.Laws.{ClocksAreFree, InfosAreFree}
use Rattle.ttx_packet.proofs.Cases.{kind_when_empty}

module _ (near : (b : ℕ) → Near b b) (sent received : List ℕ) (kind : Kind) (is : kind_of sent ≡ kind) (slot : IsSlot received) where
  -- the slot is received as sent below byte n, and all bytes from n on are free
  from_byte : (n : ℕ) → (kind ≡ IsEmpty → ⊥) → ((x : ℕ) → n ≤ x → IsFree kind x) →
      ((x : ℕ) → x < n → slice_index received x ≡ slice_index sent x) → MayBeReceivedAs sent received
  from_byte n some free same = record {
    slot = slot;
    empty = λ e. absurd (some (sym is ∙ kind_when_empty sent e));
    near = λ x lt. elim (cases_lt x n) as (λ _. IsFree (kind_of sent) x ⊎ Near (slice_index sent x) (slice_index received x)) [
      | inl below ↦ inr (subst (λ b. Near (slice_index sent x) b) (sym (same x below)) (near (slice_index sent x)))
      | inr past ↦ inl (subst (λ k. IsFree k x) (sym is) (free x past))
    ];
  }

pub clocks_are_free : ((b : ℕ) → Near b b) → ClocksAreFree
clocks_are_free near sent received mag is slot same = from_byte near sent received (IsHeader mag) is slot 34 (λ e. cc) (λ x past. past) same

pub infos_are_free : ((b : ℕ) → Near b b) → InfosAreFree
infos_are_free near sent received is slot same = from_byte near sent received IsInfo is slot 2 (λ e. cc) (λ x past. past) same
