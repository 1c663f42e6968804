-- Reception without errors.
use Rattle.std.proofs.Common.{◌≡◌, ℕ, zero, suc, ◌<◌, ◌≤◌, ℤ, pos, ◌+ℤ◌, ◌<ℤ◌, ◌≤ℤ◌, List, [], ◌∷◌, length, get_or, refl, sym, ap, ◌∙◌, subst, inl}
use Rattle.std.proofs.Common.{inr, arith}
use Rattle.std.specs.List.{AllByRecursion}
use Rattle.std.specs.Int.Bits.{xor_self}
use Rattle.std.proofs.lemmas.Int.{ints}
use Rattle.ttx_code.specs.Words.{Near, ones, distance}
use Rattle.ttx_packet.specs.Receptions.{MayBeReceivedAs}
use Rattle.ttx_page.specs.Streams.{Stream}
use Rattle.ttx_page.specs.Receptions.{IsRight, OneIs}
use Rattle.ttx_page.specs.Laws.{sent_from, ExactIsReceived}
use Rattle.ttx_page.proofs.SlotDistances.{offset, offset_lt}

pub near_self : (a : ℕ) → Near a a
unfolding distance ones
near_self a = subst (λ x. ones x ≤ 1) (sym (xor_self a)) (omega arith)

length-sent_from : (s : Stream) (tau : ℤ) (n : ℕ) → length (sent_from s tau n) ≡ n
length-sent_from s tau zero = refl
length-sent_from s tau (suc n) = ap suc (length-sent_from s (tau +ℤ pos 1) n)

sent_at : (s : Stream) (tau : ℤ) (n k : ℕ) → k < n → get_or (sent_from s tau n) k [] ≡ s (tau +ℤ pos k)
sent_at s tau zero k h = absurd (omega arith)
sent_at s tau (suc n) zero h = let e : tau ≡ tau +ℤ pos 0 = omega (arith, ints) in ap s e
sent_at s tau (suc n) (suc k) h =
    let e : (tau +ℤ pos 1) +ℤ pos k ≡ tau +ℤ pos (suc k) = omega (arith, ints) in
    sent_at s (tau +ℤ pos 1) n k (omega arith) ∙ ap s e

pub exact_is_received : ExactIsReceived
exact_is_received s page repeat tau n slots some =
    let received = sent_from s tau n in
    let long : length received ≡ n = length-sent_from s tau n in
    record {
      each = λ k lt.
          let e : s (tau +ℤ pos k) ≡ get_or received k [] = sym (sent_at s tau n k (omega arith)) in
          subst (λ slot. MayBeReceivedAs (s (tau +ℤ pos k)) slot) e
          (record { slot = slots (tau +ℤ pos k); empty = λ h. h; near = λ x h. inr (near_self (get_or (s (tau +ℤ pos k)) x 0)) });
      one_right = λ item x text places count run inside. first_right x places count inside;
    }
  where
    first_right : (x : ℕ) (places : List ℤ) → length places ≡ repeat →
        AllByRecursion (λ j. (tau ≤ℤ j) × (j <ℤ (tau +ℤ pos (length (sent_from s tau n))))) places →
        OneIs (IsRight s tau (sent_from s tau n) x) places
    first_right x [] count inside = absurd (omega arith)
    first_right x (j ∷ places) count inside =
        let k = offset tau j inside.0.0 in
        let lt : k.0 < n =
        let e = length-sent_from s tau n in
        let q : k.0 < length (sent_from s tau n) = offset_lt tau k.0 _ (subst (λ z. z <ℤ (tau +ℤ pos (length (sent_from s tau n)))) k.1 inside.0.1) in
        omega arith
        in
        inl (record { index = k.0; place = k.1; right = ap (λ slot. get_or slot x 0) (sent_at s tau n k.0 lt ∙ ap s (sym k.1)) })
