-- A page that a stream carries is seen.
use Rattle.std.proofs.Common.{◌≡◌, ◌⊎◌, ℕ, ◌≤◌, ℤ, pos, ◌+ℤ◌, ◌-ℤ◌, ◌<ℤ◌, ◌≤ℤ◌, nat_abs, true, List, length, drop, length-drop}
use Rattle.std.proofs.Common.{refl, sym, ap, ◌∙◌, subst, inl, inr, arith}
use Rattle.std.proofs.lemmas.Int.{ints}
use Rattle.ttx_page.specs.Pages.{Page, IsPage, matches}
use Rattle.ttx_page.specs.declared.selection.Selection.{Selection}
use Rattle.ttx_page.specs.declared.class.Class.{Class}
use Rattle.ttx_page.specs.declared.class.Class.TheVariants.{Any, Clearing}
use Rattle.ttx_page.specs.Memories.{Memory, IsFormer}
use Rattle.ttx_page.specs.Receivers.{Run}
use Rattle.ttx_page.specs.Receptions.{Received}
use Rattle.ttx_page.specs.Streams.{Stream}
use Rattle.ttx_page.proofs.SlotDistances.{cases_ltz}
use Rattle.ttx_certify.specs.Laws.{RunsAreSeen}
use Rattle.ttx_certify.specs.Seen.{HasView}
use Rattle.ttx_certify.proofs.AcceptedIsSeen as A
use Rattle.ttx_certify.proofs.LaterReceptions.{received_later}
use Rattle.ttx_receiver.specs.Laws.{StepsKeepMemories}
use Rattle.ttx_proof.specs.Carried.{Carries, AgreeingStreamsCarry, AgreeingStreamsAreReceived, AcceptedIsCarried, CarriedIsSeen}
use Rattle.ttx_proof.proofs.CutRuns.{run_goes_on}

pub accepted_is_carried : A.StreamLaws → AcceptedIsCarried
accepted_is_carried laws cycle pages w is_cycle are_pages is_certificate accepts n p here sel fits tau = record {
  steady = A.steady_from laws cycle pages w is_cycle are_pages is_certificate accepts n p here sel fits tau;
  brought = A.brought laws cycle pages w is_cycle are_pages is_certificate accepts n p here tau;
}

-- s before slot start, t from it on
module _ (start : ℤ) (s t : Stream) where
  picked : (i : ℤ) → (i <ℤ start) ⊎ (start ≤ℤ i) → List ℕ
  picked i (inl low) = s i
  picked i (inr high) = t i

  pub started : Stream
  started i = picked i (cases_ltz i start)

  picked_low : (i : ℤ) (c : (i <ℤ start) ⊎ (start ≤ℤ i)) → i <ℤ start → picked i c ≡ s i
  unfolding picked
  picked_low i (inl low) lt = refl
  picked_low i (inr high) lt = absurd (omega (arith, ints))

  picked_high : (i : ℤ) (c : (i <ℤ start) ⊎ (start ≤ℤ i)) → start ≤ℤ i → picked i c ≡ t i
  unfolding picked
  picked_high i (inl low) le = absurd (omega (arith, ints))
  picked_high i (inr high) le = refl

  started_low : (i : ℤ) → i <ℤ start → started i ≡ s i
  unfolding started
  started_low i lt = picked_low i (cases_ltz i start) lt

  pub started_high : (i : ℤ) → start ≤ℤ i → started i ≡ t i
  unfolding started
  started_high i le = picked_high i (cases_ltz i start) le

  -- if s is t from slot start on, up to now
  pub started_is : (now : ℤ) → ((i : ℤ) → start ≤ℤ i → i <ℤ now → s i ≡ t i) → (i : ℤ) → i <ℤ now → s i ≡ started i
  started_is now same i lt = elim (cases_ltz i start) as (λ _. s i ≡ started i) [
    | inl low ↦ sym (started_low i low)
    | inr high ↦ same i high lt ∙ sym (started_high i high)
  ]

module _ (runs : RunsAreSeen) (steps : StepsKeepMemories) (carry : AgreeingStreamsCarry) (receive : AgreeingStreamsAreReceived)
    (s t : Stream) (start now : ℤ) (same : (i : ℤ) → start ≤ℤ i → i <ℤ now → s i ≡ t i) (p : Page) (sel : Selection) (class : Class)
    (lines repeat limit : ℕ) (begin : ℤ) (page : IsPage p) (few : lines ≤ 32) (fits : matches sel p.id ≡ true) (after : start ≤ℤ begin)
    (carried : Carries t p sel class lines repeat limit begin) where
  abbrev mixed : Stream
  mixed = started start s t

  mixed_carries : Carries mixed p sel class lines repeat limit begin
  mixed_carries =
      let zero : begin +ℤ pos 0 ≡ begin = omega (arith, ints) in
      subst (Carries mixed p sel class lines repeat limit) zero
      (carry t mixed (pos 0) begin
      (λ i low. let k : i +ℤ pos 0 ≡ i = omega (arith, ints) in ap mixed k ∙ started_high start s t i (omega (arith, ints)))
      p sel class lines repeat limit carried)

  -- tuned at slot begin
  seen_from : (former m : Memory) (received : List (List ℕ)) → IsFormer class former → Received mixed p.id repeat begin received →
      (begin +ℤ pos limit) ≤ℤ (begin +ℤ pos (length received)) → Run class lines sel former received m → HasView p m
  seen_from former m received is_former permitted long run =
      let c = mixed_carries in
      runs mixed p sel class lines repeat begin (begin +ℤ pos limit) page few fits c.steady c.brought former m received is_former permitted run long

  mixed_received : (tau : ℤ) (received : List (List ℕ)) → (tau +ℤ pos (length received)) ≤ℤ now → Received s p.id repeat tau received →
      Received mixed p.id repeat tau received
  mixed_received tau received until permitted =
      receive s mixed now (started_is start s t now same) p.id tau received until repeat permitted

pub carried_is_seen : RunsAreSeen → StepsKeepMemories → AgreeingStreamsCarry → AgreeingStreamsAreReceived → CarriedIsSeen
carried_is_seen runs steps carry receive s t start now same p sel Any lines repeat limit begin page few fits after carried tau former m received
    tuned is_former permitted long until run =
    let n = nat_abs (begin -ℤ tau) in
    let at : begin ≡ tau +ℤ pos n = omega (arith, ints) in
    let some : n ≤ length received = omega (arith, ints) in
    let go = run_goes_on steps Any lines sel n received former m is_former (λ i lt. (permitted.each i lt).slot) run in
    let size = length-drop n received in
    let late : (begin +ℤ pos limit) ≤ℤ (begin +ℤ pos (length (drop n received))) = omega (arith, ints) in
    let alike = mixed_received runs steps carry receive s t start now same p sel Any lines repeat limit begin page few fits after carried tau
    received until permitted in
    seen_from runs steps carry receive s t start now same p sel Any lines repeat limit begin page few fits after carried go.mid m (drop n received)
    go.is_memory (received_later (started start s t) p.id repeat tau begin n at received some alike) late go.run
carried_is_seen runs steps carry receive s t start now same p sel Clearing lines repeat limit begin page few fits after carried tau former m received
    tuned is_former permitted long until run =
    let late : (begin +ℤ pos limit) ≤ℤ (begin +ℤ pos (length received)) = omega (arith, ints) in
    let alike = mixed_received runs steps carry receive s t start now same p sel Clearing lines repeat limit begin page few fits after carried tau
    received until permitted in
    seen_from runs steps carry receive s t start now same p sel Clearing lines repeat limit begin page few fits after carried former m received
    is_former (subst (λ z. Received (started start s t) p.id repeat z received) tuned alike) late run
