-- The slots of a replay.
use Rattle.std.proofs.Common.{◌≡◌, ℕ, zero, suc, ◌<◌, ℤ, pos, ◌+ℤ◌, ◌-ℤ◌, List, [], ◌∷◌, length, slice_index_or, refl, sym, ap, ◌∙◌, subst, arith}
use Rattle.std.proofs.lemmas.Int.{ints}
use Rattle.ttx_page.specs.Streams.{Stream, turned, repeated}
use Rattle.ttx_page.specs.Laws.{EachSlotTurns, sent_from}
use Rattle.ttx_playout.specs.Schedules.{Edition, Showing, sent, IsEdition, AreEditions}
use Rattle.ttx_playout.specs.Takeovers.{at_of, IsPlace, HasSent}
use Rattle.ttx_playout.specs.declared.state.OnAir.{OnAir}
use Rattle.ttx_air.specs.Newsrooms.{News}
use Rattle.ttx_air.specs.Endings.{playout_after}
use Rattle.ttx_air.specs.Airings.{air_of}
use Rattle.ttx_broadcast.specs.Laws.{EndingsAreReplayed, AirIsReplayed}

-- places of a cycle that are one place are one place so many slots on
on_and_on : EachSlotTurns → (n : ℕ) (i j d : ℤ) → 0 < n → turned n i ≡ turned n j → turned n (i +ℤ d) ≡ turned n (j +ℤ d)
on_and_on turn n i j d some same =
    let t = turn n i some in
    let u = turn n j some in
    let at = t.place in
    let at' = u.place in
    let e : i +ℤ d ≡ (pos (turned n i) +ℤ d) +ℤ t.by = omega (arith, ints, at) in
    let f : j +ℤ d ≡ (pos (turned n j) +ℤ d) +ℤ u.by = omega (arith, ints, at') in
    ap (turned n) e ∙ t.same (pos (turned n i) +ℤ d) ∙ ap (λ m. turned n (pos m +ℤ d)) same ∙ sym (u.same (pos (turned n j) +ℤ d)) ∙ sym (ap (turned n) f)

same_stretch : (s : Stream) (i j : ℤ) (n : ℕ) → ((k : ℕ) → s (i +ℤ pos k) ≡ s (j +ℤ pos k)) → sent_from s i n ≡ sent_from s j n
same_stretch s i j zero same = refl
same_stretch s i j (suc n) same =
    let e : i ≡ i +ℤ pos 0 = omega (arith, ints) in
    let f : j ≡ j +ℤ pos 0 = omega (arith, ints) in
    let head : s i ≡ s j = ap s e ∙ same 0 ∙ sym (ap s f) in
    let tail = same_stretch s (i +ℤ pos 1) (j +ℤ pos 1) n (λ k.
    let a : (i +ℤ pos 1) +ℤ pos k ≡ i +ℤ pos (suc k) = omega (arith, ints) in
    let b : (j +ℤ pos 1) +ℤ pos k ≡ j +ℤ pos (suc k) = omega (arith, ints) in
    ap s a ∙ same (suc k) ∙ sym (ap s b)) in
    λ m. head m ∷ tail m

first_is : (first : Edition) (later : List Showing) → AreEditions first later → IsEdition first
first_is first [] are = are
first_is first (t ∷ later) are = are.0

same_sent : EachSlotTurns → (first : Edition) (later : List Showing) (at n : ℕ) (i j : ℤ) → IsEdition first → IsPlace first later at i →
    IsPlace first later at j → sent_from (sent first later) (i -ℤ pos n) n ≡ sent_from (sent first later) (j -ℤ pos n) n
same_sent turn first [] at n i j is here there =
    same_stretch (repeated first.cycle) (i -ℤ pos n) (j -ℤ pos n) n (λ k.
    let d = pos k -ℤ pos n in
    let a : (i -ℤ pos n) +ℤ pos k ≡ i +ℤ d = omega (arith, ints) in
    let b : (j -ℤ pos n) +ℤ pos k ≡ j +ℤ d = omega (arith, ints) in
    ap (repeated first.cycle) a
    ∙ ap (λ m. slice_index_or first.cycle m []) (on_and_on turn (length first.cycle) i j d is.cycle.some (here ∙ sym there))
    ∙ sym (ap (repeated first.cycle) b))
same_sent turn first (t ∷ later) at n i j is here there = ap (λ k. sent_from (sent first (t ∷ later)) (k -ℤ pos n) n) (here ∙ sym there)

same_log : EachSlotTurns → (first : Edition) (later : List Showing) (o o' : OnAir) (slots slots' : List (List ℕ)) → HasSent slots o first later →
    HasSent slots' o' first later → at_of o ≡ at_of o' → length slots ≡ length slots' → slots' ≡ slots
same_log turn first later o o' slots slots' a b place long =
    let is = first_is first later a.on_air.editions in
    let there = subst (λ m. IsPlace first later m b.next) (sym place) b.place in
    sym b.is_log
    ∙ ap (λ n. sent_from (sent first later) (b.next -ℤ pos n) n) (sym long)
    ∙ same_sent turn first later (at_of o) (length slots) b.next a.next is there a.place
    ∙ a.is_log

pub air_is_replayed : {N M : Type 0} (gives : N → Edition → ℕ → News → N → Type 0) (again : M → Edition → ℕ → News → M → Type 0) →
    EndingsAreReplayed → EachSlotTurns → AirIsReplayed gives again
air_is_replayed gives again replays turn receivers times first before after before' after' last last' a b is news answers long =
    let r = replays receivers times first.edition a.past b.past is news a.aired.endings b.aired.endings answers in
    let p = playout_after first.edition a.past in
    let sent' = subst (λ q. HasSent b.slots b.on_air first.edition q.later) r.0 b.aired.sent in
    let slots : (playout_after first.edition b.past).slots ≡ p.slots = ap (λ q. q.slots) r.0 in
    let place : at_of a.on_air ≡ at_of b.on_air = omega (arith, a.aired.place, b.aired.place, slots, long) in (
      ap (air_of times first.edition)
          (same_log turn first.edition p.later a.on_air b.on_air a.slots b.slots a.aired.sent sent' place long),
      r.1,
    )
