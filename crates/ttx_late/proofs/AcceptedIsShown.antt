-- A page of an accepted cycle that is followed by another page number is shown.
use Rattle.std.proofs.Common.{◌≡◌, ℕ, pos, ◌+ℤ◌, ◌≤ℤ◌, true, false, List, [], ◌∷◌, length, refl, sym, subst, inl, inr, arith}
use Rattle.std.proofs.lemmas.Int.{ints}
use Rattle.std.proofs.lemmas.Bool.{both_ways, cases_Bool}
use Rattle.ttx_page.proofs.SlotDistances.{cases_ltz}
use Rattle.ttx_page.proofs.Owners.{page_heads}
use Rattle.ttx_page.specs.Packets.{packet_of}
use Rattle.ttx_page.specs.Receivers.{older, after, Step}
use Rattle.ttx_page.specs.Streams.{repeated, heads_page}
use Rattle.ttx_page.specs.Laws.{CyclesRepeat}
use Rattle.ttx_page.specs.declared.selection.Selection.{Selection}
use Rattle.ttx_page.specs.declared.class.Class.{Class}
use Rattle.ttx_witness.specs.Coverage.{limit}
use Rattle.ttx_certify.proofs.AcceptedIsSeen.{StreamLaws, fits_matches, steady_from, brought}
use Rattle.ttx_late.specs.LateReceivers.{LateMemory, must_show, LateStep}
use Rattle.ttx_late.specs.Laws.{RunsAreShown, FollowedIsWithin, AcceptedIsShown, EachListRunsLate}

pub accepted_is_shown : RunsAreShown → StreamLaws → AcceptedIsShown
accepted_is_shown runs laws cycle pages w is_cycle are_pages is_certificate accepts n p here gap followed = record {
  shown = λ sel fits tau former d received is_former permitted long run.
      runs (repeated cycle) p sel w.class w.lines w.repeat tau (tau +ℤ pos (limit w)) (are_pages n p here) is_certificate.few_lines
      (fits_matches pages p sel fits) (steady_from laws cycle pages w is_cycle are_pages is_certificate accepts n p here sel fits tau)
      (brought laws cycle pages w is_cycle are_pages is_certificate accepts n p here tau) gap (λ h _ head. followed h head) former d received
      is_former permitted run (omega (arith, ints, long));
}

-- the header itself comes again one cycle later
pub followed_is_within : CyclesRepeat → FollowedIsWithin
followed_is_within repeat cycle page some followed h head =
    let f = followed h head in
    let round = h +ℤ pos (length cycle) in (
      f,
      elim (cases_ltz round f.slot) as (λ _. f.slot ≤ℤ round) [
        | inr le ↦ le
        | inl lt ↦ absurd (both_ways _ (f.next.none_between round (omega (arith, ints)) lt) (page_heads page (packet_of (repeated cycle round))
            (subst (λ slot. heads_page page (packet_of slot) ≡ true) (sym (repeat cycle some h)) head)))
      ],
    )

-- the receiver that takes no choice, and shows a page only when it must
late_step : (class : Class) (lines : ℕ) (sel : Selection) (d : LateMemory) (slot : List ℕ) → (new : LateMemory) × LateStep class lines sel d slot new
late_step class lines sel d slot =
    let packet = packet_of slot in
    let gathered = after class lines sel false (older d.gathered) packet in
    let kept : Step class lines sel d.gathered slot gathered = record { choice = false; is = refl } in
    elim (cases_Bool (must_show sel d.gathered gathered packet)) as (λ _. (new : LateMemory) × LateStep class lines sel d slot new) [
      | inl must ↦ (record { gathered = gathered; shown = d.gathered }, record { base = d.gathered; from = inl refl; step = kept; shown = inl refl })
      | inr stays ↦ (
        record { gathered = gathered; shown = d.shown },
        record { base = d.gathered; from = inl refl; step = kept; shown = inr (inr (refl, stays)) },
      )
    ]

pub each_list_runs_late : EachListRunsLate
each_list_runs_late class lines sel d [] = (d, refl)
each_list_runs_late class lines sel d (slot ∷ received) =
    let one = late_step class lines sel d slot in
    let rest = each_list_runs_late class lines sel one.0 received in
    (rest.0, (one.0, one.1, rest.1))
