-- A yes of `certify --late` and one of `splice`, on the air.
use Rattle.std.proofs.Common.{ℤ, pos, negsuc}
use Rattle.ttx_packet.specs.Slots.{IsSlot}
use Rattle.ttx_page.specs.Streams.{repeated}
use Rattle.ttx_page.specs.Laws.{EachSlotTurns}
use Rattle.ttx_late.specs.Laws.{AcceptedIsShown}
use Rattle.ttx_proof.specs.Laws.{IsSplice}
use Rattle.ttx_proof.specs.Meaning.{VerdictsMean}
use Rattle.ttx_proof.specs.Splices.{Splice, stream}
use Rattle.ttx_send.specs.Laws.{AirIsReceived, AcceptedIsSeenOnAir}
use Rattle.ttx_send.specs.YesOnAir.{LateYesIsSeenOnAir, SplicedIsSeenOnAir}
use Rattle.ttx_send.proofs.ReceivedFromAir.{repeated_slots}

joined_slots : EachSlotTurns → (c : Splice) → IsSplice c → (j : ℤ) → IsSlot (stream c j)
joined_slots turn c is (pos n) = repeated_slots turn c.new is.new (pos n)
joined_slots turn c is (negsuc n) = repeated_slots turn c.old is.old (negsuc n)

pub late_yes_is_seen_on_air : EachSlotTurns → AirIsReceived → AcceptedIsSeenOnAir → AcceptedIsShown → LateYesIsSeenOnAir
late_yes_is_seen_on_air turn back seen late cycle air pages w gap is_cycle are_pages is_certificate told may n p here =
    let shown = (late cycle pages w is_cycle are_pages is_certificate told.0 n p here gap (told.2.within n p here)).shown in (
      seen cycle air pages w is_cycle are_pages is_certificate told.0 may n p here,
      record {
        shown = λ sel fits tau former d received is_former permitted long run. shown sel fits tau former d received is_former
            (back (repeated cycle) air (repeated_slots turn cycle is_cycle) may p.id w.repeat tau received permitted) long run;
      },
    )

pub spliced_is_seen_on_air : EachSlotTurns → AirIsReceived → VerdictsMean → SplicedIsSeenOnAir
spliced_is_seen_on_air turn back mean c air is told may =
    let seen = (mean c is).0 told in let slots = joined_slots turn c is in let k = c.new_certificate.repeat in
    record {
      common = λ p common sel fits_old fits_new tau former m received is_former permitted long run.
          seen.common p common sel fits_old fits_new tau former m received is_former
          (back (stream c) air slots may p.id k tau received permitted) long run;
      new = λ p among sel fits tau begin after change former m received is_former permitted long run.
          seen.new p among sel fits tau begin after change former m received is_former
          (back (stream c) air slots may p.id k tau received permitted) long run;
    }
