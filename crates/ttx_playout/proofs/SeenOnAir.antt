-- What is handed on is seen on the air.
use Rattle.std.proofs.Common.{◌≡◌, ℕ, zero, suc, refl, ap, ◌+ℤ◌, ℤ, pos, ◌-ℤ◌, negsuc, List, [], ◌∷◌, length}
use Rattle.std.proofs.lemmas.List.Elements.{All-get_or}
use Rattle.ttx_packet.specs.Slots.{IsSlot}
use Rattle.ttx_page.specs.Streams.{Stream, repeated, turned}
use Rattle.ttx_page.specs.Laws.{EachSlotTurns, EachListRuns, ExactIsReceived, sent_from}
use Rattle.ttx_cycle.specs.Files.{IsCycle}
use Rattle.ttx_send.specs.Laws.{TimedIsSentAs, AirIsReceived}
use Rattle.ttx_playout.specs.Schedules.{Edition, Showing, span, sent, AreEditions}
use Rattle.ttx_playout.specs.Laws.{HandedOnIsSeen, HandedOnIsSeenOnAir, HandedOnIsShown, HandedOnIsShownOnAir, TimedIsSeen, timed, EachScheduleRuns}

cycle_slots : EachSlotTurns → (cycle : List (List ℕ)) → IsCycle cycle → (i : ℤ) → IsSlot (repeated cycle i)
cycle_slots turn cycle is i = All-get_or IsSlot cycle (turned (length cycle) i) [] (turn (length cycle) i is.some).inside is.each

pub sent_slots : EachSlotTurns → (first : Edition) (later : List Showing) → AreEditions first later → (i : ℤ) → IsSlot (sent first later i)
sent_slots turn first [] are i = cycle_slots turn first.cycle are.cycle i
sent_slots turn first (t ∷ later) are (pos i) = sent_slots turn t.edition later are.1 (pos i -ℤ pos (span t))
sent_slots turn first (t ∷ later) are (negsuc i) = cycle_slots turn first.cycle are.0.cycle (negsuc i)

pub handed_on_is_seen_on_air : EachSlotTurns → AirIsReceived → HandedOnIsSeen → HandedOnIsSeenOnAir
handed_on_is_seen_on_air turn receives seen first later are handed air airing p sel from to le inside stays = record {
  shown = λ tau begin former m received before begun is_former permitted long on run.
      (seen first later are handed p sel from to le inside stays).shown tau begin former m received before begun is_former
      (receives (sent first later) air (sent_slots turn first later are) airing p.id first.certificate.repeat tau received permitted) long on run;
}

pub timed_is_seen : EachSlotTurns → TimedIsSentAs → HandedOnIsSeenOnAir → TimedIsSeen
timed_is_seen turn times seen first later are handed clock =
    seen first later are handed (timed clock (sent first later)) (λ j. times (clock j) (sent first later j) (sent_slots turn first later are j))

pub handed_on_is_shown_on_air : EachSlotTurns → AirIsReceived → HandedOnIsShown → HandedOnIsShownOnAir
handed_on_is_shown_on_air turn receives shows first later are handed air airing p sel from to le inside stays gap follows = record {
  shown = λ tau begin former d received before begun is_former permitted long on run.
      (shows first later are handed p sel from to le inside stays gap follows).shown tau begin former d received before begun is_former
      (receives (sent first later) air (sent_slots turn first later are) airing p.id first.certificate.repeat tau received permitted) long on run;
}

length-sent_from : (s : Stream) (tau : ℤ) (n : ℕ) → length (sent_from s tau n) ≡ n
length-sent_from s tau zero = refl
length-sent_from s tau (suc n) = ap suc (length-sent_from s (tau +ℤ pos 1) n)

pub each_schedule_runs : EachSlotTurns → EachListRuns → ExactIsReceived → EachScheduleRuns
each_schedule_runs turn runs exact first later are page class lines repeat some sel former tau n =
    let s = sent first later in
    let run = runs class lines sel former (sent_from s tau n) in
    record {
      received = sent_from s tau n;
      size = length-sent_from s tau n;
      permitted = exact s page repeat tau n (sent_slots turn first later are) some;
      memory = run.0;
      run = run.1;
    }
