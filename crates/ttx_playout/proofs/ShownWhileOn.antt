-- What is handed on and followed is shown late, as long as it stays.
use Rattle.std.proofs.Common.{◌≡◌, ◌≤◌, ℤ, pos, ◌+ℤ◌, ◌-ℤ◌, ◌≤ℤ◌, nat_abs, length, take, drop, length-drop, refl, ap, ◌∙◌, subst, arith}
use Rattle.std.proofs.lemmas.Int.{ints}
use Rattle.ttx_page.specs.declared.class.Class.TheVariants.{Any}
use Rattle.ttx_witness.specs.Coverage.{limit}
use Rattle.ttx_certify.proofs.AcceptedIsSeen.{fits_matches}
use Rattle.ttx_certify.proofs.LaterReceptions.{received_later}
use Rattle.ttx_late.specs.Laws.{RunsAreShown, IsFollowedFrom}
use Rattle.ttx_receiver.specs.Laws.{StepsKeepMemories}
use Rattle.ttx_proof.specs.Carried.{Carries, AgreeingStreamsAreReceived}
use Rattle.ttx_proof.proofs.BridgedIsSeen.{place_of}
use Rattle.ttx_proof.proofs.CarriedIsSeen.{started, started_high, started_is}
use Rattle.ttx_playout.specs.Schedules.{edition_at, sent}
use Rattle.ttx_playout.specs.Laws.{SentSoFarIsShown, HandedOnIsShown, HeadEndIsShown}
use Rattle.ttx_playout.proofs.CarriedThrough.{CarriedLaws}
use Rattle.ttx_playout.proofs.FollowedThrough.{followed_later, followed_from}
use Rattle.ttx_playout.proofs.LateRunsGoOn.{late_run_goes_on}
use Rattle.ttx_playout.proofs.SeenWhileOn.{edition_is, first_is, same_so_far, carried_any}
use Rattle.ttx_playout.proofs.HeadEndIsSeen.{log_is_sent}

pub sent_so_far_is_shown : RunsAreShown → StepsKeepMemories → AgreeingStreamsAreReceived → CarriedLaws → SentSoFarIsShown
sent_so_far_is_shown runs steps receive laws first later are handed s start now same p sel from to le inside stays gap follows tau
    begin former d received after before begun is_former permitted long until on run =
    let w = first.certificate in
    let cut = sent first (take to later) in
    let mixed = started start s cut in
    let end = tau +ℤ pos (length received) in
    let stands = stays from (omega arith) le in
    let e = edition_is first later from are in
    let place = place_of (edition_at first later from).pages p stands.listed in
    let zero : begin +ℤ pos 0 ≡ begin = omega (arith, ints) in
    let from_begin : (i : ℤ) → begin ≤ℤ i → mixed (i +ℤ pos 0) ≡ cut i = λ i low.
    let k : i +ℤ pos 0 ≡ i = omega (arith, ints) in ap mixed k ∙ started_high start s cut i (omega (arith, ints)) in
    let carried = subst (Carries mixed p sel Any w.lines w.repeat (limit w)) zero
    (laws.carry cut mixed (pos 0) begin from_begin p sel Any w.lines w.repeat (limit w)
    (carried_any laws first later p sel from to are handed le inside stays begin begun)) in
    let followed = subst (IsFollowedFrom mixed p.id gap) zero
    (followed_later cut mixed (pos 0) begin from_begin p.id gap
    (followed_from laws p sel gap first later from to are handed le inside stays follows begin begun)) in
    let alike = receive s mixed end (started_is start s cut end (same_so_far first later s start now same to end until on)) p.id tau received
    (omega (arith, ints)) w.repeat permitted in
    let n = nat_abs (begin -ℤ tau) in
    let at : begin ≡ tau +ℤ pos n = omega (arith, ints) in
    let some : n ≤ length received = omega (arith, ints) in
    let go = late_run_goes_on steps w.lines sel n received former d is_former (λ i lt. (permitted.each i lt).slot) run in
    let size = length-drop n received in
    let late : ((begin +ℤ pos (limit w)) +ℤ pos gap) ≤ℤ (begin +ℤ pos (length (drop n received))) = omega (arith, ints) in
    runs mixed p sel Any w.lines w.repeat begin (begin +ℤ pos (limit w)) (e.pages place.0 p place.1) (first_is first later are).certificate.few_lines
    (fits_matches (edition_at first later from).pages p sel stands.fits) carried.steady carried.brought gap followed
    go.mid d (drop n received) go.is_memory (received_later mixed p.id w.repeat tau begin n at received some alike) go.run late

pub handed_on_is_shown : SentSoFarIsShown → HandedOnIsShown
handed_on_is_shown so_far first later are handed p sel from to le inside stays gap follows = record {
  shown = λ tau begin former d received before begun is_former permitted long on run.
      so_far first later are handed (sent first later) begin (tau +ℤ pos (length received)) (λ i _ _. refl) p sel from to le inside stays gap follows
      tau begin former d received (omega (arith, ints)) before begun is_former permitted long (omega (arith, ints)) on run;
}

pub head_end_is_shown : SentSoFarIsShown → HeadEndIsShown
head_end_is_shown so_far log o first later has s is_log =
    so_far first later has.on_air.editions has.on_air.handed s (has.next -ℤ pos (length log)) has.next (log_is_sent log o first later has s is_log)
