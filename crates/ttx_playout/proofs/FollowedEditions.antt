-- If the editions and changes of a schedule are as late receivers need them, each of its pages is followed while it stays.
use Rattle.std.proofs.Common.{ℕ, zero, suc, ◌<◌, ◌≤◌, List, [], ◌∷◌, length, arith}
use Rattle.ttx_late.specs.Followed.{AreFollowedWithin}
use Rattle.ttx_proof.proofs.BridgedIsSeen.{place_of}
use Rattle.ttx_playout.specs.Schedules.{Edition, Showing, edition_at}
use Rattle.ttx_playout.specs.LateSchedules.{AllAreFollowedAcross, IsFollowedThrough}
use Rattle.ttx_playout.specs.Laws.{ThroughIsWhile, ThroughGoesOn}

within_at : (gap : ℕ) (first : Edition) (later : List Showing) (n : ℕ) → IsFollowedThrough gap first later →
    AreFollowedWithin (edition_at first later n).cycle (edition_at first later n).pages gap
within_at gap first [] zero through = through
within_at gap first [] (suc n) through = through
within_at gap first (t ∷ later) zero through = through.0
within_at gap first (t ∷ later) (suc n) through = within_at gap t.edition later n through.2

across_at : (gap : ℕ) (first : Edition) (later : List Showing) (n : ℕ) → n < length later → IsFollowedThrough gap first later →
    AllAreFollowedAcross (edition_at first later n).cycle (edition_at first later (suc n)).cycle (edition_at first later n).pages gap
across_at gap first [] n lt through = absurd (omega arith)
across_at gap first (t ∷ later) zero lt through = through.1
across_at gap first (t ∷ later) (suc n) lt through = across_at gap t.edition later n (omega arith) through.2

pub through_is_while : ThroughIsWhile
through_is_while first later p sel from to inside stays gap through = record {
  within = λ n low high.
      let place = place_of (edition_at first later n).pages p (stays n low high).listed in within_at gap first later n through place.0 p place.1;
  across = λ n low high.
      let le : n ≤ to = omega arith in
      let place = place_of (edition_at first later n).pages p (stays n low le).listed in
      across_at gap first later n (omega arith) through place.0 p place.1;
}

pub through_goes_on : ThroughGoesOn
through_goes_on first next [] gap through within across = (through, across, within)
through_goes_on first next (t ∷ later) gap through within across =
    (through.0, through.1, through_goes_on t.edition next later gap through.2 within across)
