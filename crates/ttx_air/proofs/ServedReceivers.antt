-- Where late receivers are served, each page that stays is followed by another page number in time.
use Rattle.std.proofs.Common.{◌≡◌, ℕ, List, [], ◌∷◌, length, sym, ◌∙◌, subst}
use Rattle.ttx_playout.specs.Schedules.{Edition, Showing, edition_at, one_more}
use Rattle.ttx_playout.specs.LateSchedules.{IsFollowedThrough, AllAreFollowedAcross}
use Rattle.ttx_playout.specs.Laws.{ThroughIsWhile, ThroughGoesOn}
use Rattle.ttx_playout.specs.declared.late_change.LateChange.TheVariants.{Yes, No, NeverShown, TooFar, Unfollowed}
use Rattle.ttx_air.specs.declared.airtime.Receivers.TheVariants.{Late}
use Rattle.ttx_air.specs.Newsrooms.{News}
use Rattle.ttx_air.specs.Judgements.{IsServed}
use Rattle.ttx_air.specs.Endings.{Ending, Held, Quiet, Unfit, Judged, Unjudged, taken_by, playout_after, later_after, IsEnding, AreEndings}
use Rattle.ttx_air.specs.Laws.{EditionsAreTaken, AirIsShown, AiringIsShown}
use Rattle.ttx_air.proofs.TakenEditions.{last_more}

through_more : (gap : ℕ) (first : Edition) (later : List Showing) → IsFollowedThrough gap first later → IsFollowedThrough gap first (one_more later)
through_more gap first [] through = through
through_more gap first (t ∷ []) through = through
through_more gap first (t ∷ next ∷ later) through = (through.0, through.1, through_more gap t.edition (next ∷ later) through.2)

through_after : ThroughGoesOn → (gap held : ℕ) (first current : Edition) (later : List Showing) (ending : Ending) →
    current ≡ edition_at first later (length later) → IsFollowedThrough gap first later → IsEnding (Late gap) current held ending →
    IsFollowedThrough gap first (later_after later (taken_by ending))
through_after goes gap held first current later Held at through is = through
through_after goes gap held first current later Quiet at through is = through
through_after goes gap held first current later (Unfit mark words) at through is = through
through_after goes gap held first current later (Unjudged next) at through is = through
through_after goes gap held first current later (Judged next (No reason)) at through is = through
through_after goes gap held first current later (Judged next (NeverShown page slot)) at through is = through
through_after goes gap held first current later (Judged next (TooFar greatest)) at through is = through
through_after goes gap held first current later (Judged next (Unfollowed page)) at through is = through
through_after goes gap held first current later (Judged next Yes) at through is =
    goes first next.edition later gap through is.1.1.0
    (subst (λ e. AllAreFollowedAcross e.cycle next.edition.cycle e.pages gap) at is.1.1.1)

pub followed_through : EditionsAreTaken → ThroughGoesOn → (gap : ℕ) (first : Edition) (past : List Ending) → IsServed (Late gap) first →
    AreEndings (Late gap) first past → IsFollowedThrough gap first (playout_after first past).later
followed_through takes goes gap first [] served are = served
followed_through takes goes gap first (ending ∷ past) served are =
    let p = playout_after first past in
    through_after goes gap _ first p.current (one_more p.later) ending ((takes first past).1 ∙ sym (last_more first p.later))
    (through_more gap first p.later (followed_through takes goes gap first past served are.0)) are.1

pub airing_is_shown : {N : Type 0} (gives : N → Edition → ℕ → News → N → Type 0) → AirIsShown → EditionsAreTaken → ThroughIsWhile → ThroughGoesOn →
    AiringIsShown gives
airing_is_shown gives shows takes while goes gap times first before after last a written fits air whole on p sel from to le within stays tau begin former d
    received low early begun is_former permitted long ends on_still run =
    let later = (playout_after first.edition a.past).later in
    let through = followed_through takes goes gap first.edition a.past a.served a.aired.endings in
    shows a.slots a.on_air first.edition later a.aired.sent times written fits air whole on gap p sel from to le within stays
    (while first.edition later p sel from to within stays gap through) tau begin former d received low early begun is_former permitted long ends on_still run
