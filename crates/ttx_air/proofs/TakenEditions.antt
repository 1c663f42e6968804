-- Which editions take over.
use Rattle.std.proofs.Common.{◌≡◌, List, [], ◌∷◌, ◌++◌, length, map, Option, None, Some, refl, sym, ap, ◌∙◌}
use Rattle.ttx_playout.specs.Schedules.{Edition, Showing, edition_at, one_more, taken}
use Rattle.ttx_air.specs.Endings.{Ending, taken_by, taken_in, with_taken, playout_after, later_after, current_after}
use Rattle.ttx_air.specs.Laws.{EditionsAreTaken}

last_taken : (first next : Edition) (later : List Showing) → edition_at first (taken later next) (length (taken later next)) ≡ next
last_taken first next [] = refl
last_taken first next (t ∷ later) = last_taken t.edition next later

pub last_more : (first : Edition) (later : List Showing) →
    edition_at first (one_more later) (length (one_more later)) ≡ edition_at first later (length later)
last_more first [] = refl
last_more first (t ∷ []) = refl
last_more first (t ∷ next ∷ later) = last_more t.edition (next ∷ later)

same_more : (later : List Showing) → map (λ t. t.edition) (one_more later) ≡ map (λ t. t.edition) later
same_more [] = refl
same_more (t ∷ []) = refl
same_more (t ∷ next ∷ later) = ap (λ l. t.edition ∷ l) (same_more (next ∷ later))

one_taken : (later : List Showing) (next : Edition) → map (λ t. t.edition) (taken later next) ≡ map (λ t. t.edition) later ++ next ∷ []
one_taken [] next = refl
one_taken (t ∷ later) next = ap (λ l. t.edition ∷ l) (one_taken later next)

taken_after : (later : List Showing) (change : Option Edition) (past : List Ending) → map (λ t. t.edition) later ≡ taken_in past →
    map (λ t. t.edition) (later_after (one_more later) change) ≡ with_taken (taken_in past) change
taken_after later None past e = same_more later ∙ e
taken_after later (Some next) past e = one_taken (one_more later) next ∙ ap (λ l. l ++ next ∷ []) (same_more later ∙ e)

last_after : (first current : Edition) (later : List Showing) (change : Option Edition) → current ≡ edition_at first later (length later) →
    current_after current change ≡ edition_at first (later_after (one_more later) change) (length (later_after (one_more later) change))
last_after first current later None e = e ∙ sym (last_more first later)
last_after first current later (Some next) e = sym (last_taken first next (one_more later))

pub editions_are_taken : EditionsAreTaken
editions_are_taken first [] = (refl, refl)
editions_are_taken first (ending ∷ past) =
    let before = editions_are_taken first past in
    let p = playout_after first past in
    (taken_after p.later (taken_by ending) past before.0, last_after first p.current p.later (taken_by ending) before.1)
