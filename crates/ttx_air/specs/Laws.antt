-- The laws of an airing. Each is proved by the function of its name in `laws`.
--
--   IsOnAir                 the first bytes that went out stand on the air, slot by slot
--   SeenFromAir, ShownFromAir       each page that stays is seen from the air; and shown by receivers that show a page late
--   AirIsSeen, AirIsShown   so is what went out of a handed-on schedule
--   AiringIsSeen, AiringIsShown     so is what `air` left behind
--   EditionsAreTaken        the editions of the schedule are those that took over, in their order
--   IsAnswer, HasMemory, AreAnswers, AreNews        what the newsroom answers at each ending, if it is asked
--   EndingsAreDecided       what happens at each end of a period follows from what the newsroom answers
use Rattle.std.specs.Prelude.{◌≡◌, ◌⊎◌, ℕ, ◌+◌, ◌*◌, ◌/◌, ◌≤◌, ℤ, pos, ◌+ℤ◌, ◌-ℤ◌, ◌≤ℤ◌, List, [], ◌∷◌, length, map, take, drop, Some, None}
use Rattle.ttx_packet.specs.Slots.{IsSlot}
use Rattle.ttx_page.specs.Pages.{Page}
use Rattle.ttx_page.specs.declared.selection.Selection.{Selection}
use Rattle.ttx_page.specs.declared.class.Class.TheVariants.{Any}
use Rattle.ttx_page.specs.Memories.{Memory, IsFormer}
use Rattle.ttx_page.specs.Receivers.{Run}
use Rattle.ttx_page.specs.Receptions.{Received}
use Rattle.ttx_page.specs.Streams.{Stream}
use Rattle.ttx_witness.specs.Coverage.{limit}
use Rattle.ttx_certify.specs.Seen.{HasView}
use Rattle.ttx_late.specs.LateReceivers.{LateMemory, LateRun}
use Rattle.ttx_send.specs.Airing.{Times}
use Rattle.ttx_playout.specs.Schedules.{Edition, Showing, edition_at, IsEdition, StaysOn, HasBegun, IsStillOn}
use Rattle.ttx_playout.specs.LateSchedules.{IsFollowedWhile}
use Rattle.ttx_playout.specs.Takeovers.{HasSent}
use Rattle.ttx_playout.specs.declared.state.OnAir.{OnAir}
use Rattle.ttx_air.specs.declared.airtime.Receivers.{Receivers}
use Rattle.ttx_air.specs.declared.airtime.Receivers.TheVariants.{Late}
use Rattle.ttx_air.specs.Newsrooms.{Candidate, News, Nothing, Next, Refused}
use Rattle.ttx_air.specs.Endings.{Ending, Unjudged, playout_after, taken_in, AreEndings, answer_at}
use Rattle.ttx_air.specs.Airings.{Scene, Aired, air_of}

-- each whole slot of the first `written` of these bytes stands on the air, one after another from slot `begin` on
abbrev pub IsOnAir : List ℕ → ℕ → Stream → ℤ → Type 0
IsOnAir bytes written air begin = (n : ℕ) → 42 * (n + 1) ≤ written → air (begin +ℤ pos n) ≡ take 42 (drop (42 * n) bytes)

-- Each page that stays in the editions `from` to `to` is seen: tuned anywhere, whatever was held before, after each reception of the air within
-- the error rule that ends with what went out and with edition `to`, once a deadline has passed since slot `begin`, which lies not before tau, not
-- before the begin of the airing and not before that of edition `from`.
abbrev pub SeenFromAir : (slots : List (List ℕ)) (o : OnAir) (first : Edition) (later : List Showing) → HasSent slots o first later → ℕ → Stream → Type 0
SeenFromAir slots o first later has written air =
    (p : Page) (sel : Selection) (from to : ℕ) → from ≤ to → to ≤ length later → StaysOn first later p sel from to →
    (tau begin : ℤ) (former m : Memory) (received : List (List ℕ)) →
    (has.next -ℤ pos (length slots)) ≤ℤ begin → tau ≤ℤ begin → HasBegun later from begin →
    IsFormer Any former → Received air p.id first.certificate.repeat tau received →
    (begin +ℤ pos (limit first.certificate)) ≤ℤ (tau +ℤ pos (length received)) →
    (tau +ℤ pos (length received)) ≤ℤ ((has.next -ℤ pos (length slots)) +ℤ pos (written / 42)) →
    IsStillOn later to (tau +ℤ pos (length received)) → Run Any first.certificate.lines sel former received m → HasView p m

-- the same for what a receiver shows that shows a page late, `gap` slots later
abbrev pub ShownFromAir : (slots : List (List ℕ)) (o : OnAir) (first : Edition) (later : List Showing) → HasSent slots o first later → ℕ → Stream → ℕ →
    Type 0
ShownFromAir slots o first later has written air gap =
    (p : Page) (sel : Selection) (from to : ℕ) → from ≤ to → to ≤ length later → StaysOn first later p sel from to →
    IsFollowedWhile first later p.id gap from to →
    (tau begin : ℤ) (former d : LateMemory) (received : List (List ℕ)) →
    (has.next -ℤ pos (length slots)) ≤ℤ begin → tau ≤ℤ begin → HasBegun later from begin →
    IsFormer Any former.gathered → Received air p.id first.certificate.repeat tau received →
    ((begin +ℤ pos (limit first.certificate)) +ℤ pos gap) ≤ℤ (tau +ℤ pos (length received)) →
    (tau +ℤ pos (length received)) ≤ℤ ((has.next -ℤ pos (length slots)) +ℤ pos (written / 42)) →
    IsStillOn later to (tau +ℤ pos (length received)) → LateRun Any first.certificate.lines sel former received d → HasView p d.shown

-- What was sent, all of it or its first bytes, stands on the air; before it and after it stands anything.
abbrev pub AirIsSeen : Type 0
AirIsSeen =
    (slots : List (List ℕ)) (o : OnAir) (first : Edition) (later : List Showing) → (has : HasSent slots o first later) →
    (times : Times) (written : ℕ) → written ≤ length (air_of times first slots) →
    (air : Stream) → ((i : ℤ) → IsSlot (air i)) → IsOnAir (air_of times first slots) written air (has.next -ℤ pos (length slots)) →
    SeenFromAir slots o first later has written air

abbrev pub AirIsShown : Type 0
AirIsShown =
    (slots : List (List ℕ)) (o : OnAir) (first : Edition) (later : List Showing) → (has : HasSent slots o first later) →
    (times : Times) (written : ℕ) → written ≤ length (air_of times first slots) →
    (air : Stream) → ((i : ℤ) → IsSlot (air i)) → IsOnAir (air_of times first slots) written air (has.next -ℤ pos (length slots)) →
    (gap : ℕ) → ShownFromAir slots o first later has written air gap

-- of what `air` leaves behind: the schedule's editions are the first one and those that took over
abbrev pub AiringIsSeen : {N : Type 0} → (N → Edition → ℕ → News → N → Type 0) → Type 0
AiringIsSeen {N} gives =
    (receivers : Receivers) (times : Times) (first : Candidate) (before after : Scene N) (last : List ℕ) →
    (a : Aired gives receivers times first before after last) → (written : ℕ) → written ≤ length (air_of times first.edition a.slots) →
    (air : Stream) → ((i : ℤ) → IsSlot (air i)) →
    IsOnAir (air_of times first.edition a.slots) written air (a.aired.sent.next -ℤ pos (length a.slots)) →
    SeenFromAir a.slots a.on_air first.edition (playout_after first.edition a.past).later a.aired.sent written air

-- Where late receivers are served, each page that stays is followed by another page number in time.
abbrev pub AiringIsShown : {N : Type 0} → (N → Edition → ℕ → News → N → Type 0) → Type 0
AiringIsShown {N} gives =
    (gap : ℕ) (times : Times) (first : Candidate) (before after : Scene N) (last : List ℕ) →
    (a : Aired gives (Late gap) times first before after last) → (written : ℕ) → written ≤ length (air_of times first.edition a.slots) →
    (air : Stream) → ((i : ℤ) → IsSlot (air i)) →
    IsOnAir (air_of times first.edition a.slots) written air (a.aired.sent.next -ℤ pos (length a.slots)) →
    let later = (playout_after first.edition a.past).later in
    (p : Page) (sel : Selection) (from to : ℕ) → from ≤ to → to ≤ length later → StaysOn first.edition later p sel from to →
    (tau begin : ℤ) (former d : LateMemory) (received : List (List ℕ)) →
    (a.aired.sent.next -ℤ pos (length a.slots)) ≤ℤ begin → tau ≤ℤ begin → HasBegun later from begin →
    IsFormer Any former.gathered → Received air p.id first.edition.certificate.repeat tau received →
    ((begin +ℤ pos (limit first.edition.certificate)) +ℤ pos gap) ≤ℤ (tau +ℤ pos (length received)) →
    (tau +ℤ pos (length received)) ≤ℤ ((a.aired.sent.next -ℤ pos (length a.slots)) +ℤ pos (written / 42)) →
    IsStillOn later to (tau +ℤ pos (length received)) → LateRun Any first.edition.certificate.lines sel former received d → HasView p d.shown

-- and the last of them is on the air
abbrev pub EditionsAreTaken : Type 0
EditionsAreTaken = (first : Edition) (past : List Ending) →
    (map (λ t. t.edition) (playout_after first past).later ≡ taken_in past)
    × ((playout_after first past).current ≡ edition_at first (playout_after first past).later (length (playout_after first past).later))

-- what the newsroom answers, if it is asked
abbrev pub IsAnswer : News → Ending → Type 0
IsAnswer answer ending = (answer_at ending ≡ None) ⊎ (answer_at ending ≡ Some answer)

-- there was memory to judge it
abbrev pub HasMemory : Ending → Type 0
HasMemory (Unjudged next) = ⊥
HasMemory _ = Unit {0}

-- so at each ending, the newest one first
abbrev pub AreAnswers : List News → List Ending → Type 0
AreAnswers [] [] = Unit {0}
AreAnswers [] (ending ∷ past) = ⊥
AreAnswers (answer ∷ answers) [] = ⊥
AreAnswers (answer ∷ answers) (ending ∷ past) = IsAnswer answer ending × HasMemory ending × AreAnswers answers past

abbrev pub IsNews : News → Type 0
IsNews Nothing = Unit {0}
IsNews (Next next) = IsEdition next.edition
IsNews (Refused mark words) = Unit {0}

abbrev pub AreNews : List News → Type 0
AreNews [] = Unit {0}
AreNews (answer ∷ answers) = IsNews answer × AreNews answers

-- with the same answers of the newsroom, and memory to judge its editions, the same happens: which editions take over, and when
abbrev pub EndingsAreDecided : Type 0
EndingsAreDecided = (receivers : Receivers) (first : Edition) (answers : List News) (past same : List Ending) → IsEdition first → AreNews answers →
    AreEndings receivers first past → AreAnswers answers past → AreEndings receivers first same → AreAnswers answers same → past ≡ same
