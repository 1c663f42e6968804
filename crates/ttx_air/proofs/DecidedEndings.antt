-- What happens at each end of a period follows from what the newsroom answers.
use Rattle.std.proofs.Common.{◌≡◌, ◌⊎◌, inl, inr, ℕ, ◌<◌, ◌≤◌, true, if◌then◌else◌, List, [], ◌∷◌, None, Some, refl, sym, ap, ◌∙◌, subst, arith}
use Rattle.ttx_witness.specs.Coverage.{limit}
use Rattle.ttx_playout.specs.Schedules.{Edition, IsEdition}
use Rattle.ttx_playout.specs.declared.late_change.LateChange.{LateChange}
use Rattle.ttx_air.specs.declared.airtime.Receivers.{Receivers}
use Rattle.ttx_air.specs.Newsrooms.{News, Nothing, Next, Refused}
use Rattle.ttx_air.specs.Judgements.{is_yes, IsJudgement}
use Rattle.ttx_air.specs.Endings.{Ending, Held, Quiet, Unfit, Judged, Unjudged, taken_by, current_after, with_period, playout_after, IsEnding}
use Rattle.ttx_air.specs.Laws.{IsAnswer, HasMemory, AreAnswers, IsNews, AreNews, EndingsAreDecided}
use Rattle.ttx_air.proofs.OneJudgement.{JudgementsAreOne}

-- the ending of an answer: held, or what the answer and the verdict say
Says : Receivers → Edition → News → Ending → Type 0
Says receivers current Nothing ending = ending ≡ Quiet
Says receivers current (Refused mark words) ending = ending ≡ Unfit mark words
Says receivers current (Next next) ending = (v : LateChange) × IsJudgement receivers current next.edition v × (ending ≡ Judged next v)

Decides : Receivers → Edition → ℕ → News → Ending → Type 0
Decides receivers current held answer ending = ((held < limit current.certificate) × (ending ≡ Held))
    ⊎ ((limit current.certificate ≤ held) × Says receivers current answer ending)

asked_is : (answer told : News) → (Some told ≡ None) ⊎ (Some told ≡ Some answer) → told ≡ answer
asked_is answer told (inl none) = absurd (let e : Some told ≡ None = none in cc)
asked_is answer told (inr some) = let e : Some told ≡ Some answer = some in cc

decides : (receivers : Receivers) (current : Edition) (held : ℕ) (answer : News) (ending : Ending) → HasMemory ending → IsAnswer answer ending →
    IsEnding receivers current held ending → Decides receivers current held answer ending
unfolding Decides Says
decides receivers current held answer Held memory is ending = inl (ending, refl)
decides receivers current held answer Quiet memory is ending = inr (ending, subst (λ a. Says receivers current a Quiet) (asked_is answer Nothing is) refl)
decides receivers current held answer (Unfit mark words) memory is ending =
    inr (ending, subst (λ a. Says receivers current a (Unfit mark words)) (asked_is answer (Refused mark words) is) refl)
decides receivers current held answer (Judged next v) memory is ending =
    inr (ending.0, subst (λ a. Says receivers current a (Judged next v)) (asked_is answer (Next next) is) (v, ending.1, refl))
decides receivers current held answer (Unjudged next) memory is ending = absurd memory

one_saying : JudgementsAreOne → (receivers : Receivers) (current : Edition) (answer : News) (ending other : Ending) → IsEdition current → IsNews answer →
    Says receivers current answer ending → Says receivers current answer other → ending ≡ other
unfolding Says
one_saying one receivers current Nothing ending other is news a b = a ∙ sym b
one_saying one receivers current (Refused mark words) ending other is news a b = a ∙ sym b
one_saying one receivers current (Next next) ending other is news a b =
    a.2 ∙ ap (Judged next) (one receivers current next.edition a.0 b.0 is news a.1 b.1) ∙ sym b.2

one_ending : JudgementsAreOne → (receivers : Receivers) (current : Edition) (held : ℕ) (answer : News) (ending other : Ending) → IsEdition current →
    IsNews answer → Decides receivers current held answer ending → Decides receivers current held answer other → ending ≡ other
unfolding Decides
one_ending one receivers current held answer ending other is news (inl a) (inl b) = a.1 ∙ sym b.1
one_ending one receivers current held answer ending other is news (inl a) (inr b) = absurd (omega (arith, a.0, b.0))
one_ending one receivers current held answer ending other is news (inr a) (inl b) = absurd (omega (arith, a.0, b.0))
one_ending one receivers current held answer ending other is news (inr a) (inr b) = one_saying one receivers current answer ending other is news a.1 b.1

-- ---- the edition on the air is one

next_current : (current : Edition) (answer : News) (ending : Ending) → IsEdition current → IsNews answer → IsAnswer answer ending →
    IsEdition (current_after current (taken_by ending))
next_current current answer Held is news a = is
next_current current answer Quiet is news a = is
next_current current answer (Unfit mark words) is news a = is
next_current current answer (Unjudged next) is news a = is
next_current current answer (Judged next v) is news a =
    let next_is : IsEdition next.edition = subst IsNews (sym (asked_is answer (Next next) a)) news in
    elim (is_yes v) as (λ b. IsEdition (current_after current (if b then Some next.edition else None))) [ true ↦ next_is | _ ↦ is ]

is_current : (first : Edition) (answers : List News) (past : List Ending) → IsEdition first → AreNews answers → AreAnswers answers past →
    IsEdition (playout_after first past).current
is_current first [] [] is news a = is
is_current first [] (ending ∷ past) is news a = absurd a
is_current first (answer ∷ answers) [] is news a = absurd a
is_current first (answer ∷ answers) (ending ∷ past) is news a =
    next_current (playout_after first past).current answer ending (is_current first answers past is news.1 a.2) news.0 a.0

pub endings_are_decided : JudgementsAreOne → EndingsAreDecided
endings_are_decided one receivers first [] [] [] is news t a u b = refl
endings_are_decided one receivers first [] [] (other ∷ same) is news t a u b = absurd b
endings_are_decided one receivers first [] (ending ∷ past) same is news t a u b = absurd a
endings_are_decided one receivers first (answer ∷ answers) [] same is news t a u b = absurd a
endings_are_decided one receivers first (answer ∷ answers) (ending ∷ past) [] is news t a u b = absurd b
endings_are_decided one receivers first (answer ∷ answers) (ending ∷ past) (other ∷ same) is news t a u b =
    let tail : past ≡ same = endings_are_decided one receivers first answers past same is news.1 t.0 a.2 u.0 b.2 in
    let p = playout_after first past in
    let right = subst (λ l. IsEnding receivers (playout_after first l).current (with_period (playout_after first l)).held other) (sym tail) u.1 in
    let held = (with_period p).held in
    let head : ending ≡ other =
    one_ending one receivers p.current held answer ending other (is_current first answers past is news.1 a.2) news.0
    (decides receivers p.current held answer ending a.1 a.0 t.1) (decides receivers p.current held answer other b.1 b.0 right) in
    λ i. head i ∷ tail i
