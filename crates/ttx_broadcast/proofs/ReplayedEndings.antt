-- What happens at the end of each period of a replay.
use Rattle.std.proofs.Common.{◌≡◌, inl, inr, ℕ, ◌-◌, ◌/◌, List, [], ◌∷◌, ◌++◌, codes, length, length-append, map, take, refl, sym, ap, ◌∙◌, subst, arith}
use Rattle.std.proofs.Math.Seq.{take-append_seam}
use Rattle.std.specs.Fmt.{decimal}
use Rattle.ttx_certify.specs.VerdictLines.{page_words, slot_words}
use Rattle.ttx_proof.specs.SpliceLines.{splice_text}
use Rattle.ttx_proof.specs.declared.verdict.SpliceVerdict.TheVariants as splice
use Rattle.ttx_send.specs.Airing.{Times}
use Rattle.ttx_playout.specs.Schedules.{Edition}
use Rattle.ttx_playout.specs.declared.late_change.LateChange.TheVariants.{Yes, No, NeverShown, TooFar, Unfollowed}
use Rattle.ttx_air.specs.declared.airtime.Receivers.{Receivers}
use Rattle.ttx_air.specs.Endings.{Ending, Held, Quiet, Unfit, Judged, Unjudged, Playout, taken_by, with_period, after_change, playout_after, field_after, IsEnding, AreEndings}
use Rattle.ttx_air.specs.LogLines.{Tick, tick, kept_line, ending_line, lines_of}
use Rattle.ttx_air.specs.Laws.{IsAnswer, HasMemory, AreAnswers, EndingsAreDecided}
use Rattle.ttx_broadcast.specs.Recordings.{without_end, words_of, recorded, recorded_in}
use Rattle.ttx_broadcast.specs.Laws.{EndingsAreReplayed}

-- the ending of the replay
replayed : Ending → Ending
replayed Held = Held
replayed Quiet = Quiet
replayed (Unfit mark words) = Unfit mark words
replayed (Judged next Yes) = Judged next Yes
replayed (Judged next (No reason)) = Unfit next.mark (words_of (No reason))
replayed (Judged next (NeverShown page slot)) = Unfit next.mark (words_of (NeverShown page slot))
replayed (Judged next (TooFar gap)) = Unfit next.mark (words_of (TooFar gap))
replayed (Judged next (Unfollowed page)) = Unfit next.mark (words_of (Unfollowed page))
replayed (Unjudged next) = Unfit next.mark (codes "out of memory")

-- ---- the same editions take over

same_taken : (ending : Ending) → taken_by (replayed ending) ≡ taken_by ending
unfolding replayed
same_taken Held = refl
same_taken Quiet = refl
same_taken (Unfit mark words) = refl
same_taken (Judged next Yes) = refl
same_taken (Judged next (No reason)) = refl
same_taken (Judged next (NeverShown page slot)) = refl
same_taken (Judged next (TooFar gap)) = refl
same_taken (Judged next (Unfollowed page)) = refl
same_taken (Unjudged next) = refl

same_playout : (first : Edition) (past : List Ending) → playout_after first (map replayed past) ≡ playout_after first past
same_playout first [] = refl
same_playout first (ending ∷ past) = λ i. after_change (with_period (same_playout first past i)) (same_taken ending i)

-- ---- the log has the same lines

end_again : (line : List ℕ) → without_end (line ++ 10 ∷ []) ++ codes "\n" ≡ line ++ 10 ∷ []
end_again line =
    let e : length (line ++ 10 ∷ []) - 1 ≡ length line = omega (arith, length-append line (10 ∷ [])) in
    ap (λ l. l ++ 10 ∷ []) (ap (λ n. take n (line ++ 10 ∷ [])) e ∙ take-append_seam line (10 ∷ []))

same_line : (t : Tick) (current : Edition) (ending : Ending) → ending_line t current (replayed ending) ≡ ending_line t current ending
unfolding replayed
same_line t current Held = refl
same_line t current Quiet = refl
same_line t current (Unfit mark words) = refl
same_line t current (Judged next Yes) = refl
same_line t current (Judged next (No reason)) = ap (kept_line t next.mark) (end_again (splice_text (splice.No reason)))
same_line t current (Judged next (NeverShown page slot)) = ap (kept_line t next.mark) (end_again (slot_words (codes "no 7 never-shown") page slot))
same_line t current (Judged next (TooFar gap)) = ap (kept_line t next.mark) (end_again (codes "no 8 too-far " ++ decimal gap))
same_line t current (Judged next (Unfollowed page)) = ap (kept_line t next.mark) (end_again (page_words (codes "no 9 unfollowed") page))
same_line t current (Unjudged next) = refl

same_lines : (times : Times) (first : Edition) (past : List Ending) → lines_of times first (map replayed past) ≡ lines_of times first past
same_lines times first [] = refl
same_lines times first (ending ∷ past) =
    let p = same_playout first past in
    (λ i. same_lines times first past i
    ++ ending_line (tick times ((with_period (p i)).slots / first.certificate.lines)) (p i).current (replayed ending))
    ∙ ap (λ l. lines_of times first past ++ l) (same_line (tick times (field_after first past)) (playout_after first past).current ending)

-- ---- the endings of the replay are right, and hold what the log records

is_ending : (receivers : Receivers) (current : Edition) (held : ℕ) (ending : Ending) → IsEnding receivers current held ending →
    IsEnding receivers current held (replayed ending)
unfolding replayed
is_ending receivers current held Held is = is
is_ending receivers current held Quiet is = is
is_ending receivers current held (Unfit mark words) is = is
is_ending receivers current held (Judged next Yes) is = is
is_ending receivers current held (Judged next (No reason)) is = is.0
is_ending receivers current held (Judged next (NeverShown page slot)) is = is.0
is_ending receivers current held (Judged next (TooFar gap)) is = is.0
is_ending receivers current held (Judged next (Unfollowed page)) is = is.0
is_ending receivers current held (Unjudged next) is = is

are_endings : (receivers : Receivers) (first : Edition) (past : List Ending) → AreEndings receivers first past →
    AreEndings receivers first (map replayed past)
are_endings receivers first [] are = are
are_endings receivers first (ending ∷ past) are = (
  are_endings receivers first past are.0,
  subst (λ (p : Playout). IsEnding receivers p.current (with_period p).held (replayed ending)) (sym (same_playout first past))
      (is_ending receivers _ _ ending are.1),
)

is_answer : (ending : Ending) → IsAnswer (recorded ending) (replayed ending) × HasMemory (replayed ending)
unfolding replayed
is_answer Held = (inl refl, tt)
is_answer Quiet = (inr refl, tt)
is_answer (Unfit mark words) = (inr refl, tt)
is_answer (Judged next Yes) = (inr refl, tt)
is_answer (Judged next (No reason)) = (inr refl, tt)
is_answer (Judged next (NeverShown page slot)) = (inr refl, tt)
is_answer (Judged next (TooFar gap)) = (inr refl, tt)
is_answer (Judged next (Unfollowed page)) = (inr refl, tt)
is_answer (Unjudged next) = (inr refl, tt)

are_answers : (past : List Ending) → AreAnswers (recorded_in past) (map replayed past)
are_answers [] = tt
are_answers (ending ∷ past) = let is = is_answer ending in (is.0, is.1, are_answers past)

pub endings_are_replayed : EndingsAreDecided → EndingsAreReplayed
endings_are_replayed decided receivers times first past again is news are are_again answers =
    let e : again ≡ map replayed past =
    decided receivers first (recorded_in past) again (map replayed past) is news are_again answers
    (are_endings receivers first past are) (are_answers past) in (
      ap (playout_after first) e ∙ same_playout first past,
      ap (lines_of times first) e ∙ same_lines times first past,
    )
