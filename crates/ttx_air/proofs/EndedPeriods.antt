-- What happened at the end of a period.
use Rattle.std.proofs.Common.{◌≡◌, inl, inr, ℕ, ◌<◌, Bool, true, false, Option, Some, None, if◌then◌else◌, List, refl, sym, ap, ◌∙◌, subst}
use Rattle.std.proofs.lemmas.Bool.{cases_lt}
use Rattle.ttx_witness.specs.Coverage.{limit}
use Rattle.ttx_proof.specs.declared.verdict.SpliceVerdict.TheVariants as splice
use Rattle.ttx_playout.specs.Schedules.{Edition}
use Rattle.ttx_playout.specs.Takeovers.{current_of, at_of, held_of, IsTime, IsChangeVerdict, HasSent}
use Rattle.ttx_playout.specs.declared.state.OnAir.{OnAir}
use Rattle.ttx_playout.specs.declared.late_change.LateChange.{LateChange}
use Rattle.ttx_playout.specs.declared.late_change.LateChange.TheVariants.{Yes, No, NeverShown, TooFar, Unfollowed}
use Rattle.ttx_air.specs.declared.airtime.Receivers.{Receivers}
use Rattle.ttx_air.specs.declared.airtime.Receivers.TheVariants.{AtOnce, Late}
use Rattle.ttx_air.specs.Newsrooms.{Candidate, News, Next}
use Rattle.ttx_air.specs.Judgements.{is_yes, IsJudgement}
use Rattle.ttx_air.specs.Endings.{Ending, Judged, Unjudged, taken_by, current_after, held_after, later_after, IsEnding, answer_at, Asked}
use Rattle.ttx_air.specs.LogLines.{Tick, reason_line, changed_line, kept_line, ending_line}
use Rattle.ttx_air.specs.Airings.{Written}
use Rattle.ttx_air.specs.Entries.{Adds}
use Rattle.ttx_air.specs.Steps.{IsTaking, IsSettled, IsEnded}
use Rattle.ttx_air.proofs.AddedLines.{adds_same, adds_since}

-- ---- a yes is the splice's

pub yes_is_accepted : (receivers : Receivers) (old new : Edition) (verdict : LateChange) → is_yes verdict ≡ true → IsJudgement receivers old new verdict →
    IsChangeVerdict old new splice.Yes
yes_is_accepted AtOnce old new Yes test is = is
yes_is_accepted (Late gap) old new Yes test is = is.0
yes_is_accepted receivers old new (No reason) test is = absurd (let e : false ≡ true = test in cc)
yes_is_accepted receivers old new (NeverShown page slot) test is = absurd (let e : false ≡ true = test in cc)
yes_is_accepted receivers old new (TooFar gap) test is = absurd (let e : false ≡ true = test in cc)
yes_is_accepted receivers old new (Unfollowed page) test is = absurd (let e : false ≡ true = test in cc)

-- ---- a next edition takes over

module _ (receivers : Receivers) (next : Candidate) (verdict : LateChange) (old new : OnAir) (time : IsTime old)
    (is : IsJudgement receivers (current_of old) next.edition verdict) (test : is_yes verdict ≡ true) (taking : IsTaking next.edition old new) where
  by : taken_by (Judged next verdict) ≡ Some next.edition
  by = ap (λ b. if b then Some next.edition else None) test

  pub ended_taken : IsEnded receivers (Judged next verdict) old new
  ended_taken = record {
    is_ending = (time.held, is);
    current = taking.current ∙ sym (ap (current_after (current_of old)) by);
    held = taking.held ∙ sym (ap (held_after (held_of old)) by);
    between = taking.between;
    sent = λ slots first later has.
        subst (λ change. HasSent slots new first (later_after later change)) (sym by) (taking.sent slots first later has);
  }

-- ---- or what is on the air stays

module _ (receivers : Receivers) (ending : Ending) (old new : OnAir) (same : new ≡ old) (between : at_of old ≡ 0)
    (is : IsEnding receivers (current_of old) (held_of old) ending) (by : taken_by ending ≡ None) where
  pub ended_same : IsEnded receivers ending old new
  ended_same = record {
    is_ending = is;
    current = ap current_of same ∙ sym (ap (current_after (current_of old)) by);
    held = ap held_of same ∙ sym (ap (held_after (held_of old)) by);
    between = ap at_of same ∙ between;
    sent = λ slots first later has.
        subst (λ change. HasSent slots new first (later_after later change)) (sym by) (subst (λ o. HasSent slots o first later) (sym same) has);
  }

pub not_taken : (next : Candidate) (verdict : LateChange) → is_yes verdict ≡ false → taken_by (Judged next verdict) ≡ None
not_taken next verdict test = ap (λ b. if b then Some next.edition else None) test

-- ---- a next edition that was judged

module _ (receivers : Receivers) (next : Candidate) (verdict : LateChange) (started : ℕ) (t : Tick) (old new : OnAir) (log log' : Written)
    (time : IsTime old) (is : IsJudgement receivers (current_of old) next.edition verdict) (place : Tick) (at : t ≡ place)
    (from : ℕ) (since : started ≡ from) where
  Line : Bool → List ℕ
  Line b = if b then changed_line t (current_of old) next else kept_line t next.mark (reason_line verdict)

  placed : (ending : Ending) → ending_line t (current_of old) ending ≡ ending_line place (current_of old) ending
  placed ending = ap (λ f. ending_line f (current_of old) ending) at

  pub settled_is_ended : IsSettled verdict next started t old new log log' →
      (ending : Ending) × IsEnded receivers ending old new × (answer_at ending ≡ Some (Next next))
      × Adds from log log' (ending_line place (current_of old) ending)
  unfolding Line
  settled_is_ended (inl (test, taking, adds)) = (
    Judged next verdict,
    ended_taken receivers next verdict old new time is test taking,
    refl,
    adds_since since (adds_same (sym (ap Line test) ∙ placed (Judged next verdict)) adds),
  )
  settled_is_ended (inr (test, same, inl adds)) = (
    Judged next verdict,
    ended_same receivers (Judged next verdict) old new same time.between (time.held, is) (not_taken next verdict test),
    refl,
    adds_since since (adds_same (sym (ap Line test) ∙ placed (Judged next verdict)) adds),
  )
  settled_is_ended (inr (test, same, inr adds)) = (
    Unjudged next,
    ended_same receivers (Unjudged next) old new same time.between time.held refl,
    refl,
    adds_since since (adds_same (placed (Unjudged next)) adds),
  )

-- ---- the newsroom's answer
