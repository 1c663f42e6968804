-- One slot more is sent.
use Rattle.std.proofs.Common.{◌≡◌, inl, inr, ℕ, suc, ◌+◌, ◌/◌, ◌^◌, ◌-◌, min, true, false, nat_lt, if◌then◌else◌, List, [], ◌∷◌, ◌++◌, length}
use Rattle.std.proofs.Common.{sym, ap, ◌∙◌, subst, arith, length-append, append_assoc}
use Rattle.std.proofs.lemmas.Bool.{cases_lt, lt-ltb, le-ltb}
use Rattle.ttx_send.specs.Airing.{Times}
use Rattle.ttx_playout.specs.Schedules.{Edition, Showing, one_more}
use Rattle.ttx_playout.specs.Takeovers.{current_of, at_of, held_of, after_place, after_hold, after_slot, HasSent}
use Rattle.ttx_playout.specs.declared.state.OnAir.{OnAir}
use Rattle.ttx_air.specs.declared.airtime.Receivers.{Receivers}
use Rattle.ttx_air.specs.Newsrooms.{Candidate, News}
use Rattle.ttx_air.specs.Endings.{Ending, Playout, with_period, playout_after, field_after, taken_by, current_after, held_after, IsEnding, answer_at, Asked}
use Rattle.ttx_air.specs.LogLines.{tick, first_line, lines_of, ending_line}
use Rattle.ttx_air.specs.Airings.{Written, Logs, IsAired}
use Rattle.ttx_air.specs.Entries.{Adds}
use Rattle.ttx_air.specs.Steps.{IsEnded, SoFar}

module _ {N : Type 0} (gives : N → Edition → ℕ → News → N → Type 0) (receivers : Receivers) (times : Times) (lines started : ℕ) (first : Candidate) (gone : N)
    (begin : Written) (past : List Ending) (slots : List (List ℕ)) (slot : List ℕ) (old mid : OnAir) (asked : N) (log : Written)
    (so_far : SoFar gives receivers times lines started first gone begin old asked log past slots)
    (same : current_of mid ≡ current_of old) (place : at_of mid ≡ after_place old) (held : held_of mid ≡ after_hold old)
    (on_air : (log : List (List ℕ)) (first : Edition) (later : List Showing) → HasSent log old first later →
    HasSent (log ++ slot ∷ []) mid first (after_slot old later)) where
  abbrev aired : IsAired gives receivers first.edition gone old asked past slots
  aired = so_far.aired

  abbrev playout : Playout
  playout = playout_after first.edition past

  longer : length (slots ++ slot ∷ []) ≡ suc (length slots)
  longer = let e : length slots + 1 ≡ suc (length slots) = omega arith in length-append slots (slot ∷ []) ∙ e

  -- amid a period
  module _ (amid : at_of mid ≡ 0 → ⊥) where
    test_amid : nat_lt (at_of old + 1) (length (current_of old).cycle) ≡ true
    test_amid = elim (cases_lt (at_of old + 1) (length (current_of old).cycle)) as (λ _. nat_lt (at_of old + 1) (length (current_of old).cycle) ≡ true) [
      | inl lt ↦ lt-ltb _ _ lt
      | inr ge ↦ absurd (amid (place ∙ ap (λ b. if b then at_of old + 1 else 0) (le-ltb (at_of old + 1) (length (current_of old).cycle) ge)))
    ]

    pub so_far_amid : SoFar gives receivers times lines started first gone begin mid asked log past (slots ++ slot ∷ [])
    so_far_amid =
        let at : at_of mid ≡ at_of old + 1 = place ∙ ap (λ b. if b then at_of old + 1 else 0) test_amid in
        record {
          aired = record {
            sent = subst (HasSent (slots ++ slot ∷ []) mid first.edition) (ap (λ b. if b then playout.later else one_more playout.later) test_amid)
                (on_air slots first.edition playout.later aired.sent);
            current = same ∙ aired.current;
            held = held
                ∙ ap (λ b. if b then held_of old else min (held_of old + length (current_of old).cycle) (2 ^ 32 - 1)) test_amid
                ∙ aired.held;
            place = omega (arith, longer, at, aired.place);
            endings = aired.endings;
            answers = aired.answers;
          };
          lines = so_far.lines;
          faults = so_far.faults;
          logged = so_far.logged;
        }

  -- at the end of a period
  module _ (end : at_of mid ≡ 0) where
    test_end : nat_lt (at_of old + 1) (length (current_of old).cycle) ≡ false
    test_end = elim (cases_lt (at_of old + 1) (length (current_of old).cycle)) as (λ _. nat_lt (at_of old + 1) (length (current_of old).cycle) ≡ false) [
      | inl lt ↦
          let at : at_of mid ≡ at_of old + 1 = place ∙ ap (λ b. if b then at_of old + 1 else 0) (lt-ltb (at_of old + 1) (length (current_of old).cycle) lt) in
          absurd (omega (arith, at, end))
      | inr ge ↦ le-ltb _ _ ge
    ]

    period_is : at_of old + 1 ≡ length (current_of old).cycle
    period_is = elim (cases_lt (at_of old + 1) (length (current_of old).cycle)) as (λ _. at_of old + 1 ≡ length (current_of old).cycle) [
      | inl lt ↦
          let at : at_of mid ≡ at_of old + 1 = place ∙ ap (λ b. if b then at_of old + 1 else 0) (lt-ltb (at_of old + 1) (length (current_of old).cycle) lt) in
          absurd (omega (arith, at, end))
      | inr ge ↦ let inside = old.inside in omega (arith, inside, ge)
    ]

    length_is : length (current_of old).cycle ≡ length playout.current.cycle
    length_is = ap (λ e. length e.cycle) aired.current

    held_is : held_of mid ≡ (with_period playout).held
    held_is = held
        ∙ ap (λ b. if b then held_of old else min (held_of old + length (current_of old).cycle) (2 ^ 32 - 1)) test_end
        ∙ ap (λ h. min (h + length (current_of old).cycle) (2 ^ 32 - 1)) aired.held
        ∙ ap (λ n. min (playout.held + n) (2 ^ 32 - 1)) length_is

    current_is : current_of mid ≡ playout.current
    current_is = same ∙ aired.current

    slots_is : playout.slots + length playout.current.cycle ≡ suc (length slots)
    slots_is = omega (arith, aired.place, period_is, length_is)

    field_is : (number : ℕ) → number ≡ suc (length slots) → number / lines ≡ field_after first.edition past
    field_is number is = (λ i. (is ∙ sym slots_is) i / so_far.lines i)

    module _ (new : OnAir) (news : N) (log' : Written) (ending : Ending) (number : ℕ) (is : number ≡ suc (length slots))
        (ended : IsEnded receivers ending mid new) (asks : Asked gives asked (current_of mid) (number / lines) (answer_at ending) news)
        (adds : Adds started log log' (ending_line (tick times (number / lines)) (current_of mid) ending)) where
      aired_end : IsAired gives receivers first.edition gone new news (ending ∷ past) (slots ++ slot ∷ [])
      aired_end = record {
        sent = ended.sent (slots ++ slot ∷ []) first.edition (one_more playout.later)
            (subst (HasSent (slots ++ slot ∷ []) mid first.edition) (ap (λ b. if b then playout.later else one_more playout.later) test_end)
            (on_air slots first.edition playout.later aired.sent));
        current = ended.current ∙ ap (λ e. current_after e (taken_by ending)) current_is;
        held = ended.held ∙ ap (λ h. held_after h (taken_by ending)) held_is;
        place = omega (arith, longer, slots_is, ended.between);
        endings = (
          aired.endings,
          subst (λ h. IsEnding receivers playout.current h ending) held_is
              (subst (λ e. IsEnding receivers e (held_of mid) ending) current_is ended.is_ending),
        );
        answers = (
          asked,
          aired.answers,
          subst (λ f. Asked gives asked playout.current f (answer_at ending) news) (field_is number is)
              (subst (λ e. Asked gives asked e (number / lines) (answer_at ending) news) current_is asks),
        );
      }

      line_is : ending_line (tick times (number / lines)) (current_of mid) ending
          ≡ ending_line (tick times (field_after first.edition past)) playout.current ending
      line_is = λ i. ending_line (tick times (field_is number is i)) (current_is i) ending

      pub so_far_end : SoFar gives receivers times lines started first gone begin new news log' (ending ∷ past) (slots ++ slot ∷ [])
      so_far_end =
          let head = first_line (tick times 0) first.mark first.edition in
          record {
            aired = aired_end;
            lines = so_far.lines;
            faults = so_far.faults;
            logged = subst (Logs begin log')
                (append_assoc head (lines_of times first.edition past) (ending_line (tick times (number / lines)) (current_of mid) ending)
                ∙ ap (λ l. head ++ (lines_of times first.edition past ++ l)) line_is)
                (adds.further begin (head ++ lines_of times first.edition past) so_far.faults so_far.logged);
          }
