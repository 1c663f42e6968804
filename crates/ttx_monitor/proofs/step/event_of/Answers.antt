use Rattle.std.proofs.Common.{◌++◌, ◌∷◌, [], refl, ap, ◌∙◌}
use Rattle.ttx_monitor.specs.Totals.{wrong_in, bits_in}
use Rattle.ttx_monitor.proofs.step.event_of.Goals as goal

pub returns : goal.returns
returns c = λ w slots st.
    let slot = c.args.slot.now in
    let due = c.due-due.ensures.is w slots st in
    let after = c.hear-breach.ensures.stands w slots st in
    record {
      shift_is = refl;
      breach = c.hear-breach.ensures.heard w slots st;
      wrong = c.wrong_bytes-wrong.ensures ∙ ap (λ s. wrong_in s slot) due;
      bits = c.wrong_bits-bits.ensures ∙ ap (λ s. bits_in s slot) due;
      streak = c.streak.ensures w (slots ++ slot ∷ []) after;
      stands = after;
    }
