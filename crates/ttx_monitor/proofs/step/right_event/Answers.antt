use Rattle.std.proofs.Common.{◌++◌, ◌∷◌, [], refl, sym}
use Rattle.ttx_monitor.proofs.step.right_event.Goals as goal

pub returns : goal.returns
returns c = λ w slots slot st right.
    let after = c.hear_right.ensures.stands w slots slot st right in
    record {
      shift_is = refl;
      breach = c.hear_right.ensures.heard w slots slot st right;
      wrong = sym right.wrong;
      bits = sym right.bits;
      streak = c.streak.ensures w (slots ++ slot ∷ []) after;
      stands = after;
    }
