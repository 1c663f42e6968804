-- What follows the edition on the air leaves nothing open if the planned edition does not.
use Rattle.std.proofs.Common.{◌≡◌, inl, inr, ℕ, Bool, true, false, List, [], ◌∷◌, sym, subst}
use Rattle.ttx_change.specs.declared.verdict.LateSplice.TheVariants.{Yes}
use Rattle.ttx_playout.specs.Schedules.{Edition}
use Rattle.ttx_press.specs.Successors.{Leaves, TakesTurn, SucceedsBy, Succeeds}
use Rattle.ttx_press.specs.declared.house.House.{House}

module _ (h : House) (old planned next : Edition) (leaves : Leaves h.receivers old planned Yes) where
  leaves_planned : next ≡ planned → Leaves h.receivers old next Yes
  leaves_planned same = subst (λ e. Leaves h.receivers old e Yes) (sym same) leaves

  leaves_turned : (places : List ℕ) → TakesTurn h old planned places next → Leaves h.receivers old next Yes
  leaves_turned [] same = leaves_planned same
  leaves_turned (at ∷ places) (inl turned) = turned.suits.follows.1
  leaves_turned (at ∷ places) (inr (passed, rest)) = leaves_turned places rest

  leaves_by : (late : Bool) → SucceedsBy late h old planned next → Leaves h.receivers old next Yes
  leaves_by false same = leaves_planned same
  leaves_by true taken = leaves_turned _ taken

  pub leaves_next : Succeeds h old planned next → Leaves h.receivers old next Yes
  leaves_next succeeds = leaves_by succeeds.0 succeeds.2
