use Rattle.std.proofs.Common.{◌+◌, ◌∙◌, length, map, refl, ap, subst}
use Rattle.ttx_cycle.specs.Cycles.{slots_of}
use Rattle.ttx_page.specs.Views.{page_of}
use Rattle.ttx_playout.specs.LateSchedules.{AllAreFollowedAcross}
use Rattle.ttx_playout.specs.LateChanges.{IsFirstUnfollowed}
use Rattle.ttx_change.proofs.editions.open_at.Goals as goal

pub returns-in-Some-first_stored : goal.returns-in-Some-first_stored
returns-in-Some-first_stored c = λ s. (
  c.in_default.ensures,
  c.in-Some-first_stored.ensures
      (record s { old = slots_of c.args.old.now; new = slots_of c.args.new.now; old_pages = map page_of c.args.pages.now }) refl refl,
)

pub returns-in-Some-first_unfollowed : goal.returns-in-Some-first_unfollowed
returns-in-Some-first_unfollowed c = λ s.
    let old = slots_of c.args.old.now in
    let new = slots_of c.args.new.now in
    let pages = map page_of c.args.pages.now in
    let most = ap (λ xs. length xs + length c.slots-2.result.now) c.slots.ensures.slots ∙ ap (λ xs. length old + length xs) c.slots-2.ensures.slots in (
      c.in_default.ensures,
      c.in_default-first_stored.ensures (record s { old = old; new = new; old_pages = pages }) refl refl,
      subst (λ n. IsFirstUnfollowed old new pages n c.in-Some-first_unfollowed.page) most c.in-Some-first_unfollowed.ensures,
    )

pub returns-in-None : goal.returns-in-None
returns-in-None c = λ s.
    let old = slots_of c.args.old.now in
    let new = slots_of c.args.new.now in
    let pages = map page_of c.args.pages.now in
    let most = ap (λ xs. length xs + length c.slots-2.result.now) c.slots.ensures.slots ∙ ap (λ xs. length old + length xs) c.slots-2.ensures.slots in
    record {
      none_amid = c.in_default.ensures;
      none_stored = c.in_default-first_stored.ensures (record s { old = old; new = new; old_pages = pages }) refl refl;
      followed = subst (λ n. AllAreFollowedAcross old new pages n) most c.in-None.ensures;
    }
