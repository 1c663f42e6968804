use Rattle.std.proofs.Common.{◌≡◌, ◌∙◌, ◌+◌, ◌<◌, ◌≤◌, length, get_or, [], ◌∷◌, ◌++◌, if◌then◌else◌, ap, sym, arith}
use Rattle.std.proofs.lemmas.Bool.{lt-ltb, le-ltb}
use Rattle.ttx_playout.specs.Schedules.{edition_at, one_more}
use Rattle.ttx_playout.specs.Takeovers.{current_of, after_slot}
use Rattle.ttx_playout.proofs.HandedFurther.{editions_more, handed_more, last_more, sent_more, sent_by}
use Rattle.ttx_playout.proofs.SentSoFar.{so_far_inside, so_far_period}
use Rattle.ttx_playout.proofs.state.OnAir.next_slot.Goals as goal

pub returns-then-next-count-clause-on_air : goal.returns-then-next-count-clause-on_air
returns-then-next-count-clause-on_air c = λ log first later has.
    let o = c.args.self.now in
    let on = has.on_air in
    let size = ap length c.slots-slots.ensures.slots in
    let last = ap (λ e. length e.cycle) on.current in
    let most = c.slots-slots.ensures.cycle.most in
    let test = c.if-next-count.true in
    let lt : o.at + 1 < length (current_of o).cycle = omega arith in
    let inside : o.at + 1 < length (edition_at first later (length later)).cycle = omega arith in
    let here = ap (λ e. get_or e.cycle o.at []) on.current ∙ sym (ap (λ xs. get_or xs o.at []) c.slots-slots.ensures.slots) in
    let so_far = so_far_inside c.each_slot_turns.ensures first later log (get_or c.slots-slots.result.now o.at []) o.at has.next has.place
    has.is_log here inside in
    let after : later ≡ after_slot o later = sym (ap (λ b. if b then later else one_more later) (lt-ltb (o.at + 1) (length (current_of o).cycle) lt)) in
    sent_by (log ++ get_or c.slots-slots.result.now o.at [] ∷ []) _ first later (after_slot o later) after (record {
      on_air = record { editions = on.editions; handed = on.handed; current = on.current; sent = on.sent };
      next = so_far.next;
      place = so_far.place;
      is_log = so_far.is_log;
    })

pub returns-else-next-count-clause-on_air : goal.returns-else-next-count-clause-on_air
returns-else-next-count-clause-on_air c = λ log first later has.
    let o = c.args.self.now in
    let on = has.on_air in
    let size = ap length c.slots-slots.ensures.slots in
    let last = ap (λ e. length e.cycle) on.current in
    let most = c.slots-slots.ensures.cycle.most in
    let test = c.if-next-count.false in
    let inside = o.inside in
    let end : o.at + 1 ≡ length (edition_at first later (length later)).cycle = omega arith in
    let le : length (current_of o).cycle ≤ o.at + 1 = omega arith in
    let held : c.saturating_add-self.result ≤ o.held + length (edition_at first later (length later)).cycle = omega arith in
    let here = ap (λ e. get_or e.cycle o.at []) on.current ∙ sym (ap (λ xs. get_or xs o.at []) c.slots-slots.ensures.slots) in
    let so_far = so_far_period c.each_slot_turns.ensures first later log (get_or c.slots-slots.result.now o.at []) o.at has.next has.place
    has.is_log here end in
    let after : one_more later ≡ after_slot o later =
    sym (ap (λ b. if b then later else one_more later) (le-ltb (o.at + 1) (length (current_of o).cycle) le)) in
    sent_by (log ++ get_or c.slots-slots.result.now o.at [] ∷ []) _ first (one_more later) (after_slot o later) after (record {
      on_air = record {
        editions = editions_more first later on.editions;
        handed = handed_more first later on.handed;
        current = last_more first later ∙ on.current;
        sent = sent_more first later o.held c.saturating_add-self.result on.sent held;
      };
      next = so_far.next;
      place = so_far.place;
      is_log = so_far.is_log;
    })
