use Rattle.std.proofs.Common.{◌≡◌, ◌↔◌, ◌+◌, pos, true, length, refl, sym, ap, subst, arith}
use Rattle.std.proofs.lemmas.Bool.{both_ways}
use Rattle.ttx_page.specs.Streams.{repeated}
use Rattle.ttx_counter.specs.Keys.{is_hit}
use Rattle.ttx_counter.specs.Listening.{HasOwner}
use Rattle.ttx_counter.specs.Cells.{StreaksAfter, AreStreaks}
use Rattle.ttx_counter.specs.Rule.{sends_row, KeepsRule}
use Rattle.ttx_counter.proofs.SentRows.{slot_at, mine_more, mine_begins}
use Rattle.ttx_counter.proofs.KeyCursors.{cursor_begins, cursor_next}
use Rattle.ttx_cycle.specs.Cycles.{slots_of}
use Rattle.ttx_counter.proofs.StarvedFrom.{none_of}
use Rattle.ttx_counter.proofs.NoHitKeepsTheRule.{kept}
use Rattle.ttx_counter.specs.Hearing.{IsHitBy, IsHeard}
use Rattle.ttx_counter.proofs.ReceivedSlots.{hit_by, heard_none, heard_more}
use Rattle.ttx_counter.proofs.RuleFromStreaks.{tells, row_is, keeps, breaks}
use Rattle.ttx_counter.proofs.rule.hear_within_rule.Goals as goal
use Rattle.ttx_counter.proofs.rule.hear_within_rule.Goals.{After-note}

-- what slot i sends
noted_here : (c : After-note) → StreaksAfter c.note.result
    (sends_row c.args.page (repeated c.slots-slots.result.now) (pos c.args.run.now.start) c.is_owned-mine.result)
    (is_hit c.args.run.now.keys.now) c.args.repeat (c.loop-i.i + 1) c.note.new.streaks.latest.items c.note.new.streaks.cells.items
noted_here c =
    let x = c.slots-slots.result.now in
    let i = c.loop-i.invariant in
    c.note.ensures.noted _ _ i.streaks
    (tells c.args.run.now.keys.now c.requires.sorted c.loop-i.i c.loop-i.from c.end_of-to.result i.cursor c.end_of-to.ensures
    c.args.page (repeated x) (pos c.args.run.now.start) c.is_owned-mine.result c.row_sent-row.result
    (row_is c.args.page (repeated x) (pos c.args.run.now.start) c.is_owned-mine.result c.loop-i.mine c.loop-i.i _ c.row_sent-row.result i.mine
    (slot_at x c.args.run.now.start c.loop-i.i c.place.result c.place.ensures.value) c.row_sent-row.ensures.row))

pub loop-i-init : goal.loop-i-init
loop-i-init c = record {
  mine = mine_begins c.args.page (repeated c.slots-slots.result.now) (pos c.args.run.now.start) c.is_owned-mine.result;
  rows = c.in_ok-streaks.ensures.rows;
  places = c.in_ok-streaks.ensures.places;
  streaks = c.in_ok-streaks.ensures.none _ _ c.args.repeat c.requires.some;
  cursor = cursor_begins c.args.run.now.keys.now;
  heard = heard_none (repeated c.slots-slots.result.now) c.args.run.now.start c.args.run.now.keys.now c.args.receiver.now;
}

pub loop-i-preserved : goal.loop-i-preserved
loop-i-preserved c =
    let x = c.slots-slots.result.now in
    let i = c.loop-i.invariant in
    record {
      mine = mine_more c.args.page (repeated x) (pos c.args.run.now.start) c.is_owned-mine.result c.loop-i.mine c.mine_after-mine.result
          c.loop-i.i _ i.mine
          (slot_at x c.args.run.now.start c.loop-i.i c.place.result c.place.ensures.value) c.mine_after-mine.ensures;
      rows = c.note.ensures.rows;
      places = c.note.ensures.places;
      streaks = subst (λ b. StreaksAfter b (sends_row c.args.page (repeated x) (pos c.args.run.now.start) c.is_owned-mine.result)
          (is_hit c.args.run.now.keys.now) c.args.repeat
          (c.loop-i.i + 1) c.note.new.streaks.latest.items c.note.new.streaks.cells.items)
          c.if-not-note.false (noted_here (goal.at.loop-i-preserved c).After-note);
      cursor = cursor_next c.args.run.now.keys.now c.requires.sorted c.loop-i.i c.loop-i.from c.end_of-to.result i.cursor c.end_of-to.ensures;
      heard = heard_more (repeated x) c.args.run.now.start c.loop-i.i c.args.run.now.keys.now _ c.loop-i.receiver _ c.hit_slot.result
          (subst (λ z. IsHitBy c.args.run.now.keys.now c.loop-i.i z c.hit_slot.result)
          (sym (slot_at x c.args.run.now.start c.loop-i.i c.place.result c.place.ensures.value))
          (hit_by c.args.run.now.keys.now c.requires.sorted c.loop-i.i c.loop-i.from c.end_of-to.result i.cursor c.end_of-to.ensures _
          c.hit_slot.result c.hit_slot.ensures))
          c.step.ensures.value i.heard;
    }

pub returns-then-not-note-clause-kept : goal.returns-then-not-note-clause-kept
returns-then-not-note-clause-kept c =
    let x = c.slots-slots.result.now in
    let owned = subst (λ y. (c.is_owned-mine.result ≡ true) ↔ HasOwner (repeated y) c.args.page (pos c.args.run.now.start))
    (sym c.slots-slots.ensures.slots) c.is_owned-mine.ensures in
    let broken = subst (λ b. StreaksAfter b (sends_row c.args.page (repeated x) (pos c.args.run.now.start) c.is_owned-mine.result)
    (is_hit c.args.run.now.keys.now) c.args.repeat
    (c.loop-i.i + 1) c.note.new.streaks.latest.items c.note.new.streaks.cells.items)
    c.if-not-note.true (noted_here (goal.at.returns-then-not-note-clause-kept c).After-note) in
    let no_rule = breaks c.rows_are_numbered.ensures c.streaks_decide.ensures
    (repeated x) c.args.page c.args.run.now.start c.args.run.now.count c.args.repeat c.requires.some c.args.run.now.keys.now
    c.is_owned-mine.result owned (c.loop-i.i + 1) (omega arith) broken in (
      (λ no_it. absurd (both_ways _ refl no_it)),
      (λ rule. absurd (no_rule (subst
          (λ y. KeepsRule (repeated y) c.args.page c.args.run.now.start c.args.run.now.count c.args.repeat c.args.run.now.keys.now)
          (sym c.slots-slots.ensures.slots) rule))),
    )

pub returns-clause-kept : goal.returns-clause-kept
returns-clause-kept c =
    let x = c.slots-slots.result.now in
    let owned = subst (λ y. (c.is_owned-mine.result ≡ true) ↔ HasOwner (repeated y) c.args.page (pos c.args.run.now.start))
    (sym c.slots-slots.ensures.slots) c.is_owned-mine.ensures in
    let whole : c.loop-i.i ≡ c.args.run.now.count = omega arith in
    let sent = sends_row c.args.page (repeated x) (pos c.args.run.now.start) c.is_owned-mine.result in
    let streaks = subst (λ n. AreStreaks sent (is_hit c.args.run.now.keys.now) c.args.repeat n c.loop-i.streaks.latest.items
    c.loop-i.streaks.cells.items) whole c.loop-i.invariant.streaks in (
      (λ it. subst (λ y. KeepsRule (repeated y) c.args.page c.args.run.now.start c.args.run.now.count c.args.repeat
          c.args.run.now.keys.now) c.slots-slots.ensures.slots
          (keeps c.rows_are_numbered.ensures c.streaks_decide.ensures
          (repeated x) c.args.page c.args.run.now.start c.args.run.now.count c.args.repeat c.requires.some
          c.args.run.now.keys.now c.is_owned-mine.result owned c.loop-i.streaks.latest.items c.loop-i.streaks.cells.items
          streaks)),
      (λ rule. refl),
    )

pub returns-then-is_empty-clause-kept : goal.returns-then-is_empty-clause-kept
returns-then-is_empty-clause-kept c = (
  (λ _. kept (repeated (slots_of c.args.run.now.cycle.now)) c.args.page c.args.run.now.start c.args.run.now.count c.args.repeat
      c.args.run.now.keys.now c.requires.some
      (ap length (none_of c.args.run.now.keys.now c.is_empty.result c.is_empty.ensures c.if-is_empty.true))),
  (λ _. refl),
)

pub returns-clause-heard : goal.returns-clause-heard
returns-clause-heard c = λ kept.
    let whole : c.loop-i.i ≡ c.args.run.now.count = omega arith in
    subst (λ y. IsHeard (repeated y) c.args.run.now.start c.args.run.now.count c.args.run.now.keys.now c.args.receiver.now
    c.loop-i.receiver) c.slots-slots.ensures.slots
    (subst (λ n. IsHeard (repeated c.slots-slots.result.now) c.args.run.now.start n c.args.run.now.keys.now c.args.receiver.now
    c.loop-i.receiver) whole c.loop-i.invariant.heard)
