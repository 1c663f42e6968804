use Rattle.std.proofs.Common.{ℕ, refl, inl, inr, sym, ◌∙◌, subst, arith}
use Rattle.std.proofs.KnownBytes.{Keeps-refl}
use Rattle.ttx_cycle.specs.Counters.{inner_of, faults_of}
use Rattle.ttx_monitor.specs.Stepping.{IsStep}
use Rattle.ttx_monitor.specs.Wordings.{event_text}
use Rattle.ttx_monitor.specs.Followed.{telling_of}
use Rattle.ttx_monitor.proofs.FollowedFeeds.{none_followed, so_followed, so_cut_off, so_fault, so_stopped, so_on, not_of_feed}
use Rattle.ttx_monitor.proofs.live_feed.follow.Goals as goal

pub loop-slot-init : goal.loop-slot-init
loop-slot-init g c = record {
  told = λ w bytes st left zero. none_followed c.rows_are_numbered.ensures c.each_slot_turns.ensures c.streams_move.ensures c.streaks_decide.ensures
      w bytes (telling_of g.V.Wording.words c.args.how.now) c.args.following.now (g.R.Read.remaining (inner_of c.args.feed.now))
      (g.W.Write.contents (inner_of c.args.writer.now)) st left zero;
  feed = refl;
  writer = refl;
}

pub returns-in-Err-clause-told : goal.returns-in-Err-clause-told
returns-in-Err-clause-told g c = λ w bytes st waits zero.
    let h = c.loop-slot.invariant.told w bytes st waits zero in
    let g' = telling_of g.V.Wording.words c.args.how.now in
    let f = c.loop-slot.following in
    let rem = g.R.Read.remaining (inner_of c.loop-slot.feed) in
    let old = g.W.Write.contents (inner_of c.args.writer.now) in
    let new = g.W.Write.contents (inner_of c.loop-slot.writer) in
    so_cut_off w bytes g' f rem old new c.loop-slot.slot h new (Keeps-refl new)

pub returns-in-End-clause-told : goal.returns-in-End-clause-told
returns-in-End-clause-told g c = λ w bytes st waits zero.
    let h = c.loop-slot.invariant.told w bytes st waits zero in
    let g' = telling_of g.V.Wording.words c.args.how.now in
    let f = c.loop-slot.following in
    let rem = g.R.Read.remaining (inner_of c.loop-slot.feed) in
    let old = g.W.Write.contents (inner_of c.args.writer.now) in
    let new = g.W.Write.contents (inner_of c.loop-slot.writer) in
    let left = g.R.Read.remaining (inner_of c.hear_next.new.feed) in
    let next = subst (IsStep h.at h.slots h.left c.hear_next.new.monitor c.hear_next.new.ahead left) c.in-End.is
    (c.in-Ok.ensures.step h.at h.slots h.left h.stands h.waits) in
    so_followed w bytes g' f rem old new c.loop-slot.slot h _ c.in-End.rest refl next.2 (inl (next.0, next.1))

pub returns-in-Err-tell-clause-told : goal.returns-in-Err-tell-clause-told
returns-in-Err-tell-clause-told g c = λ w bytes st waits zero.
    let h = c.loop-slot.invariant.told w bytes st waits zero in
    let g' = telling_of g.V.Wording.words c.args.how.now in
    let f = c.loop-slot.following in
    let rem = g.R.Read.remaining (inner_of c.loop-slot.feed) in
    let old = g.W.Write.contents (inner_of c.args.writer.now) in
    let new = g.W.Write.contents (inner_of c.loop-slot.writer) in
    let left = g.R.Read.remaining (inner_of c.hear_next.new.feed) in
    let next = subst (IsStep h.at h.slots h.left c.hear_next.new.monitor c.hear_next.new.ahead left) c.in-Heard.is
    (c.in-Ok.ensures.step h.at h.slots h.left h.stands h.waits) in
    so_fault w bytes g' f rem old new c.loop-slot.slot h c.hear_next.new.monitor c.hear_next.new.ahead left c.in-Heard.event next ℕ f
    (g.W.Write.contents (inner_of c.tell.new.writer)) c.in-Err-tell.fault c.in-Err-tell.ensures.bytes

pub returns-in-Err-tell-clause-feed : goal.returns-in-Err-tell-clause-feed
returns-in-Err-tell-clause-feed g c =
    not_of_feed ℕ (event_text (telling_of g.V.Wording.words c.args.how.now) c.loop-slot.following.tally c.in-Heard.event) (g.W.Write.contents (inner_of c.loop-slot.writer))
    (g.W.Write.contents (inner_of c.tell.new.writer)) c.in-Err-tell.fault c.in-Err-tell.ensures.bytes (faults_of c.args.feed.now)
    (faults_of c.hear_next.new.feed) (c.in-Ok.ensures.faults.0 ∙ c.loop-slot.invariant.feed)

pub returns-then-is_last-clause-told : goal.returns-then-is_last-clause-told
returns-then-is_last-clause-told g c = λ w bytes st waits zero.
    let h = c.loop-slot.invariant.told w bytes st waits zero in
    let g' = telling_of g.V.Wording.words c.args.how.now in
    let f = c.loop-slot.following in
    let rem = g.R.Read.remaining (inner_of c.loop-slot.feed) in
    let old = g.W.Write.contents (inner_of c.args.writer.now) in
    let new = g.W.Write.contents (inner_of c.loop-slot.writer) in
    let left = g.R.Read.remaining (inner_of c.hear_next.new.feed) in
    let next = subst (IsStep h.at h.slots h.left c.hear_next.new.monitor c.hear_next.new.ahead left) c.in-Heard.is
    (c.in-Ok.ensures.step h.at h.slots h.left h.stands h.waits) in
    so_stopped w bytes g' f rem old new c.loop-slot.slot h c.hear_next.new.monitor c.hear_next.new.ahead left c.in-Heard.event next
    _ (g.W.Write.contents (inner_of c.tell.new.writer)) refl c.added-following.ensures c.in-Ok-tell.ensures.bytes (sym c.is_last.ensures ∙ c.if-is_last.true)

pub loop-slot-preserved : goal.loop-slot-preserved
loop-slot-preserved g c = record {
  told = λ w bytes st waits zero.
      let h = c.loop-slot.invariant.told w bytes st waits zero in
      let g' = telling_of g.V.Wording.words c.args.how.now in
      let f = c.loop-slot.following in
      let rem = g.R.Read.remaining (inner_of c.loop-slot.feed) in
      let old = g.W.Write.contents (inner_of c.args.writer.now) in
      let new = g.W.Write.contents (inner_of c.loop-slot.writer) in
      let left = g.R.Read.remaining (inner_of c.hear_next.new.feed) in
      let next = subst (IsStep h.at h.slots h.left c.hear_next.new.monitor c.hear_next.new.ahead left) c.in-Heard.is
      (c.in-Ok.ensures.step h.at h.slots h.left h.stands h.waits) in
      so_on w bytes g' f rem old new c.loop-slot.slot h c.hear_next.new.monitor c.hear_next.new.ahead left c.in-Heard.event next _
      (g.W.Write.contents (inner_of c.tell.new.writer)) refl refl c.added-following.ensures c.in-Ok-tell.ensures.bytes
      (sym c.is_last.ensures ∙ c.if-is_last.false);
  feed = c.in-Ok.ensures.faults.0 ∙ c.loop-slot.invariant.feed;
  writer = c.in-Ok-tell.ensures.faults ∙ c.loop-slot.invariant.writer;
}

pub returns-clause-told : goal.returns-clause-told
returns-clause-told g c = λ w bytes st waits zero.
    let h = c.loop-slot.invariant.told w bytes st waits zero in
    let g' = telling_of g.V.Wording.words c.args.how.now in
    let f = c.loop-slot.following in
    let rem = g.R.Read.remaining (inner_of c.loop-slot.feed) in
    let old = g.W.Write.contents (inner_of c.args.writer.now) in
    let new = g.W.Write.contents (inner_of c.loop-slot.writer) in
    so_followed w bytes g' f rem old new c.loop-slot.slot h c.loop-slot.following 0 refl h.stands (inr (let s = h.size in omega arith))
