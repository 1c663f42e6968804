use Rattle.std.proofs.Common.{◌∷◌, [], ◌&&◌, eqb, get_or, map, take, ap, subst, ◌∙◌}
use Rattle.std.proofs.lemmas.List.{map-append}
use Rattle.ttx_plan.specs.Blocks.{with_fillers}
use Rattle.ttx_plan.specs.Seen.{seen, seen_sent}
use Rattle.ttx_plan.proofs.PassedBlocks.{KeepsLatest, sent_then, keeps_then, list_else, seen_next}
use Rattle.ttx_plan.proofs.rounds.sent_blocks.Goals as goal
use Rattle.ttx_plan.proofs.rounds.sent_blocks.Goals.{then-round-block+in_ok-push, else-round-block}

pub loop-block-preserved : goal.loop-block-preserved
loop-block-preserved c =
    let all = map seen c.args.blocks.now in
    let round = c.loop-round.round in
    let some = map seen (take c.loop-block.block-index c.args.blocks.now) in
    let block = c.block-item.result in
    let more = seen_next c.args.blocks.now c.loop-block.block-index c.block-item.result c.loop-block-test.true c.block-item.is in
    elim c.if-round-block.branch [
      | then-round-block+in_ok-push w ↦ record {
        sent = ap (λ x. map seen_sent x.items) w.sent-is ∙ ap (map seen_sent) w.in_ok-push.ensures.items
            ∙ map-append seen_sent c.loop-block.sent.items (_ ∷ [])
            ∙ sent_then c.args.late all some _ round (seen block) w.pass-filler.result c.loop-block.fillers.latest
            (map seen_sent c.loop-block.sent.items) more block.queue_to w.if-round-block.true
            c.loop-block.invariant.latest (w.pass-filler.ensures.filler
            ∙ ap (λ b. b && eqb (get_or c.loop-block.fillers.latest block.queue 0) block.page) c.loop-block.invariant.late)
            c.loop-block.invariant.sent;
        late = ap (λ x. x.late) w.fillers-is ∙ ap (λ x. x.late) w.pass-filler.ensures.passed ∙ c.loop-block.invariant.late;
        latest = rw (w.fillers-is, w.pass-filler.ensures.passed)
            (keeps_then all some _ round (seen block) c.loop-block.fillers.latest more block.queue_to w.if-round-block.true
            c.loop-block.invariant.latest);
      }
      | else-round-block w ↦
          let same = list_else all some _ round (seen block) more w.if-round-block.false in
          record {
            sent = ap (λ x. map seen_sent x.items) w.sent-is ∙ c.loop-block.invariant.sent ∙ ap (with_fillers c.args.late []) same;
            late = ap (λ x. x.late) w.fillers-is ∙ c.loop-block.invariant.late;
            latest = rw w.fillers-is (subst (KeepsLatest c.loop-block.fillers.latest) same c.loop-block.invariant.latest);
          }
    ]
