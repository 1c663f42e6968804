use Rattle.std.proofs.Common.{rules, ◌++◌, ◌∷◌, [], ◌&&◌, eqb, get_or, map, take, ap, refl, sym, ◌∙◌, arith}
use Rattle.std.specs.Prelude.{option_map}
use Rattle.std.proofs.lemmas.List.{map-append}
use Rattle.std.proofs.lemmas.Option.{slice_get-map, slice_get_read}
use Rattle.ttx_plan.specs.Blocks.{with_fillers, led}
use Rattle.ttx_plan.specs.Order.{picked}
use Rattle.ttx_plan.specs.Seen.{seen, seen_sent}
use Rattle.ttx_plan.proofs.PassedBlocks.{fillers_next, keeps_next, again_is, picked_next}
use Rattle.ttx_plan.proofs.order.sent_in_order.Goals as goal

pub loop-index-preserved : goal.loop-index-preserved
loop-index-preserved c =
    let block = c.index-blocks-index.result in
    let k = c.loop-index.index-index in
    let before = picked (map seen c.args.blocks.now) (take c.loop-index.index-index c.args.order.now) in
    let here = slice_get_read c.args.blocks.now _ (get_or c.args.order.now c.loop-index.index-index 0) c.index-blocks-index.result refl
    (c.requires c.loop-index.index-index (omega arith)) c.index-blocks-index.is in
    let there = slice_get-map seen c.args.blocks.now (get_or c.args.order.now c.loop-index.index-index 0) ∙ ap (option_map seen) here in
    let next = picked_next (map seen c.args.blocks.now) c.args.order.now c.loop-index.index-index (seen c.index-blocks-index.result)
    (omega arith) there in
    let filler = c.pass-filler.ensures.filler
    ∙ ap (λ b. b && eqb (get_or c.loop-index.fillers.latest block.queue 0) block.page) c.loop-index.invariant.late
    ∙ ap (λ b. c.args.late && b) (again_is c.loop-index.fillers.latest before (seen block) block.queue_to c.loop-index.invariant.latest) in
    record {
      sent = ap (map seen_sent) c.in_ok-push.ensures.items ∙ map-append seen_sent c.loop-index.sent.items (_ ∷ [])
          ∙ ap (λ x. x ++ led c.pass-filler.result (seen block) ∷ []) c.loop-index.invariant.sent
          ∙ ap (λ b. with_fillers c.args.late [] before ++ led b (seen block) ∷ []) filler
          ∙ sym (fillers_next c.args.late [] before (seen block)) ∙ ap (with_fillers c.args.late []) (sym next);
      count = search rules;
      late = ap (λ x. x.late) c.pass-filler.ensures.passed ∙ c.loop-index.invariant.late;
      latest = rw (c.pass-filler.ensures.passed, next)
          (keeps_next c.loop-index.fillers.latest before (seen block) block.queue_to c.loop-index.invariant.latest);
    }
