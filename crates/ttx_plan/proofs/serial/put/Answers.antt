use Rattle.std.proofs.Common.{◌++◌, ◌∷◌, [], map, length, ap, ◌∙◌, append_assoc}
use Rattle.ttx_plan.specs.Serial.{info_if}
use Rattle.ttx_plan.specs.Packets.{bytes_of}
use Rattle.ttx_plan.specs.Turns.{is_info_due}
use Rattle.ttx_plan.proofs.LaidSlots.{laid_more}
use Rattle.ttx_plan.proofs.serial.put.Goals as goal

pub returns : goal.returns
returns c = λ list laid.
    laid_more c.args.lines c.args.info list c.args.slot c.args.slots.now.items c.push.new.self.items laid
    (c.in_ok-push.ensures.items ∙ ap (λ x. x ++ c.bytes.result ∷ []) c.in_ok-put_info.ensures
    ∙ append_assoc c.args.slots.now.items
    (map bytes_of (info_if c.args.info (is_info_due c.args.lines (length c.args.slots.now.items)))) (c.bytes.result ∷ [])
    ∙ ap (λ x. c.args.slots.now.items ++
    (map bytes_of (info_if c.args.info (is_info_due c.args.lines (length c.args.slots.now.items))) ++ x ∷ []))
    c.bytes.ensures)
