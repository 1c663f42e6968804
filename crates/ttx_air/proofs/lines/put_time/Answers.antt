use Rattle.std.proofs.Common.{◌+◌, ◌%◌, ◌∷◌, [], append_assoc}
use Rattle.ttx_send.specs.Times.{clock_text}
use Rattle.ttx_send.specs.IsoTexts.{date_of, local_day, date_text}
use Rattle.ttx_air.proofs.AddedLines.{adds_both, adds_same}
use Rattle.ttx_air.proofs.lines.put_time.Goals as goal

pub returns : goal.returns
returns g c =
    let t = c.args.moment.now in
    let date = adds_same c.date_text.ensures c.put.ensures in
    let time = adds_same c.clock_text.ensures c.put-3.ensures in
    let offset = adds_same c.offset_text.ensures c.put-4.ensures in
    let day = date_text (date_of (local_day t)) in
    adds_both
    (adds_same (append_assoc day (84 ∷ []) (clock_text ((t.second + t.ahead) % 86400))) (adds_both (adds_both date c.put-2.ensures) time))
    offset
