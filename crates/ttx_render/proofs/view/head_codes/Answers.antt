use Rattle.std.proofs.Common.{◌≡◌, rules, replicate}
use Rattle.ttx_render.proofs.SpaceRows.{IsRow-head}
use Rattle.ttx_render.proofs.view.head_codes.Goals as goal

pub returns-clause-row : goal.returns-clause-row
returns-clause-row c =
    let h : c.fill.new.self ≡ replicate 8 0x20 = search rules in
    rw h (IsRow-head c.args.row.now c.requires)
