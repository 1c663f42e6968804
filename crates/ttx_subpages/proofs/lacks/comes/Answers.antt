use Rattle.std.proofs.Common.{◌≡◌, ◌∙◌, ◌<ℤ◌, ◌≤ℤ◌, pos, length, map, sym, ap, arith, w32}
use Rattle.std.proofs.lemmas.Int.{ints, to_z_pos}
use Rattle.std.specs.List.{list_any}
use Rattle.ttx_cycle.specs.Cycles.{slots_of, slots_of-IsCycle}
use Rattle.ttx_page.specs.Views.{page_of}
use Rattle.ttx_subpages.specs.Lacks.{is_under, comes_in}
use Rattle.ttx_subpages.proofs.ComingItems.{decides}
use Rattle.ttx_subpages.proofs.lacks.comes.Goals as goal

pub returns : goal.returns
returns c = λ p here.
    let v = c.args.sendings.now in
    let cycle = slots_of v.cycle.now in
    let pages = map page_of v.pages.now in
    let is = slots_of-IsCycle v.cycle.now in
    let inside = c.requires in
    let most = is.most in
    let listed = c.sent.ensures.listed cycle pages v.lines p v.sent here in
    let told : c.comes_under.result ≡ comes_in cycle p v.lines c.args.item.now (pos c.args.at) = c.comes_under.ensures
    ∙ ap (λ z. list_any (is_under z (length c.slots.result.now)) c.sent.result.now) (to_z_pos w32 c.args.at (omega arith))
    ∙ ap (λ n. list_any (is_under (pos c.args.at) n) c.sent.result.now) (ap length c.slots.ensures.slots)
    ∙ ap (list_any (is_under (pos c.args.at) (length cycle))) listed in
    let low : pos 0 ≤ℤ pos c.args.at = omega (arith, ints) in
    let high : pos c.args.at <ℤ pos (length cycle) = omega (arith, ints) in
    let d = decides (record {
      listed = c.transmissions_are_listed.ensures;
      move = c.streams_move.ensures;
      again = c.cycles_repeat.ensures;
      unique = c.owners_are_unique.ensures;
      first = c.owners_come_first.ensures;
      near = c.owners_are_near.ensures;
    }) cycle is.some is.most p v.lines c.args.item.now (pos c.args.at) low high in
    ((λ e. d.0 (sym told ∙ e)), (λ u. told ∙ d.1 u))
