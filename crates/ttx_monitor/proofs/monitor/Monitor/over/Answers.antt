use Rattle.std.proofs.Common.{◌≡◌, ◌+◌, ◌%◌, map, length, refl, ap, ◌∙◌, arith}
use Rattle.std.proofs.lemmas.List.{length-map}
use Rattle.ttx_page.specs.Views.{page_of}
use Rattle.ttx_cycle.specs.Cycles.{slots_of}
use Rattle.ttx_monitor.specs.Watching.{watched}
use Rattle.ttx_monitor.proofs.FirstState.{none, first_streaks, first_kept}
use Rattle.ttx_monitor.proofs.LongestStreaks.{first_longest}
use Rattle.ttx_monitor.proofs.WrongBytes.{no_wrong}
use Rattle.ttx_monitor.proofs.monitor.Monitor.over.Goals as goal

pub returns : goal.returns
returns c =
    let pages = c.args.pages.now in
    let m = length-map pages page_of in
    let w = watched (slots_of c.args.cycle.now) (map page_of pages) c.args.repeat c.args.start in
    record {
      cycle = refl;
      repeat = refl;
      some = c.requires.some;
      at = let e : c.args.start ≡ c.args.start + 0 = omega arith in
          ap (λ l. c.args.start % length l) c.slots.ensures.slots ∙ ap (λ z. z % length (slots_of c.args.cycle.now)) e;
      table = c.in_ok-table.ensures;
      streaks = first_streaks w c.in_ok-table.table.items c.in_ok-cells.cells.items (c.in_ok-cells.ensures.size ∙ (omega arith)) c.in_ok-cells.ensures.zero;
      count = omega arith;
      longest = first_longest w c.in_ok-table.table.items (none w c.in_ok-table.table.items);
      wrong = let z = no_wrong w in omega arith;
      within = ((λ _. first_kept w c.in_ok-table.table.items c.requires.some), (λ _. refl));
    }
