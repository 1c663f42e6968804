use Rattle.std.proofs.Common.{[], ap, length, length-set, get_or, set, sym, subst, ◌∙◌}
use Rattle.ttx_page.specs.Pages.{IsRow}
use Rattle.ttx_page.proofs.KeptRanges.{IsRow-erased}
use Rattle.ttx_page.proofs.memory.PageMemory.erase.Goals as goal

pub invariant_of-self : goal.invariant_of-self
invariant_of-self c =
    let old = c.args.self.now.kept in
    record {
      kept = record {
        row_count = length-set c.blank_rows-rows.result 0 (get_or c.args.self.now.rows 0 []) ∙ ap length c.blank_rows-rows.ensures;
        rows = λ r lt. subst (λ x. IsRow (get_or (set x 0 (get_or c.args.self.now.rows 0 [])) r [])) (sym c.blank_rows-rows.ensures)
            (IsRow-erased c.args.self.now.rows old.rows r lt);
        control = old.control;
        at_most = old.at_most;
      };
    }
