use Rattle.std.proofs.Common.{◌≡◌, [], ◌∷◌, ◌++◌, replicate, ap, length, get_or, sym, subst, arith, ◌∙◌}
use Rattle.ttx_header.specs.Control.{IsControl}
use Rattle.ttx_page.specs.Pages.{IsRow}
use Rattle.ttx_page.specs.Memories.{memory_of_page}
use Rattle.ttx_page.specs.Views.{page_of}
use Rattle.ttx_page.proofs.KeptRanges.{IsMemory-memory_of_page}
use Rattle.ttx_page.proofs.memory.PageMemory.of.Goals as goal

pub invariant_of-result : goal.invariant_of-result
invariant_of-result c =
    let p = page_of c.args.page.now in
    let is = IsMemory-memory_of_page p c.args.page.now.kept in
    let rows : c.below_top.result ≡ (memory_of_page p).rows =
    c.below_top.ensures
    ∙ ap (λ lower. c.top_row-top.result ∷ lower) c.rows.ensures
    ∙ ap (λ top. top ∷ p.rows) (c.top_row-top.ensures ∙ ap (λ head. replicate 8 32 ++ head ++ replicate 8 32) c.head.ensures)
    in
    record {
      kept = record {
        row_count = ap length rows ∙ is.row_count;
        rows = λ r lt. subst (λ x. IsRow (get_or x r [])) (sym rows) (is.rows r lt);
        control = subst IsControl (sym c.control.ensures) is.control;
        at_most = omega arith;
      };
    }
