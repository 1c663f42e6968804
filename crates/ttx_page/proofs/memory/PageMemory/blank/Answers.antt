use Rattle.std.proofs.Common.{[], true, false, ap, length, get_or, sym, subst, arith}
use Rattle.ttx_links.specs.Sets.{no_links}
use Rattle.ttx_page.specs.Memories.{memory_at}
use Rattle.ttx_page.specs.Pages.{IsRow}
use Rattle.ttx_page.proofs.KeptRanges.{rows-blank}
use Rattle.ttx_page.proofs.memory.PageMemory.blank.Goals as goal

pub invariant_of-result : goal.invariant_of-result
invariant_of-result c = record {
  kept = record {
    row_count = ap length c.blank_rows.ensures;
    rows = λ r lt. subst (λ rows. IsRow (get_or rows r [])) (sym c.blank_rows.ensures) (rows-blank 25 r lt);
    control = omega arith;
    at_most = omega arith;
  };
}

pub returns : goal.returns
returns c = ap (λ rows. memory_at rows 0 no_links false 64 true) c.blank_rows.ensures
