use Rattle.std.proofs.Common.{◌≡◌, ◌∙◌, ◌+◌, ◌==◌, ◌&&◌, if◌then◌else◌, map, length, get_or, sym, ap, subst, arith}
use Rattle.std.proofs.lemmas.List.{length-replicate}
use Rattle.ttx_header.specs.Ids.{Id}
use Rattle.ttx_page.specs.Views.{page_of}
use Rattle.ttx_witness.specs.faults.OtherSubpages.{place, with_subcode, AreSubcodes, AreAllSubcodes}
use Rattle.ttx_witness.specs.declared.faults.subcodes.Subcodes.TheVariants.{Unlisted}
use Rattle.ttx_witness.proofs.lemmas.faults.FirstSlots.{page_here}
use Rattle.ttx_witness.proofs.lemmas.faults.PageSubcodes.{one_page, none_listed}
use Rattle.ttx_witness.proofs.faults.subcodes.subcodes_of.Goals as goal

pub loop-i-init : goal.loop-i-init
loop-i-init c = record {
  size = ap length c.in_ok-table.ensures ∙ length-replicate 2048 Unlisted;
  subcodes = none_listed (map page_of c.args.pages.now) c.in_ok-table.table.items c.in_ok-table.ensures;
}

pub loop-i-preserved : goal.loop-i-preserved
loop-i-preserved c =
    let pages = map page_of c.args.pages.now in let i = c.loop-i.i in let p = page_of c.index-pages-i.result in let old = c.loop-i.table.items in
    record {
      size = c.note_page.ensures.size;
      subcodes = λ mag number low high small. subst (AreSubcodes pages (i + 1) mag number)
          (sym (c.note_page.ensures.noted mag number low high small
          ∙ ap (λ (id : Id). if (mag == id.mag) && (number == id.page) then with_subcode (get_or old (place mag number) Unlisted) id.sub
          else get_or old (place mag number) Unlisted) c.id.ensures))
          (one_page pages i mag number p (page_here c.args.pages.now i c.index-pages-i.result c.loop-i-test.true c.index-pages-i.is)
          (get_or old (place mag number) Unlisted) (c.loop-i.invariant.subcodes mag number low high small));
    }

pub returns-clause-subcodes : goal.returns-clause-subcodes
returns-clause-subcodes c =
    let e : c.loop-i.i ≡ length c.args.pages.now = omega (arith, c.loop-i-test.false, c.loop-i.auto.i-end) in
    subst (λ n. AreAllSubcodes (map page_of c.args.pages.now) n c.loop-i.table.items) e c.loop-i.invariant.subcodes
