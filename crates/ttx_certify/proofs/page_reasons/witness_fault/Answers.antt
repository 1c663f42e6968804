use Rattle.std.proofs.Common.{◌≡◌, ◌≤◌, length, get_or, slice_get, Some, refl, sym, ap, ◌∙◌, subst, arith}
use Rattle.ttx_page.specs.Steady.{HasHeader}
use Rattle.ttx_page.specs.Streams.{repeated}
use Rattle.ttx_page.specs.Views.{page_of}
use Rattle.ttx_witness.specs.faults.Faults.{IsWitnessFault}
use Rattle.ttx_certify.specs.walks.Passing.{ended_pages, ended_certificate}
use Rattle.ttx_certify.proofs.ItemByItem as items
use Rattle.ttx_certify.proofs.PageByPage.{page_at, same_page}
use Rattle.ttx_certify.proofs.page_reasons.witness_fault.Goals as goal

pub returns : goal.returns
returns c = λ y p is at header.
    let ended = c.args.ended.now in let w = ended_certificate ended in
    let r = c.index-ended-index.result in
    let q = page_of (get_or ended.pages.now c.args.index r) in
    let here : slice_get (ended_pages ended) c.args.index ≡ Some q =
    page_at ended.pages.now c.args.index r c.requires c.index-ended-index.is
    ∙ ap (λ z. Some (page_of z)) c.index-ended-index.is in
    let same : q ≡ p = same_page q p here at in
    let some : 1 ≤ length y = let s = is.cycle.some in omega arith in
    subst (λ x. IsWitnessFault y x w c.first_reason.result) same
    (items.witness_fault y q w c.first_reason.result (c.first_reason.ensures y (record {
      ended_is = is;
      page = here;
      certificate = refl;
      ready = record {
        some = some;
        period = is.period;
        late_header = c.late_header.ensures y q is here (subst (λ x. HasHeader (repeated y) x.id) (sym same) header);
      };
    })))
