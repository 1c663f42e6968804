use Rattle.std.proofs.Common.{◌≡◌, sym, subst}
use Rattle.ttx_certify.specs.walks.ItemProgress.{IsProgress}
use Rattle.ttx_certify.specs.ItemReasons.{judged_page}
use Rattle.ttx_certify.proofs.page_reasons.reason_at.Goals as goal

pub returns : goal.returns
returns c = λ y at.
    let item = c.item_of-item.result in
    let p = judged_page c.args.judged.now in
    let is = c.item_of-item.ensures in
    let named = c.in-Some.ensures.1 in
    record {
      item = item;
      is = is.item;
      place = is.number;
      first = c.item_reason.ensures y at.ready
          (subst (λ w. IsProgress y p w item c.progress-progress.result) (sym at.certificate)
          (c.progress-progress.ensures y p item at.ended_is at.page is.item is.number
          (subst (λ w. c.in-Some.starts.now ≡ w.starts p.id item) at.certificate named)));
    }
