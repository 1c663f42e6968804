use Rattle.std.proofs.Common.{rules, ◌≡◌, ◌+◌, [], ◌∷◌, ◌++◌, length, sym, subst, arith}
use Rattle.std.proofs.lemmas.List.{length-map}
use Rattle.ttx_page.specs.Views.{page_of}
use Rattle.ttx_certify.specs.walks.Passing.{ended_pages, ended_certificate}
use Rattle.ttx_certify.specs.declared.all_reasons.PageReason.{PageReason}
use Rattle.ttx_certify.proofs.ToldPages.{AreToldBelow, one_more_told, all_told}
use Rattle.ttx_certify.proofs.all_reasons.reasons_of.Goals as goal

pub loop-index-preserved : goal.loop-index-preserved
loop-index-preserved c =
    let ended = c.args.ended.now in
    let told = c.loop-index.told.items in
    let index = c.loop-index.index in
    let one : PageReason = record { reason = c.fault_at-reason.result } in
    let pushed : c.push.new.self.items ≡ told ++ one ∷ [] = search rules in (
      (let t = c.loop-index-test.true in omega arith),
      λ y is. subst (AreToldBelow y (ended_pages ended) (ended_certificate ended) (index + 1)) (sym pushed)
          (one_more_told y (ended_pages ended) (ended_certificate ended) index told one (c.loop-index.invariant.1 y is)
          (λ p at. c.fault_at-reason.ensures y p is at)),
    )

pub returns : goal.returns
returns c = λ y is.
    let ended = c.args.ended.now in
    let rules = (c.certificates_keep_their_rules.ensures ended.certificate.now).1 in
    let same = length-map ended.pages.now page_of in
    let end : c.loop-index.index ≡ length (ended_pages ended) =
    let a = c.loop-index.invariant.0 in let b = c.loop-index-test.false in omega arith in
    all_told c.reasons_are_true.ensures y is.cycle.some (ended_pages ended) (ended_certificate ended) rules c.loop-index.index end
    c.loop-index.told.items (c.loop-index.invariant.1 y is)
