use Rattle.std.proofs.Common.{◌<◌, ◌≤◌, length, arith}
use Rattle.std.proofs.lemmas.List.{length-map}
use Rattle.ttx_page.specs.Views.{page_of}
use Rattle.ttx_certify.specs.walks.Passing.{ended_pages, ended_certificate}
use Rattle.ttx_certify.proofs.PageByPage.{first_here, one_more, none_at_all}
use Rattle.ttx_certify.proofs.verdicts.first_fault.Goals as goal

pub returns-in-Some : goal.returns-in-Some
returns-in-Some c = λ y is.
    let ended = c.args.ended.now in
    let inside : c.loop-index.index < length (ended_pages ended) = let l = length-map ended.pages.now page_of in let t =
    c.loop-index-test.true in omega arith in
    first_here y (ended_pages ended) (ended_certificate ended) c.loop-index.index inside
    (c.loop-index.invariant y is) c.fault_at.result c.in-Some.reason c.in-Some.is (λ p at. c.fault_at.ensures y p is at)

pub loop-index-preserved : goal.loop-index-preserved
loop-index-preserved c = λ y is.
    let ended = c.args.ended.now in
    one_more y (ended_pages ended) (ended_certificate ended) c.loop-index.index
    (c.loop-index.invariant y is) c.fault_at.result c.in_default.is (λ p at. c.fault_at.ensures y p is at)

pub returns : goal.returns
returns c = λ y is.
    let ended = c.args.ended.now in
    let past : length (ended_pages ended) ≤ c.loop-index.index = let l = length-map ended.pages.now page_of in let t =
    c.loop-index-test.false in omega arith in
    none_at_all y (ended_pages ended) (ended_certificate ended) c.loop-index.index past (c.loop-index.invariant y is)
