use Rattle.std.proofs.Common.{◌≡◌, ◌+◌, ◌<◌, ◌≤◌, ℕ, length, map, subst, sym, arith, Some, ◌∙◌}
use Rattle.std.proofs.lemmas.List.{length-map}
use Rattle.ttx_source.specs.PromiseViews.{promise_view}
use Rattle.ttx_promise.specs.Lateness.{weight_at}
use Rattle.ttx_promise.proofs.LatestPromise.{IsSoFar, not_more, one_more, all_so_far}
use Rattle.ttx_promise.proofs.lateness.latest.Goals.{then-weight-most, else-weight-most}
use Rattle.ttx_promise.proofs.lateness.latest.Goals as goal

pub loop-number-preserved : goal.loop-number-preserved
loop-number-preserved c =
    let f : ℕ → ℕ = weight_at c.args.service.now.pages c.args.deadlines.now (map promise_view c.args.promises.now) in
    let k : ℕ = c.loop-number.number in
    elim c.if-weight-most.branch [
      | then-weight-most w ↦
          let more : c.loop-number.most < f k = subst (λ n. c.loop-number.most < n) c.weight_at-weight.ensures w.if-weight-most.true in
          subst (λ o. IsSoFar f (k + 1) o c.if-weight-most.most) (sym w.latest-is)
          (subst (λ m. IsSoFar f (k + 1) (Some k) m) (sym (w.most-is ∙ c.weight_at-weight.ensures))
          (one_more f k c.loop-number.latest c.loop-number.most more c.loop-number.invariant))
      | else-weight-most w ↦
          let value : c.weight_at-weight.result ≡ f k = c.weight_at-weight.ensures in
          let test = w.if-weight-most.false in
          let le : f k ≤ c.loop-number.most = omega (arith, value, test) in
          subst (λ o. IsSoFar f (k + 1) o c.if-weight-most.most) (sym w.latest-is)
          (subst (λ m. IsSoFar f (k + 1) c.loop-number.latest m) (sym w.most-is)
          (not_more f k c.loop-number.latest c.loop-number.most le c.loop-number.invariant))
    ]

pub returns : goal.returns
returns c =
    let size : length (map promise_view c.args.promises.now) ≡ length c.args.promises.now = length-map c.args.promises.now promise_view in
    let end = c.loop-number-test.false in
    all_so_far c.args.service.now.pages c.args.deadlines.now (map promise_view c.args.promises.now) c.loop-number.number
    c.loop-number.latest c.loop-number.most (omega (arith, size, end)) c.loop-number.invariant
