use Rattle.std.proofs.Common.{◌≡◌, ◌∙◌, ℕ, suc, ◌+◌, ◌-◌, List, arith, ap, sym}
use Rattle.ttx_desk.specs.Lines.{after_feed, rest_after}
use Rattle.ttx_desk.proofs.lines.rest_after.Goals as goal

one-less : (left next : ℕ) (text : List ℕ) → left ≡ suc next → rest_after left text ≡ rest_after next (after_feed text)
unfolding rest_after
one-less left next text e = ap (λ n. rest_after n text) e

none-left : (left : ℕ) (text : List ℕ) → left ≡ 0 → text ≡ rest_after left text
unfolding rest_after
none-left left text e = sym (ap (λ n. rest_after n text) e)

pub loop-feed-preserved : goal.loop-feed-preserved
loop-feed-preserved c =
    let left : ℕ = c.args.feeds - c.loop-feed._feed in
    let next : ℕ = c.args.feeds - (c.loop-feed._feed + 1) in
    ap (rest_after next) c.after_feed-rest.ensures
    ∙ sym (one-less left next c.loop-feed.rest.now (omega arith)) ∙ c.loop-feed.invariant

pub returns : goal.returns
returns c = none-left (c.args.feeds - c.loop-feed._feed) c.loop-feed.rest.now (omega arith) ∙ c.loop-feed.invariant
