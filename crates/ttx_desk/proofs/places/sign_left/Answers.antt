use Rattle.std.proofs.Common.{◌∙◌, length, sym, arith}
use Rattle.ttx_desk.proofs.SignSteps.{left-found, left-more, left-none}
use Rattle.ttx_desk.proofs.places.sign_left.Goals as goal

pub returns-then-is_sought : goal.returns-then-is_sought
returns-then-is_sought c =
    sym (left-found (length c.args.text.now) c.loop-sign._sign c.args.basic c.loop-sign.feeds c.loop-sign.left c.loop-sign.rest.now
    c.sign_of-sign.result c.loop-sign-test.true c.sign_of-sign.ensures (sym c.is_sought.ensures ∙ c.if-is_sought.true))
    ∙ c.loop-sign.invariant

pub loop-sign-preserved : goal.loop-sign-preserved
loop-sign-preserved c =
    left-more (length c.args.text.now) c.loop-sign._sign c.args.basic c.loop-sign.feeds c.loop-sign.left c.feeds_after-feeds.result c.index_after-left.result
    c.loop-sign.rest.now c.behind-rest.result.now c.sign_of-sign.result c.loop-sign-test.true c.sign_of-sign.ensures
    (sym c.is_sought.ensures ∙ c.if-is_sought.false) c.feeds_after-feeds.ensures c.index_after-left.ensures c.behind-rest.ensures
    ∙ c.loop-sign.invariant

pub returns : goal.returns
returns c =
    sym (left-none (length c.args.text.now) c.loop-sign._sign c.args.basic c.loop-sign.feeds c.loop-sign.left c.loop-sign.rest.now
    (let past = c.loop-sign-test.false in omega arith))
    ∙ c.loop-sign.invariant
