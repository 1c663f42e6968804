use Rattle.std.proofs.Common.{◌≡◌, ◌+◌, ◌++◌, ◌∷◌, [], suc, cond, length, ap, sym, ◌∙◌, subst, arith, append_assoc}
use Rattle.ttx_carousel.specs.Layout.{in_round, stands_at}
use Rattle.std.proofs.lemmas.Option.{slice_get-get_or}
use Rattle.ttx_carousel.proofs.layout.push_round.Goals as goal

pub loop-index-preserved : goal.loop-index-preserved
loop-index-preserved c =
    let i = c.loop-index.index in
    let standings = c.args.standings.now in
    let before = in_round standings c.args.laps c.args.round i in
    let next : i + 1 ≡ suc i = omega arith in
    let sent = c.stands-sent.ensures ∙ ap (λ o. stands_at o c.args.laps c.args.round) (sym (slice_get-get_or standings i _ c.loop-index-test.true)) in
    subst (λ n. c.push_if.new.order.items ≡ c.args.order.now.items ++ in_round standings c.args.laps c.args.round n) (sym next)
    (c.in_ok-push_if.ensures ∙ ap (λ xs. xs ++ cond c.stands-sent.result (i ∷ []) []) c.loop-index.invariant
    ∙ append_assoc c.args.order.now.items before (cond c.stands-sent.result (i ∷ []) [])
    ∙ ap (λ b. c.args.order.now.items ++ (before ++ cond b (i ∷ []) [])) sent)

pub returns : goal.returns
returns c =
    let e : c.loop-index.index ≡ length c.args.standings.now =
    let a = c.loop-index.auto.index-end in let b = c.loop-index-test.false in omega (arith, a, b) in
    c.loop-index.invariant ∙ ap (λ n. c.args.order.now.items ++ in_round c.args.standings.now c.args.laps c.args.round n) e
