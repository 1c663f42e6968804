use Rattle.std.proofs.Common.{◌∙◌, ◌↔◌, ◌-◌, IsTrue, subst}
use Rattle.ttx_proof.specs.Bridging.{AllFollow, counted}
use Rattle.ttx_proof.specs.NamedStarts.{stands_at_start}
use Rattle.ttx_proof.proofs.WalkDecides.{bridged_is}
use Rattle.ttx_proof.proofs.bridges.is_bridged.Goals as goal

pub returns : goal.returns
returns c = λ s p item is both alike common need given of.
    let sent = c.args.sent.now in let starts = c.args.starts.now in
    let b = bridged_is c.walks_decide.ensures c.joined_are_listed.ensures s p item is both alike common need sent.olds.now
    sent.middle.now sent.news.now given
    starts.olds.now starts.news.now starts.old_period starts.new_period c.args.repeat c.args.limit of c.requires.some in
    let f = subst (λ ts. IsTrue c.follow.result ↔ AllFollow c.args.limit (counted (stands_at_start starts) (c.args.repeat - 1) ts))
    (c.as_slice.ensures.value ∙ c.in_ok-join.ensures) c.follow.ensures in
    ((λ a. b.0 (f.0 a)), (λ d. f.1 (b.1 d)))
