use Rattle.std.proofs.Common.{◌≡◌, ◌∙◌, sym, ap, eqb, get_or}
use Rattle.std.specs.List.{count_by}
use Rattle.ttx_plan.specs.Spreading.{number_of}
use Rattle.ttx_plan.proofs.LonePages.{IsAlone, lone_burden}
use Rattle.ttx_plan.proofs.subpage_turns.burdens.Goals as goal

pub returns-then-numbers-number_of-eq1-clause-value : goal.returns-then-numbers-number_of-eq1-clause-value
returns-then-numbers-number_of-eq1-clause-value c = λ p e round lt.
    let one : count_by (λ q. eqb (number_of q) c.number_of.result) c.args.service.now.pages ≡ 1 =
    sym (c.requires.numbers.1 c.number_of.result c.number_of.ensures.few) ∙ c.if-numbers-number_of-eq1.true in
    let alone : IsAlone c.args.service.now.pages p =
    ap (λ n. count_by (λ q. eqb (number_of q) n) c.args.service.now.pages) (sym (c.number_of.ensures.value p e)) ∙ one in
    c.burdens_alone.ensures.value round lt
    ∙ lone_burden c.args.service.now.pages c.args.places.now c.args.index p (get_or c.args.packets.now round 0) round alone e
