use Rattle.std.proofs.Common.{length, sym, ap, ◌∙◌}
use Rattle.ttx_cycle.specs.Cycles.{slots_of, slots_of-IsCycle}
use Rattle.ttx_page.specs.Streams.{run_length}
use Rattle.ttx_page.specs.Views.{page_of}
use Rattle.ttx_certificate.specs.Certificates.{certificate_of}
use Rattle.ttx_counter.proofs.StarvedFrom.{some_of, none_of, none_starves, next_within, none_late, one_late}
use Rattle.ttx_counter.proofs.starvation_start.starving_start.Goals as goal

pub returns-then-is_empty : goal.returns-then-is_empty
returns-then-is_empty c =
    none_starves (record {
      judged = c.starts_are_judged.ensures;
      names = c.fullest_names_all.ensures;
      further = c.further_starts_cover.ensures;
      listed = c.transmissions_are_listed.ensures;
    })
    (slots_of c.args.cycle.now) (slots_of-IsCycle c.args.cycle.now) (page_of c.args.page.now) (certificate_of c.args.certificate.now)
    (c.certificates_keep_their_rules.ensures c.args.certificate.now).1
    c.args.sent_item.now.item.now c.args.sent_item.now.starts.now c.requires.rising c.requires.named
    (none_of c.args.sent_item.now.starts.now c.is_empty.result c.is_empty.ensures c.if-is_empty.true)

pub late_at_end-requires : goal.late_at_end-requires
late_at_end-requires c =
    next_within (record {
      judged = c.starts_are_judged.ensures;
      names = c.fullest_names_all.ensures;
      further = c.further_starts_cover.ensures;
      listed = c.transmissions_are_listed.ensures;
    })
    (slots_of c.args.cycle.now) (slots_of-IsCycle c.args.cycle.now) (page_of c.args.page.now) (certificate_of c.args.certificate.now)
    (c.certificates_keep_their_rules.ensures c.args.certificate.now).1
    c.args.sent_item.now.item.now c.args.sent_item.now.starts.now c.requires.rising c.requires.named
    (some_of c.is_empty.result (length c.args.sent_item.now.starts.now) c.is_empty.ensures c.if-is_empty.false)
    c.limit-limit.result (length c.slots.result.now) c.run_length-repeat.result c.args.sent_item.now.sent.now
    c.judge_item-progress.result c.limit-limit.ensures.value (ap length c.slots.ensures.slots)
    (c.run_length-repeat.ensures ∙ ap (λ x. run_length x c.args.sent_item.now.item.now) c.repeat.ensures) c.requires.sent
    c.judge_item-progress.ensures

pub returns-in-Some : goal.returns-in-Some
returns-in-Some c =
    one_late (record {
      judged = c.starts_are_judged.ensures;
      names = c.fullest_names_all.ensures;
      further = c.further_starts_cover.ensures;
      listed = c.transmissions_are_listed.ensures;
    })
    (slots_of c.args.cycle.now) (slots_of-IsCycle c.args.cycle.now) (page_of c.args.page.now) (certificate_of c.args.certificate.now)
    (c.certificates_keep_their_rules.ensures c.args.certificate.now).1
    c.args.sent_item.now.item.now c.args.sent_item.now.starts.now c.requires.rising c.requires.named
    (some_of c.is_empty.result (length c.args.sent_item.now.starts.now) c.is_empty.ensures c.if-is_empty.false)
    c.limit-limit.result (length c.slots.result.now) c.run_length-repeat.result c.args.sent_item.now.sent.now
    c.judge_item-progress.result c.limit-limit.ensures.value (ap length c.slots.ensures.slots)
    (c.run_length-repeat.ensures ∙ ap (λ x. run_length x c.args.sent_item.now.item.now) c.repeat.ensures) c.requires.sent
    c.judge_item-progress.ensures
    c.in-Some.at c.after_owner.result (sym c.late_at_end.ensures ∙ c.in-Some.is) c.after_owner.ensures

pub returns-in-None : goal.returns-in-None
returns-in-None c =
    none_late (record {
      judged = c.starts_are_judged.ensures;
      names = c.fullest_names_all.ensures;
      further = c.further_starts_cover.ensures;
      listed = c.transmissions_are_listed.ensures;
    })
    (slots_of c.args.cycle.now) (slots_of-IsCycle c.args.cycle.now) (page_of c.args.page.now) (certificate_of c.args.certificate.now)
    (c.certificates_keep_their_rules.ensures c.args.certificate.now).1
    c.args.sent_item.now.item.now c.args.sent_item.now.starts.now c.requires.rising c.requires.named
    (some_of c.is_empty.result (length c.args.sent_item.now.starts.now) c.is_empty.ensures c.if-is_empty.false)
    c.limit-limit.result (length c.slots.result.now) c.run_length-repeat.result c.args.sent_item.now.sent.now
    c.judge_item-progress.result c.limit-limit.ensures.value (ap length c.slots.ensures.slots)
    (c.run_length-repeat.ensures ∙ ap (λ x. run_length x c.args.sent_item.now.item.now) c.repeat.ensures) c.requires.sent
    c.judge_item-progress.ensures
    (sym c.late_at_end.ensures ∙ c.in-None.is)
