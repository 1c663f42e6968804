use Rattle.std.proofs.Common.{◌≡◌, ◌*◌, true, length, sym, ap, ◌∙◌, subst, arith}
use Rattle.std.proofs.lemmas.List.{length-map}
use Rattle.ttx_cycle.specs.Cycles.{slots_of-IsCycle}
use Rattle.ttx_page.specs.Views.{page_of}
use Rattle.ttx_certificate.specs.Entries.{are_numbers, certificate_fields_at, certificate_at}
use Rattle.ttx_certificate.specs.EntryViews.{entries_of}
use Rattle.ttx_witness.specs.search.Finding.{AreNamed, IsFoundFor}
use Rattle.ttx_witness.specs.search.Surveys.{survey_slots, survey_pages}
use Rattle.ttx_witness.proofs.lemmas.search.DueItems.{pages_apart}
use Rattle.ttx_witness.proofs.lemmas.search.LeastDeadline.{pages_tested, is_found, named_sorted, numbers_found}
use Rattle.ttx_witness.proofs.search.certificates.find_in.Goals as goal

pub sort_entries-requires : goal.sort_entries-requires
sort_entries-requires c = record { apart = c.in_ok-least.ensures.apart }

pub of-requires-clause-numbers : goal.of-requires-clause-numbers
of-requires-clause-numbers c =
    let s = c.args.survey.now in
    subst (λ d. are_numbers s.lines s.repeat d ≡ true) (sym c.unwrap_or-fields.ensures)
    (numbers_found (survey_slots s) (survey_pages s) s.lines s.repeat c.in_ok-least.least c.deadline_of-deadline.result
    s.some_lines s.few_lines s.some_repeats s.few_repeats
    (c.deadline_of-deadline.ensures (survey_slots s) (survey_pages s) (c.is_sent_unchanged-unchanged.ensures c.requires)))

pub returns : goal.returns
returns c =
    let s = c.args.survey.now in let cycle = survey_slots s in let pages = survey_pages s in
    let es = c.sort_entries.new.entries.items in
    let is = slots_of-IsCycle s.cycle.now in
    let count : 26 * length s.pages.now ≡ 26 * length pages = let l = length-map s.pages.now page_of in omega arith in
    let named = named_sorted cycle pages s.class s.lines s.repeat (26 * length pages) c.name_pages.new.entries.items es c.in_ok-least.least
    c.sort_entries.ensures.same
    (subst (λ m. AreNamed cycle pages s.class s.lines s.repeat m c.name_pages.new.entries.items c.in_ok-least.least) count
    c.in_ok-least.ensures) in
    subst (λ f. IsFoundFor cycle pages s.repeat s.lines s.class (certificate_at f) c.deadline_of-deadline.result)
    (sym (c.of.ensures ∙ ap (λ d. certificate_fields_at s.lines s.repeat d (entries_of es) s.class) c.unwrap_or-fields.ensures))
    (is_found cycle is.some pages (pages_apart s.pages.now s.distinct) s.class s.lines s.repeat s.some_repeats es c.in_ok-least.least named
    (pages_tested c.pages_keep_their_rules.ensures c.pages_have_six_links.ensures c.blank_is_tested.ensures s.pages.now)
    s.few_lines s.some_lines c.deadline_of-deadline.result
    (c.deadline_of-deadline.ensures cycle pages (c.is_sent_unchanged-unchanged.ensures c.requires))
    c.each_slot_turns.ensures c.sure_starts_are_found.ensures c.least_limit_is_found.ensures)
