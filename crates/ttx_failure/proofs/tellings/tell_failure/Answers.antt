use Rattle.std.proofs.Common.{◌≡◌, ◌∙◌, ap, map, string_bytes, Some, subst, sym, arith}
use Rattle.std.proofs.lemmas.List.{length-map}
use Rattle.std.proofs.lemmas.Option.{slice_get_within, same_Some}
use Rattle.ttx_counter.specs.Counters.{counter_run_of}
use Rattle.ttx_counter.specs.Following.{TellsFollowed}
use Rattle.ttx_cycle.specs.Cycles.{slots_of}
use Rattle.ttx_failure.specs.Failures.{failure_text}
use Rattle.ttx_page.specs.Views.{page_of, memory_of}
use Rattle.ttx_failure.proofs.Tellable.{counter_is_tellable}
use Rattle.ttx_failure.proofs.tellings.tell_failure.Goals as goal

pub page_at-requires : goal.page_at-requires
page_at-requires c =
    let pages = map page_of c.args.pages.now in
    let told = subst (TellsFollowed (λ f. memory_of f.memory) (λ f. f.taken.items) (slots_of c.args.cycle.now) pages
    (counter_run_of c.args.counter.now)) c.in-Some.is c.in_ok-answer.ensures in
    let inside = slice_get_within pages c.args.counter.now.page told.replayed.is.page told.replayed.is.here in
    let same = length-map c.args.pages.now page_of in
    omega (arith, inside, same)

pub text_of-requires : goal.text_of-requires
text_of-requires c =
    let pages = map page_of c.args.pages.now in
    let told = subst (TellsFollowed (λ f. memory_of f.memory) (λ f. f.taken.items) (slots_of c.args.cycle.now) pages
    (counter_run_of c.args.counter.now)) c.in-Some.is c.in_ok-answer.ensures in
    counter_is_tellable (slots_of c.args.cycle.now) pages (counter_run_of c.args.counter.now) told.replayed.is

pub returns-in_ok-text-in-Some : goal.returns-in_ok-text-in-Some
returns-in_ok-text-in-Some c =
    let slots = slots_of c.args.cycle.now in
    let pages = map page_of c.args.pages.now in
    let run = counter_run_of c.args.counter.now in
    let m = memory_of c.in-Some.followed.memory in
    let taken = c.in-Some.followed.taken.items in
    let told = subst (TellsFollowed (λ f. memory_of f.memory) (λ f. f.taken.items) slots pages run) c.in-Some.is c.in_ok-answer.ensures in
    let here : page_of c.page_at.result.now ≡ told.replayed.is.page = same_Some _ _ (sym c.page_at.ensures ∙ told.replayed.is.here) in
    record {
      memory = m;
      taken = taken;
      followed = told;
      same = c.in_ok-text-in-Some.ensures ∙ ap (λ p. failure_text c.args.form slots p run taken m) here;
    }
