use Rattle.std.proofs.Common.{◌≡◌, map, inl, inr, string_bytes, subst, refl}
use Rattle.ttx_counter.specs.Counters.{counter_run_of}
use Rattle.ttx_cycle.specs.Cycles.{slots_of}
use Rattle.ttx_failure.specs.Tellings.{TellsFailure}
use Rattle.ttx_page.specs.Views.{page_of}
use Rattle.ttx_source.specs.Services.{pages_of}
use Rattle.ttx_tool.specs.Replay.{none_text}
use Rattle.ttx_tool.specs.ReplayPage.{IsShown}
use Rattle.ttx_tool.proofs.ReplayInputs.{both_of}
use Rattle.ttx_tool.proofs.commands.replay_page.tell.Goals as goal

pub returns-in-Some : goal.returns-in-Some
returns-in-Some c =
    let slots = slots_of c.args.cycle.now in
    let run = counter_run_of c.args.counter.now in
    let told = subst (TellsFailure string_bytes c.args.form slots (map page_of c.pages-pages.result.now) run) c.in-Some.is c.in_ok-answer.ensures in
    subst (λ q. IsShown c.args.form slots q run (string_bytes c.in-Some.line) 0) c.pages-pages.ensures.value (inl (told, refl))

pub returns-in-None : goal.returns-in-None
returns-in-None c =
    let slots = slots_of c.args.cycle.now in
    let run = counter_run_of c.args.counter.now in
    let none = subst (TellsFailure string_bytes c.args.form slots (map page_of c.pages-pages.result.now) run) c.in-None.is c.in_ok-answer.ensures in
    both_of (λ t. string_bytes t.line ≡ none_text) (λ t. t.verdict ≡ 1)
    (λ t. IsShown c.args.form slots (pages_of c.args.service.now) run (string_bytes t.line) t.verdict)
    c.tell_none.result
    (λ t text status. subst (λ q. IsShown c.args.form slots q run (string_bytes t.line) t.verdict) c.pages-pages.ensures.value (inr (none, text, status)))
    c.tell_none.ensures.text c.tell_none.ensures.status
