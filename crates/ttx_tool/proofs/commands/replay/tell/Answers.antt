use Rattle.std.proofs.Common.{◌≡◌, map, inl, inr, string_bytes, Some, subst, arith}
use Rattle.std.proofs.lemmas.List.{length-map}
use Rattle.std.proofs.lemmas.Option.{slice_get_within}
use Rattle.std.specs.Prelude.{slice_get}
use Rattle.ttx_counter.specs.Counters.{counter_run_of}
use Rattle.ttx_counter.specs.Replaying.{TellsReplayed}
use Rattle.ttx_cycle.specs.Cycles.{slots_of}
use Rattle.ttx_page.specs.Pages as definitions
use Rattle.ttx_page.specs.Views.{page_of, memory_of}
use Rattle.ttx_source.specs.Services.{pages_of}
use Rattle.ttx_tool.specs.Replay.{replay_text, none_text, IsReplay}
use Rattle.ttx_tool.proofs.ReplayInputs.{both_of}
use Rattle.ttx_tool.proofs.commands.replay.tell.Goals as goal

pub tell_shown-requires : goal.tell_shown-requires
tell_shown-requires c =
    let pages = map page_of c.pages-pages.result.now in
    let told = subst (TellsReplayed memory_of (slots_of c.args.cycle.now) pages (counter_run_of c.args.counter.now))
    c.in-Some.is c.in_ok-held.ensures in
    let inside = slice_get_within pages c.args.counter.now.page told.is.page told.is.here in
    let same = length-map c.pages-pages.result.now page_of in
    omega (arith, inside, same)

pub returns-in-Some : goal.returns-in-Some
returns-in-Some c =
    let slots = slots_of c.args.cycle.now in
    let pages = map page_of c.pages-pages.result.now in
    let run = counter_run_of c.args.counter.now in
    let m = memory_of c.in-Some.memory in
    let told = subst (TellsReplayed memory_of slots pages run) c.in-Some.is c.in_ok-held.ensures in
    both_of (λ t. (p : definitions.Page) → slice_get pages run.page ≡ Some p → string_bytes t.line ≡ replay_text p run m) (λ t. t.verdict ≡ 0)
    (λ t. IsReplay slots (pages_of c.args.service.now) run (string_bytes t.line) t.verdict)
    c.tell_shown.result
    (λ t text status. subst (λ q. IsReplay slots q run (string_bytes t.line) t.verdict) c.pages-pages.ensures.value
    (inl (record { memory = m; replayed = told; same = text told.is.page told.is.here }, status)))
    c.tell_shown.ensures.text c.tell_shown.ensures.status

pub returns-in-None : goal.returns-in-None
returns-in-None c =
    let slots = slots_of c.args.cycle.now in
    let pages = map page_of c.pages-pages.result.now in
    let run = counter_run_of c.args.counter.now in
    let none = subst (TellsReplayed memory_of slots pages run) c.in-None.is c.in_ok-held.ensures in
    both_of (λ t. string_bytes t.line ≡ none_text) (λ t. t.verdict ≡ 1)
    (λ t. IsReplay slots (pages_of c.args.service.now) run (string_bytes t.line) t.verdict)
    c.tell_none.result
    (λ t text status. subst (λ q. IsReplay slots q run (string_bytes t.line) t.verdict) c.pages-pages.ensures.value (inr (none, text, status)))
    c.tell_none.ensures.text c.tell_none.ensures.status
