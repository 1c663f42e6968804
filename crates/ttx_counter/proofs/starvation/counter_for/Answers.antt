use Rattle.std.proofs.Common.{◌∙◌, ℕ, List, Bool, false, map, pos, ap}
use Rattle.ttx_page.specs.Memories.{Memory}
use Rattle.ttx_page.specs.Streams.{repeated}
use Rattle.ttx_page.specs.Views.{page_of, memory_of}
use Rattle.ttx_page.specs.declared.selection.Selection.{Selection}
use Rattle.ttx_page.specs.declared.selection.Selection.TheVariants.{Exact}
use Rattle.ttx_receiver.specs.Starving.{wrong_memory, starved_hits, starved_choices}
use Rattle.ttx_cycle.specs.Cycles.{slots_of}
use Rattle.ttx_certificate.specs.Certificates.{certificate_of}
use Rattle.ttx_counter.specs.Counters.{CounterRun, Hit}
use Rattle.ttx_counter.specs.StarvingRuns.{hit_at}
use Rattle.ttx_counter.proofs.starvation.counter_for.Goals as goal

pub returns : goal.returns
returns c =
    let starved = c.args.starved.now in
    let item = starved.item.now in
    let w = certificate_of c.args.certificate.now in
    let s = repeated (slots_of c.args.cycle.now) in
    let p = page_of starved.page.now in
    let wrong = wrong_memory p item in
    let run : ℕ → Memory → List Bool → List Hit → ℕ → ℕ → ℕ → CounterRun = λ slots former choices hits lines repeat deadline. record {
      page = starved.index;
      any_sub = false;
      start = starved.start;
      slots = slots;
      former = former;
      choices = choices;
      hits = hits;
      lines = lines;
      repeat = repeat;
      deadline = deadline;
    } in
    let choices : ℕ → Selection → Memory → ℕ → List Bool = λ lines selection former slots.
    starved_choices lines selection item s (pos starved.start) former slots in
    let hits : ℕ → Selection → Memory → ℕ → List Hit = λ lines selection former slots.
    map (hit_at item) (starved_hits lines selection item s (pos starved.start) former slots) in
    let told : ℕ → Selection → Memory → ℕ → CounterRun = λ lines selection former slots.
    run slots wrong (choices lines selection former slots) (hits lines selection former slots) w.lines w.repeat w.deadline in
    let slots = c.limit-slots.result in
    let former = memory_of c.wrong_memory_of.result in
    let got = c.in_ok-run.run' in
    let kept = choices c.lines.result (Exact c.id.result) former slots in
    let hit = hits c.lines.result (Exact c.id.result) former slots in
    ap (λ x. run slots x got.choices.items got.hits.items c.lines-2.result c.repeat.result c.deadline.result) c.wrong_memory_of-2.ensures
    ∙ ap (λ x. run slots wrong x got.hits.items c.lines-2.result c.repeat.result c.deadline.result) c.in_ok-run.ensures.choices
    ∙ ap (λ x. run slots wrong kept x c.lines-2.result c.repeat.result c.deadline.result) c.in_ok-run.ensures.hits
    ∙ ap (λ x. run slots wrong kept hit x c.repeat.result c.deadline.result) c.lines-2.ensures
    ∙ ap (λ x. run slots wrong kept hit w.lines x c.deadline.result) c.repeat.ensures
    ∙ ap (λ x. run slots wrong kept hit w.lines w.repeat x) c.deadline.ensures
    ∙ ap (λ x. told x (Exact c.id.result) former slots) c.lines.ensures
    ∙ ap (λ x. told w.lines (Exact x) former slots) c.id.ensures
    ∙ ap (λ x. told w.lines (Exact p.id) x slots) c.wrong_memory_of.ensures
    ∙ ap (λ x. told w.lines (Exact p.id) wrong x) c.limit-slots.ensures.value
