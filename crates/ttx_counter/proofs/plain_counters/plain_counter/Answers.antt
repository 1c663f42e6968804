use Rattle.std.proofs.Common.{◌∙◌, ℕ, List, [], Bool, ap}
use Rattle.ttx_page.specs.Views.{memory_of}
use Rattle.ttx_certificate.specs.Certificates.{certificate_of}
use Rattle.ttx_counter.specs.Counters.{CounterRun, Hit}
use Rattle.ttx_counter.specs.Sources.{plain_counter}
use Rattle.ttx_counter.proofs.plain_counters.plain_counter.Goals as goal

pub returns : goal.returns
returns c =
    let r = c.args.run in
    let w = certificate_of c.args.certificate.now in
    let run : List Bool → List Hit → ℕ → ℕ → ℕ → CounterRun = λ choices hits lines repeat deadline.
    record (plain_counter r.page r.any_sub (memory_of r.former) lines repeat deadline r.slots) { choices = choices; hits = hits } in
    ap (λ x. run x c.new-2.result.items c.lines.result c.repeat.result c.deadline.result) c.new.ensures.items
    ∙ ap (λ x. run [] x c.lines.result c.repeat.result c.deadline.result) c.new-2.ensures.items
    ∙ ap (λ x. run [] [] x c.repeat.result c.deadline.result) c.lines.ensures
    ∙ ap (λ x. run [] [] w.lines x c.deadline.result) c.repeat.ensures
    ∙ ap (λ x. run [] [] w.lines w.repeat x) c.deadline.ensures
