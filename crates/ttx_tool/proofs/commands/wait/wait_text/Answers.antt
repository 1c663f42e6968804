use Rattle.std.proofs.Common.{[], ◌∷◌, length, map, sym, subst, string_bytes}
use Rattle.std.proofs.lemmas.List.{length-map}
use Rattle.ttx_cycle.specs.Counters.{inner_of}
use Rattle.ttx_cycle.specs.Cycles.{slots_of}
use Rattle.ttx_cycle.specs.Files.{IsPacketFile}
use Rattle.ttx_files.proofs.KnownFiles.{known}
use Rattle.ttx_files.specs.Known.{first, second}
use Rattle.ttx_source.specs.PromiseViews.{promise_view}
use Rattle.ttx_tool.specs.Promised.{IsPromisedText}
use Rattle.ttx_tool.specs.Wait.{shows_promises, IsWaitAsked, IsWaiting}
use Rattle.ttx_tool.proofs.commands.wait.wait_text.Goals as goal

pub returns-in-Ok-tell_asked-clause-bytes : goal.returns-in-Ok-tell_asked-clause-bytes
returns-in-Ok-tell_asked-clause-bytes g c =
    let told = c.in-Ok-tell_asked.told in
    let slots = slots_of c.in-Ok.inputs.cycle in
    let service = c.in-Ok.inputs.promised.service in
    let items = c.in-Ok.inputs.promised.promises.items in
    let asked = c.args.question in
    known (g.A.Read.remaining (inner_of c.args.cycle.now) ∷ g.B.Read.remaining (inner_of c.args.service.now) ∷ [])
    (λ xs. IsPacketFile (first xs) slots × IsPromisedText (second xs) service (map promise_view items))
    (λ xs. IsWaiting (first xs) (second xs) asked (string_bytes told.line) told.verdict)
    (λ xs is. record {
      slots = slots;
      service = service;
      cycle_is = is.0;
      promises = map promise_view items;
      service_is = is.1;
      told = subst (λ n. IsWaitAsked asked (shows_promises n asked.detail) slots service (map promise_view items) (string_bytes told.line)
          told.verdict) (sym (length-map items promise_view)) c.in-Ok-tell_asked.ensures;
    }) c.in-Ok.ensures.bytes
