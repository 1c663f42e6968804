use Rattle.std.proofs.Common.{◌≡◌, ◌↔◌, [], true, map, is_some, string_bytes, Some, None, subst, arith}
use Rattle.std.proofs.lemmas.List.{length-map}
use Rattle.std.proofs.lemmas.Option.{slice_get_within}
use Rattle.std.specs.Prelude.{slice_get}
use Rattle.ttx_counter.specs.Counters.{counter_run_of}
use Rattle.ttx_counter.specs.Refutations.{TellsCounter, TellsFirst}
use Rattle.ttx_cycle.specs.Cycles.{slots_of}
use Rattle.ttx_page.specs.Pages as definitions
use Rattle.ttx_page.specs.Views.{page_of}
use Rattle.ttx_page.specs.declared.class.Class.TheVariants.{Any}
use Rattle.ttx_tool.specs.Refute.{said_counter, said_none, saved, IsRefutation}
use Rattle.ttx_tool.proofs.ServiceIds.{distinct_ids}
use Rattle.ttx_tool.proofs.ThreeInputs.{all_three, refutation}
use Rattle.ttx_certificate.specs.Certificates.{fields_of, certificate_of}
use Rattle.ttx_witness.specs.search.Finding.{IsSentUnchanged, CanBeAccepted}
use Rattle.ttx_tool.proofs.commands.refute.tell_any.Goals as goal

pub refute-requires-clause-distinct : goal.refute-requires-clause-distinct
refute-requires-clause-distinct c = distinct_ids c.pages-pages.result.now c.args.service.now.pages c.pages-pages.ensures.value
    c.pages-pages.ensures.ranges.distinct

pub tell_counter-requires : goal.tell_counter-requires
tell_counter-requires c =
    let pages = map page_of c.pages-pages.result.now in
    let told = subst (TellsCounter counter_run_of (slots_of c.args.cycle.now) pages (certificate_of c.args.certificate.now))
    c.in-Some.is c.in_ok-counter.ensures.tells in
    let inside = slice_get_within pages c.in-Some.counter.page told.is.page told.is.here in
    let same = length-map c.pages-pages.result.now page_of in
    omega (arith, inside, same)

pub returns-in-Some : goal.returns-in-Some
returns-in-Some c =
    let slots = slots_of c.args.cycle.now in
    let pages = map page_of c.pages-pages.result.now in
    let w = certificate_of c.args.certificate.now in
    let run = counter_run_of c.in-Some.counter in
    let told = subst (TellsCounter counter_run_of slots pages w) c.in-Some.is c.in_ok-counter.ensures.tells in
    let first = subst (TellsFirst counter_run_of slots pages w) c.in-Some.is c.in_ok-counter.ensures.first in
    let exact = subst (λ o. IsSentUnchanged slots pages → (is_some o ≡ true)
    ↔ (CanBeAccepted slots pages Any w.lines w.repeat w.deadline → ⊥)) c.in-Some.is c.in_ok-counter.ensures.exact in
    all_three (λ t. (p : definitions.Page) → slice_get pages run.page ≡ Some p → string_bytes t.line ≡ said_counter c.args.asked.json p.id run)
    (λ t. t.file.items ≡ saved c.args.asked.save run) (λ t. t.verdict ≡ 1)
    (λ t. IsRefutation slots c.args.service.now (fields_of c.args.certificate.now) c.args.asked t.file.items (string_bytes t.line) t.verdict)
    c.tell_counter.result
    (λ t line file status. refutation slots pages c.args.service.now
    (fields_of c.args.certificate.now) c.args.asked c.pages-pages.ensures.value c.requires (Some run) exact
    t.file.items (string_bytes t.line) t.verdict
    (record { is = told; first = first; page = told.is.page; here = told.is.here; same = line told.is.page told.is.here }, file, status))
    c.tell_counter.ensures.line c.tell_counter.ensures.file c.tell_counter.ensures.status

pub returns-in-None : goal.returns-in-None
returns-in-None c =
    let slots = slots_of c.args.cycle.now in
    let pages = map page_of c.pages-pages.result.now in
    let w = certificate_of c.args.certificate.now in
    let told = subst (TellsCounter counter_run_of slots pages w) c.in-None.is c.in_ok-counter.ensures.tells in
    let exact = subst (λ o. IsSentUnchanged slots pages → (is_some o ≡ true)
    ↔ (CanBeAccepted slots pages Any w.lines w.repeat w.deadline → ⊥)) c.in-None.is c.in_ok-counter.ensures.exact in
    all_three (λ t. string_bytes t.line ≡ said_none c.args.asked.json) (λ t. t.file.items ≡ []) (λ t. t.verdict ≡ 0)
    (λ t. IsRefutation slots c.args.service.now (fields_of c.args.certificate.now) c.args.asked t.file.items (string_bytes t.line) t.verdict)
    c.tell_none.result
    (λ t line file status. refutation slots pages c.args.service.now
    (fields_of c.args.certificate.now) c.args.asked c.pages-pages.ensures.value c.requires None exact
    t.file.items (string_bytes t.line) t.verdict (told, file, line, status))
    c.tell_none.ensures.line c.tell_none.ensures.file c.tell_none.ensures.status
