use Rattle.std.proofs.Common.{◌≢◌, length, map, sym, ◌∙◌, subst}
use Rattle.std.specs.List.{AllPairs}
use Rattle.std.proofs.lemmas.Simd.{map-map}
use Rattle.ttx_cycle.specs.Cycles.{slots_of}
use Rattle.ttx_page.specs.Views.{page_of, ids_of}
use Rattle.ttx_extract.specs.Drafts.{authored_of}
use Rattle.ttx_extract.proofs.NamedIds.{are_named}
use Rattle.ttx_extract.proofs.SentAgain.{id_in, sent_again}
use Rattle.ttx_extract.proofs.SentDrafts.{is_draft}
use Rattle.ttx_extract.proofs.gathered.gather_pages.Goals as goal

pub collect-requires : goal.collect-requires
collect-requires c =
    let slots = slots_of c.args.cycle.now in
    record { distinct = subst (AllPairs (λ a b. a ≢ b)) (sym c.requires) (are_named slots (length slots)).distinct }

pub returns-in-Ok-clause-draft : goal.returns-in-Ok-clause-draft
returns-in-Ok-clause-draft c = λ info.
    is_draft (slots_of c.args.cycle.now) c.args.lines c.first_serial-serial.result c.args.info (ids_of c.args.named.now)
    (map authored_of c.in-Ok.pages.items) c.first_serial-serial.ensures info c.requires (c.in-Ok.ensures c.args.lines c.in_ok-collected.ensures)

pub returns-in-Ok-clause-sent : goal.returns-in-Ok-clause-sent
returns-in-Ok-clause-sent c = λ pages same.
    let named = c.args.named.now in
    sent_again (slots_of c.args.cycle.now) c.args.lines c.in_ok-collected.collected (map page_of named) pages
    (map-map id_in page_of named ∙ c.requires ∙ sym same) c.in_ok-collected.ensures
