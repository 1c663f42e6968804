use Rattle.std.proofs.Common.{◌≡◌, ◌∙◌, [], Some, string_bytes, sym, subst, rules, arith}
use Rattle.std.proofs.lemmas.Grind.{common_steps}
use Rattle.toml.specs.Data.{Members}
use Rattle.toml.specs.Parse.{parse_document}
use Rattle.toml.specs.View.{table_view}
use Rattle.ttx_desk.specs.Services.{service_table, mistakes}
use Rattle.ttx_desk.proofs.decomposition.means.Goals as goal

pub returns-in-Some : goal.returns-in-Some
returns-in-Some c = λ equal.
    let table : Members = table_view c.in-Ok-service_of.translated.table in
    let author : Members = table_view c.in-Ok.table in
    let reads : parse_document c.args.author.now ≡ Some author = search rules in
    let written : parse_document (string_bytes c.in-Some.text) ≡ Some table = search rules in
    let same : string_bytes c.in-Some.text ≡ c.args.plain.now = search rules in
    let none : c.in-Ok-service_of.translated.mistakes.items ≡ [] = grind (arith, common_steps) in
    let clean : mistakes author ≡ [] = sym c.in-Ok-service_of.ensures.mistakes ∙ none in
    let means : service_table author ≡ table = sym c.in-Ok-service_of.ensures.table in
    (table, subst (λ bytes. parse_document bytes ≡ Some table) same written, record { author = author; reads = reads; clean = clean; same = means })
