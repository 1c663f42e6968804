-- What is decomposed and composed again.
use Rattle.std.proofs.Common.{◌≡◌, ◌∙◌, ℕ, Bool, true, false, List, Option, Some, None, Result, Ok, Err, string_bytes, if◌then◌else◌, ap, sym, refl, subst}
use Rattle.std.specs.Str.{is_utf8}
use Rattle.toml.specs.Data.{Members}
use Rattle.toml.specs.Parse.{parse_document}
use Rattle.ttx_source.specs.Services.{ServiceFields, service_of, service_in}
use Rattle.ttx_source.specs.Values.{Fault}
use Rattle.ttx_desk.specs.Again.{ComposedAgainIsTheSame}
use Rattle.ttx_desk.specs.Composing.{author_in, ComposesTable, Composes}
use Rattle.ttx_desk.specs.Services.{service_table}
use Rattle.ttx_desk.specs.declared.composition.Composed.{Composed}

-- a text with a table is composed by that table
by_table : (b : Bool) (p : Option Members) (author : Members) (c : Composed) → p ≡ Some author → Composes (if b then p else None) (Ok c)
    → ComposesTable author (Ok c)
by_table true p author c e h = subst (λ q. Composes q (Ok c)) e h
by_table false p author c e h = absurd h

-- what is read of a text is the service of its table
of_table : (b : Bool) (p : Option Members) (table : Members) (s : ServiceFields) → p ≡ Some table
    → service_in (if b then p else None) ≡ Ok s → service_of table ≡ Ok s
of_table true p table s e h = ap service_in (sym e) ∙ h
of_table false p table s e h = cc

abbrev service_or : ServiceFields → Result ServiceFields (Fault × ℕ) → ServiceFields
service_or other (Ok s) = s
service_or other (Err e) = other

same_service : (r : Result ServiceFields (Fault × ℕ)) (s t : ServiceFields) → r ≡ Ok s → r ≡ Ok t → s ≡ t
same_service r s t one other = ap (service_or s) (sym one ∙ other)

pub composed_again_lem : ComposedAgainIsTheSame
composed_again_lem bytes decomposed composed said again =
    let text = string_bytes decomposed.text in
    let table = said.0.0 in
    let author = said.0.2.author in
    let built : ComposesTable author (Ok composed) = by_table (is_utf8 text) (parse_document text) author composed said.0.2.reads again in
    let there : service_of (service_table author) ≡ Ok composed.service =
    of_table (is_utf8 (string_bytes composed.text)) (parse_document (string_bytes composed.text)) (service_table author) composed.service built.table built.service in
    let here : service_of table ≡ Ok decomposed.service = ap service_in (sym said.0.1) ∙ said.1 in
    same_service (service_of table) composed.service decomposed.service (ap service_of (sym said.0.2.same) ∙ there) here
