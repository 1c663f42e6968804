use Rattle.std.proofs.Common.{◌≡◌, ◌∙◌, ◌++◌, ap, refl, rules, string_bytes, subst, sym}
use Rattle.toml.specs.View.{table_view}
use Rattle.ttx_desk.specs.Words.{IsFaultWords}
use Rattle.ttx_author_files.proofs.author_reports.placed_mistake.Goals as goal

pub returns : goal.returns
returns c =
    let author = table_view c.args.author.now in
    let words = c.in_ok-push_fault.ensures.0 in
    let bytes : c.into_bytes.result.items ≡ string_bytes c.push_fault.new.text = search rules in
    let same : c.into_bytes.result.items ≡ words = bytes ∙ c.in_ok-push_fault.ensures.2 ∙ ap (λ m. m ++ words) c.new-words.ensures.bytes in
    record { error = refl; stands = c.in_ok-place.ensures; says = subst (λ w. IsFaultWords author c.args.mistake.now w) (sym same) c.in_ok-push_fault.ensures.1 }
