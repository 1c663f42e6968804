use Rattle.std.proofs.Common.{◌∙◌, ◌++◌, ap, string_bytes}
use Rattle.std.specs.Prelude.{codes}
use Rattle.ttx_document.proofs.Joins.{joined, more}
use Rattle.ttx_failure.specs.Unlike.{unlike_text, unlike_numbers, unlike_links, links_words}
use Rattle.ttx_failure.proofs.unlike.push_unlike.Goals as goal

pub returns : goal.returns
unfolding unlike_text
returns c =
    let numbers = unlike_numbers c.args.own.now.cells 0 c.args.shown.now.cells in
    let links = links_words (unlike_links c.args.shown.now.links c.args.own.now.links) in
    let head = codes "It shows otherwise:" in
    joined c.push_words-2.result _ _ _ (head ++ numbers ++ links) (codes " as marked below.")
    (more _ _ _ (head ++ numbers) links (more _ _ _ head numbers c.in_ok-push_words.ensures c.in_ok-push_numbers.ensures)
    (c.in_ok-push_links_words.ensures ∙ ap (λ b. string_bytes c.push_numbers.new.text ++ links_words b) c.unlike_links.ensures))
    c.push_words-2.ensures
