use Rattle.std.proofs.Common.{◌≡◌, Some, None, sym, take, arith, rules}
use Rattle.std.proofs.lemmas.Bool.Decides.{nat_tests}
use Rattle.ttx_header.specs.Ids.{id_at}
use Rattle.ttx_digits.specs.PageIds.{id_in_word}
use Rattle.ttx_certificate.proofs.PageWords.{page_word, no_page}
use Rattle.ttx_certificate.proofs.entry_lines.page.Goals as goal
use Rattle.ttx_certificate.proofs.entry_lines.page.Goals.{then-line-lt9-via-then-line-lt9, then-line-lt9-via-else-line-lt9+then-line-ne32}

pub returns-then-line-lt9 : goal.returns-then-line-lt9
returns-then-line-lt9 c = no_page c.args.line.now (λ long space. absurd (elim c.then-line-lt9.branch [
  | then-line-lt9-via-then-line-lt9 w ↦ grind (arith, nat_tests)
  | then-line-lt9-via-else-line-lt9+then-line-ne32 w ↦ grind (arith, nat_tests)
]))

pub returns-in-None : goal.returns-in-None
returns-in-None c =
    let none : None ≡ id_in_word (take 8 c.args.line.now) = search rules in
    no_page c.args.line.now (λ long space. sym none)

pub returns-in-Some : goal.returns-in-Some
returns-in-Some c =
    let id = c.in-Some.id in
    let is : Some (id_at id.0 id.1 id.2) ≡ id_in_word (take 8 c.args.line.now) = search rules in
    page_word c.args.line.now (id_at id.0 id.1 id.2) (grind (arith, nat_tests)) (grind (arith, nat_tests)) is
