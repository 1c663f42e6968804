use Rattle.std.proofs.Common.{◌≡◌, ◌==◌, ◌-◌, suc, length, false, ◌∙◌, rules, arith}
use Rattle.std.proofs.lemmas.Grind.{common_steps}
use Rattle.toml_parser.specs.Lexical.{skip_blank}
use Rattle.ttx_places.specs.Tables.{tables_of}
use Rattle.ttx_places.proofs.Turns.{lines_end, lines_more}
use Rattle.ttx_places.proofs.documents.lines.Goals as goal

pub returns-then-is_empty : goal.returns-then-is_empty
returns-then-is_empty c =
    let l = c.lines in
    let room = l.invariant.3 in
    let start_is = c.skip_blank-start.ensures.rest in
    let none : length (skip_blank l.rest.now) ≡ 0 = grind (arith, common_steps) in
    l.invariant.4 ∙ lines_end c.args.target.now l.invariant.2 (tables_of l.tables) l.rest.now (omega arith) none

pub returns-in-Some : goal.returns-in-Some
returns-in-Some c =
    let l = c.lines in
    let room = l.invariant.3 in
    let start_is = c.skip_blank-start.ensures.rest in
    let other : (length (skip_blank l.rest.now) == 0) ≡ false = grind (arith, common_steps) in
    l.invariant.4 ∙ lines_more c.args.target.now l.invariant.2 (tables_of l.tables) _ l.rest.now _ _ (omega arith) other (rw start_is at c.in_ok-place.ensures.value)
    ∙ rw c.in-Some.is

pub lines-preserved : goal.lines-preserved
lines-preserved c =
    let l = c.lines in
    let m = l.invariant.2 in
    let room = l.invariant.3 in
    let start_is = c.skip_blank-start.ensures.rest in
    let other : (length (skip_blank l.rest.now) == 0) ≡ false = grind (arith, common_steps) in
    let shorter = c.in_ok-place.ensures.shorter in
    let before = c.skip_blank-start.ensures.within in (
      search rules,
      omega (arith, l.invariant.1),
      m - 1,
      omega arith,
      l.invariant.4 ∙ lines_more c.args.target.now m (tables_of l.tables) _ l.rest.now _ _ (omega arith) other (rw start_is at c.in_ok-place.ensures.value)
          ∙ rw c.in-None.is,
    )
