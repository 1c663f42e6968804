use Rattle.std.proofs.Common.{◌≡◌, ◌+◌, ◌-◌, ◌<◌, ◌==◌, true, false, length, ◌∙◌, rules, arith}
use Rattle.std.proofs.lemmas.Grind.{common_steps}
use Rattle.std.specs.Fmt.{decimal}
use Rattle.toml_parser.specs.Lexical.{first, skip_blank}
use Rattle.ttx_places.specs.Paths.{below}
use Rattle.ttx_places.specs.Places.{value, pair}
use Rattle.ttx_places.proofs.Turns.{elements_end, elements_more, members_end, members_more, value_plain, value_array, value_table}
use Rattle.ttx_places.proofs.values.+value.Goals as goal

pub elements-returns-then-first-eq93-clause-value : goal.elements-returns-then-first-eq93-clause-value
elements-returns-then-first-eq93-clause-value c c' n h =
    let l = c'.elements in
    let (m, room, loop) = l.invariant.2 n h in
    let closing : (first (skip_blank l.rest.now) == 93) ≡ true = grind (arith, common_steps) in
    loop ∙ elements_end (value c'.args.target.now c'.args.depth) m l.number c'.args.path.now l.found l.rest.now (omega arith) closing
    ∙ rw (c'.skip.ensures.rest, c'.skip_blank-start.ensures.rest)

pub elements-elements-preserved : goal.elements-elements-preserved
elements-elements-preserved c c' =
    let l = c'.elements in
    let start_is = c'.skip_blank-start.ensures.rest in
    let other : (first (skip_blank l.rest.now) == 93) ≡ false = grind (arith, common_steps) in
    let path_is : c'.as_str.result.now ≡ below c'.args.path.now (decimal l.number) = c'.as_str.ensures.value ∙ c'.in_ok-at.ensures in
    let next_is : c'.in-Some.next ≡ l.number + 1 = grind (arith, common_steps) in
    let shorter = c'.in_ok-place.ensures.shorter in
    let within = c'.in_ok-rest.ensures.within in
    let before = c'.skip_blank-start.ensures.within in (
      search rules,
      omega (arith, l.invariant.1),
      λ n h.
          let (m, room, loop) = l.invariant.2 n h in (
            m - 1,
            omega arith,
            loop ∙ elements_more (value c'.args.target.now c'.args.depth) m l.number c'.args.path.now l.found l.rest.now _ _ _
                (omega arith) other (rw (start_is, path_is) at c'.in_ok-place.ensures.value) c'.in_ok-rest.ensures.value ∙ rw (next_is, c'.or-found.ensures),
          ),
    )

pub members-returns-then-first-eq125-clause-value : goal.members-returns-then-first-eq125-clause-value
members-returns-then-first-eq125-clause-value c c' n h =
    let l = c'.members in
    let (m, room, loop) = l.invariant.2 n h in
    let closing : (first (skip_blank l.rest.now) == 125) ≡ true = grind (arith, common_steps) in
    loop ∙ members_end (value c'.args.target.now c'.args.depth) m c'.args.path.now l.found l.rest.now (omega arith) closing
    ∙ rw (c'.skip.ensures.rest, c'.skip_blank-start.ensures.rest)

pub members-members-preserved : goal.members-members-preserved
members-members-preserved c c' =
    let l = c'.members in
    let start_is = c'.skip_blank-start.ensures.rest in
    let other : (first (skip_blank l.rest.now) == 125) ≡ false = grind (arith, common_steps) in
    let shorter = c'.in_ok-place.ensures.shorter in
    let within = c'.in_ok-rest.ensures.within in
    let before = c'.skip_blank-start.ensures.within in (
      search rules,
      omega (arith, l.invariant.1),
      λ n h.
          let (m, room, loop) = l.invariant.2 n h in (
            m - 1,
            omega arith,
            loop ∙ members_more (value c'.args.target.now c'.args.depth) m c'.args.path.now l.found l.rest.now _ _ _
                (omega arith) other (rw start_is at c'.in_ok-place.ensures.value) c'.in_ok-rest.ensures.value ∙ rw c'.or-found.ensures,
          ),
    )

pub value-returns-then-byte-ne123-clause-value : goal.value-returns-then-byte-ne123-clause-value
value-returns-then-byte-ne123-clause-value c c' =
    let s = c'.args.s.now in
    let a : (first s == 91) ≡ false = grind (arith, common_steps) in
    let b : (first s == 123) ≡ false = grind (arith, common_steps) in
    value_plain c'.args.target.now c'.args.depth c'.args.path.now s a b ∙ rw (c'.here-at.ensures, c'.in_ok-after_atom.ensures.value)

pub value-returns-then-byte-eq91-clause-value : goal.value-returns-then-byte-eq91-clause-value
value-returns-then-byte-eq91-clause-value c c' =
    let s = c'.args.s.now in
    let some : 0 < c'.args.depth = omega arith in
    let a : (first s == 91) ≡ true = grind (arith, common_steps) in
    value_array c'.args.target.now c'.args.depth c'.args.path.now s some a
    ∙ rw (← c'.skip.ensures.rest, c'.in_ok-place.ensures.value (length s) c'.skip.ensures.shorter, c'.or.ensures, c'.here-at.ensures)

pub value-returns-clause-value : goal.value-returns-clause-value
value-returns-clause-value c c' =
    let s = c'.args.s.now in
    let some : 0 < c'.args.depth = omega arith in
    let a : (first s == 91) ≡ false = grind (arith, common_steps) in
    let b : (first s == 123) ≡ true = grind (arith, common_steps) in
    value_table c'.args.target.now c'.args.depth c'.args.path.now s some a b
    ∙ rw (← c'.skip-2.ensures.rest, c'.in_ok-place-2.ensures.value (length s) c'.skip-2.ensures.shorter, c'.or-2.ensures, c'.here-at.ensures)
