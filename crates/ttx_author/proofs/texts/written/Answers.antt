use Rattle.std.proofs.Common.{◌≡◌, ◌∙◌, ◌<◌, ◌≤◌, ◌+◌, ◌++◌, List, ℕ, true, false, arith, ap, sym, drop, get_or, length, append_assoc, length-drop, slice_index_or, []}
use Rattle.std.proofs.lemmas.List.{append-nil}
use Rattle.ttx_author.specs.Tags.{names}
use Rattle.ttx_author.specs.Rows.{mode_after}
use Rattle.ttx_author.specs.Texts.{in_braces, one, starts_box, written}
use Rattle.ttx_author.proofs.Inverse.{written-box, written-one, written-end, rest-of, drop-one, first-of}
use Rattle.ttx_author.proofs.texts.written.Goals as goal

pub loop-at-preserved-then-starts_box : goal.loop-at-preserved-then-starts_box
loop-at-preserved-then-starts_box c =
    let codes : List ℕ = c.args.codes.now in
    let at : ℕ = c.loop-at.at in
    let text : List ℕ = c.loop-at.text.items in
    let box : starts_box (drop at codes) ≡ true = ap starts_box (sym (rest-of codes at)) ∙ sym c.starts_box.ensures ∙ c.if-starts_box.true in
    let step = written-box c.args.option c.loop-at.mosaic (drop at codes) box in
    let two : 2 ≤ length (drop at codes) = step.0 in
    let code : c.from.result ≡ get_or (drop at codes) 0 0 = c.from.ensures ∙ sym (first-of codes at) in
    record {
      inside = omega (arith, length-drop at codes);
      so_far =
          ap (λ xs. xs ++ written c.args.option c.loop-at.mosaic (drop (at + 2) codes)) c.in_ok-push_name.ensures
          ∙ append_assoc text (in_braces (slice_index_or names (c.from.result + 22) [])) (written c.args.option c.loop-at.mosaic (drop (at + 2) codes))
          ∙ ap (λ n. text ++ (in_braces (slice_index_or names (n + 22) []) ++ written c.args.option c.loop-at.mosaic (drop (at + 2) codes))) code
          ∙ ap (λ rest. text ++ (in_braces (slice_index_or names (get_or (drop at codes) 0 0 + 22) []) ++ written c.args.option c.loop-at.mosaic rest))
          (sym (drop-one codes at 2))
          ∙ ap (λ rest. text ++ rest) (sym step.2)
          ∙ c.loop-at.invariant.so_far;
    }

pub loop-at-preserved : goal.loop-at-preserved
loop-at-preserved c =
    let codes : List ℕ = c.args.codes.now in
    let at : ℕ = c.loop-at.at in
    let text : List ℕ = c.loop-at.text.items in
    let option : ℕ = c.args.option in
    let other : starts_box (drop at codes) ≡ false = ap starts_box (sym (rest-of codes at)) ∙ sym c.starts_box.ensures ∙ c.if-starts_box.false in
    let some : 0 < length (drop at codes) = omega (arith, length-drop at codes) in
    let step = written-one option c.loop-at.mosaic (drop at codes) some other in
    let code : get_or codes at 0 ≡ get_or (drop at codes) 0 0 = sym (first-of codes at) in
    record {
      inside = omega arith;
      so_far =
          ap (λ xs. xs ++ written option c.mode_after-mosaic.result (drop (at + 1) codes)) c.in_ok-push_code.ensures
          ∙ ap (λ m. (text ++ one option c.loop-at.mosaic (get_or codes at 0)) ++ written option m (drop (at + 1) codes)) c.mode_after-mosaic.ensures
          ∙ append_assoc text (one option c.loop-at.mosaic (get_or codes at 0)) (written option (mode_after (get_or codes at 0) c.loop-at.mosaic) (drop (at + 1) codes))
          ∙ ap (λ n. text ++ (one option c.loop-at.mosaic n ++ written option (mode_after n c.loop-at.mosaic) (drop (at + 1) codes))) code
          ∙ ap (λ rest. text ++ (one option c.loop-at.mosaic (get_or (drop at codes) 0 0)
          ++ written option (mode_after (get_or (drop at codes) 0 0) c.loop-at.mosaic) rest)) (sym (drop-one codes at 1))
          ∙ ap (λ rest. text ++ rest) (sym step)
          ∙ c.loop-at.invariant.so_far;
    }

pub returns : goal.returns
returns c =
    let none : length (drop c.loop-at.at c.args.codes.now) ≡ 0 = omega (arith, length-drop c.loop-at.at c.args.codes.now) in
    sym (append-nil c.loop-at.text.items)
    ∙ ap (λ rest. c.loop-at.text.items ++ rest) (sym (written-end c.args.option c.loop-at.mosaic (drop c.loop-at.at c.args.codes.now) none))
    ∙ c.loop-at.invariant.so_far
