use Rattle.std.proofs.Common.{◌≡◌, ◌∙◌, ◌-◌, ◌++◌, ℕ, List, suc, length, [], ◌∷◌, string_bytes, false, true, ap, sym, rules, arith, append-nil}
use Rattle.std.proofs.lemmas.Grind.{common_steps}
use Rattle.std.proofs.lemmas.Bool.Decides.{nat_tests}
use Rattle.std.proofs.Common.{nat_lt}
use Rattle.std.proofs.lemmas.List.{map-append}
use Rattle.ttx_mistakes.specs.FirstKeys as rule
use Rattle.ttx_mistakes.specs.GivenViews.{given_view, given_views}
use Rattle.ttx_mistakes.specs.declared.first_keys.GivenKey.{GivenKey}
use Rattle.ttx_mistakes.proofs.FirstEntries.{keys_stop, keys_out, keys_next}
use Rattle.ttx_mistakes.proofs.first_keys.given_keys.Goals as goal

pub loop-entry-init : goal.loop-entry-init
loop-entry-init c =
    let s = c.args.s.now in (
      search rules,
      suc (length s),
      omega arith,
      ap (λ (them : List GivenKey). given_views them
          ++ rule.given_keys c.args.inline c.args.stop (suc (length s)) (string_bytes c.new-section.result) s) c.new-keys.ensures.items
          ∙ ap (λ (b : List ℕ). rule.given_keys c.args.inline c.args.stop (suc (length s)) b s) c.new-section.ensures.bytes,
    )

pub returns-then-start-stop : goal.returns-then-start-stop
returns-then-start-stop c =
    let l = c.loop-entry in
    let m = l.invariant.1 in
    let past : nat_lt (length c.entry_start-start.result.now) c.args.stop ≡ true = grind (arith, nat_tests, common_steps) in
    sym (append-nil (given_views l.keys.items))
    ∙ ap (λ them. given_views l.keys.items ++ them)
    (sym (keys_stop c.args.inline c.args.stop m (string_bytes l.section) l.rest.now c.entry_start-start.result.now c.entry_start-start.ensures past))
    ∙ l.invariant.3

pub loop-entry-preserved : goal.loop-entry-preserved
loop-entry-preserved c =
    let l = c.loop-entry in
    let m = l.invariant.1 in
    let count = l.invariant.2 in
    let start = c.entry_start-start.result.now in
    let goes : nat_lt (length start) c.args.stop ≡ false = grind (arith, nat_tests, common_steps) in (
      search rules,
      m - 1,
      omega arith,
      ap (λ (them : List GivenKey). given_views them
          ++ rule.given_keys c.args.inline c.args.stop (m - 1) (string_bytes c.in_ok-section.section) c.in_ok-rest.rest.now) c.in_ok-push.ensures.items
          ∙ ap (λ them. them ++ rule.given_keys c.args.inline c.args.stop (m - 1) (string_bytes c.in_ok-section.section) c.in_ok-rest.rest.now)
          (map-append given_view l.keys.items (c.in_ok-key.key ∷ []))
          ∙ keys_next c.args.inline c.args.stop m (m - 1) (given_views l.keys.items) (string_bytes l.section) l.rest.now start
          (string_bytes c.in_ok-section.section) c.in_ok-rest.rest.now (given_view c.in_ok-key.key) (rule.keys_of c.args.inline c.args.stop c.args.s.now)
          (omega arith) c.entry_start-start.ensures goes
          (c.in_ok-key.ensures ∙ ap (λ b. rule.given_key b start) c.as_str.ensures.value)
          (c.in_ok-section.ensures ∙ ap (λ p. rule.section_after (string_bytes l.section) p start) c.as_str-in-loop-entry.ensures.value)
          c.in_ok-rest.ensures
          l.invariant.3,
    )

pub returns : goal.returns
returns c =
    let l = c.loop-entry in
    let count = l.invariant.2 in
    sym (append-nil (given_views l.keys.items))
    ∙ ap (λ them. given_views l.keys.items ++ them) (sym (keys_out c.args.inline c.args.stop l.invariant.1 (string_bytes l.section) l.rest.now (omega arith)))
    ∙ l.invariant.3
