use Rattle.std.proofs.Common.{◌≡◌, ◌+◌, ◌++◌, ◌∷◌, [], ◌<◌, pos, false, length, map, if◌then◌else◌, get_or, None, sym, ap, ◌∙◌, subst, inl, inr, arith}
use Rattle.std.proofs.lemmas.Bool.{cases_lt}
use Rattle.std.proofs.lemmas.List.{get_or_append_left, get_or_push, length_push}
use Rattle.ttx_cycle.specs.Cycles.{slots_of}
use Rattle.ttx_page.specs.Views.{page_of}
use Rattle.ttx_monitor.specs.Places.{IsPlaced}
use Rattle.ttx_row_monitor.specs.Flags.{IsFlag}
use Rattle.ttx_row_monitor.proofs.flags.flags_of.Goals as goal

pub loop-j-preserved : goal.loop-j-preserved
loop-j-preserved c =
    let cycle = slots_of c.args.cycle.now in
    let pages = map page_of c.args.pages.now in
    let inv = c.loop-j.invariant in
    let old = c.loop-j.flags.items in
    let n = c.loop-j.j in
    let flag = c.is_needed.result in
    let is = c.push.ensures.items ∙ ap (λ b. if b then old ++ flag ∷ [] else old) c.if-is_err.ensures.negation in
    let table = c.in_ok-table.ensures in
    let place = c.place_at-place.ensures ∙ ap (λ l. get_or l n None) c.as_slice.ensures.value in
    let inside : n < length cycle = let s = table.size in omega arith in
    let here = c.is_needed.ensures cycle n (subst (IsPlaced cycle pages n) (sym place) (table.each n inside)) in
    record {
      size = ap length is ∙ length_push old flag ∙ ap (λ k. k + 1) inv.size;
      each = λ j lt. subst (λ l. IsFlag cycle pages (pos j) (get_or l j false)) (sym is)
          (elim (cases_lt j n) as (λ _. IsFlag cycle pages (pos j) (get_or (old ++ flag ∷ []) j false)) [
            | inl before ↦
                subst (IsFlag cycle pages (pos j)) (sym (get_or_append_left old (flag ∷ []) false j (let s = inv.size in omega arith))) (inv.each j before)
            | inr after ↦
                let e : n ≡ j = omega arith in
                subst (λ k. IsFlag cycle pages (pos k) (get_or (old ++ flag ∷ []) k false)) e
                (subst (IsFlag cycle pages (pos n)) (sym (get_or_push old flag false n inv.size)) here)
          ]);
    }
