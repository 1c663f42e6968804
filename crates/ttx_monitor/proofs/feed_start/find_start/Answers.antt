use Rattle.std.proofs.Common.{◌≡◌, ◌⊎◌, ◌+◌, ◌<◌, ◌≤◌, sym, subst, arith, inl, inr}
use Rattle.std.proofs.lemmas.Bool.{cases_lt}
use Rattle.ttx_cycle.specs.Cycles.{slots_of}
use Rattle.ttx_monitor.specs.Starting.{Misfits, judged_slots}
use Rattle.ttx_monitor.proofs.MisfitCounts.{grow, at_most}
use Rattle.ttx_monitor.proofs.feed_start.find_start.Goals as goal
use Rattle.ttx_monitor.proofs.feed_start.find_start.Goals.{in-Some, in_default}

pub overflow_add-fewest : goal.overflow_add-fewest
overflow_add-fewest c =
    let x = slots_of c.args.cycle.now in
    let likely = c.likely_start-likely.result in
    let most = at_most x c.args.head.now likely.place (judged_slots x c.args.head.now) likely.misfits c.likely_start-likely.ensures.count in
    let few = c.requires in omega arith

pub loop-start-preserved : goal.loop-start-preserved
loop-start-preserved c =
    let x = slots_of c.args.cycle.now in
    let head = c.args.head.now in
    let inv = c.loop-start.invariant in
    let n = judged_slots x head in
    let start = c.loop-start.start in
    elim c.match-misfits_below.branch [
      | in-Some w ↦
          let told = w.in-Some.ensures.count in
          let new = w.in-Some.misfits in
          record {
            best = inr (
              (let d = w.best-is in omega arith),
              subst (λ z. Misfits x head z n c.match-misfits_below.fewest) (sym w.best-is)
                  (subst (Misfits x head start n) (sym w.fewest-is) told.1),
            );
            fewest = λ j k lt m. elim (cases_lt j start) as (λ _. c.match-misfits_below.fewest ≤ k) [
              | inl before ↦ (let h = inv.fewest j k before m in let t = told.0 in let f = w.fewest-is in omega arith)
              | inr here ↦
                  let q : j ≡ start = omega arith in
                  let h = grow x head start n n new k (omega arith) told.1 (subst (λ z. Misfits x head z n k) q m) in
                  let f = w.fewest-is in omega arith
            ];
            least = λ j k lt m. let d = w.best-is in let h = inv.fewest j k (omega arith) m in let t = told.0 in let f = w.fewest-is in omega arith;
          }
      | in_default w ↦
          record {
            best = elim inv.best as
                (λ _. (c.match-misfits_below.fewest ≡ c.likely_start-likely.result.misfits + 1)
                ⊎ ((c.match-misfits_below.best < start + 1) × Misfits x head c.match-misfits_below.best n c.match-misfits_below.fewest)) [
                  | inl e ↦ inl (let f = w.fewest-is in omega arith)
                  | inr b ↦ inr (
                    (let d = w.best-is in let h = b.0 in omega arith),
                    subst (λ z. Misfits x head z n c.match-misfits_below.fewest) (sym w.best-is)
                        (subst (Misfits x head c.loop-start.best n) (sym w.fewest-is) b.1),
                  )
                ];
            fewest = λ j k lt m. elim (cases_lt j start) as (λ _. c.match-misfits_below.fewest ≤ k) [
              | inl before ↦ (let h = inv.fewest j k before m in let f = w.fewest-is in omega arith)
              | inr here ↦
                  let q : j ≡ start = omega arith in
                  let h = w.in_default.ensures.count k (subst (λ z. Misfits x head z n k) q m) in
                  let f = w.fewest-is in omega arith
            ];
            least = λ j k lt m. let d = w.best-is in let h = inv.least j k (omega arith) m in let f = w.fewest-is in omega arith;
          }
    ]
