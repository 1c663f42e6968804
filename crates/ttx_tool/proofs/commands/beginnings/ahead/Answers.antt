use Rattle.std.proofs.Common.{◌≡◌, ◌∙◌, ap, subst, rules, ℤ, pos, ◌*ℤ◌, ℕ, w32, to_z, of_z}
use Rattle.jiff.specs.Types.{TimeZone}
use Rattle.jiff.specs.Words.{plain_zone}
use Rattle.ttx_arguments.specs.Timings.{start_view}
use Rattle.ttx_moment.specs.Instants.{ahead}
use Rattle.ttx_tool.specs.Beginnings.{Begins}
use Rattle.ttx_tool.proofs.commands.beginnings.ahead.Goals as goal

pub returns : goal.returns
returns c =
    let start = start_view c.args.start.now in
    let now = c.args.now.nanosecond in
    let value : c.unwrap.result.seconds ≡ pos 1800 *ℤ c.args.offset.now = search rules in
    let seconds : to_z w32 (of_z w32 c.seconds-seconds.result) ≡ pos 1800 *ℤ c.args.offset.now = search rules in
    let before = subst (λ (n : ℕ). Begins (plain_zone c.fixed-zone.result) now n start c.begun.result) (c.seconds_ahead.ensures.value ∙ ap ahead seconds)
    c.begun.ensures in
    (c.unwrap.result, value, subst (λ (z : TimeZone). Begins z now (ahead (pos 1800 *ℤ c.args.offset.now)) start c.begun.result) c.fixed-zone.ensures before)
