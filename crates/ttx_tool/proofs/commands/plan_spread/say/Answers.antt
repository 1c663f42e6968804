use Rattle.std.proofs.Common.{◌≡◌, map, subst, ap, ◌∙◌, IfOk, string_bytes}
use Rattle.ttx_carousel.specs.StayLines as stays
use Rattle.ttx_carousel.specs.declared.faults.StayFault.TheVariants.{Promise}
use Rattle.ttx_promise.specs.PromiseLines as promises
use Rattle.ttx_promise.specs.Views.{late_view}
use Rattle.ttx_tool.specs.SpreadPlans.{missed_text}
use Rattle.ttx_tool.proofs.SpreadTexts.{said_lines}
use Rattle.ttx_tool.proofs.commands.plan_spread.say.Goals as goal

pub returns-in-Promise-Late : goal.returns-in-Promise-Late
returns-in-Promise-Late c =
    said_lines c.args.fault (promises.late_lines (map late_view c.in-Promise-Late.pages.items)) c.late_lines.result c.missed.result
    (ap missed_text c.in-Promise-Late.is ∙ ap (λ fault. missed_text (Promise fault)) c.in-Promise-Late.fault-is)
    (subst (λ pages. IfOk c.late_lines.result (λ line. string_bytes line ≡ promises.late_lines (map late_view pages))) c.deref.ensures.value
    c.late_lines.ensures)
    c.missed.ensures.lines c.missed.ensures.memory

pub returns-in-Short : goal.returns-in-Short
returns-in-Short c =
    said_lines c.args.fault (stays.stay_lines c.in-Short.numbers.items) c.stay_lines.result c.missed-in-Short.result
    (ap missed_text c.in-Short.is)
    (subst (λ numbers. IfOk c.stay_lines.result (λ line. string_bytes line ≡ stays.stay_lines numbers)) c.deref-in-Short.ensures.value
    c.stay_lines.ensures)
    c.missed-in-Short.ensures.lines c.missed-in-Short.ensures.memory

pub returns-in-Missed : goal.returns-in-Missed
returns-in-Missed c =
    said_lines c.args.fault (stays.missed_line c.in-Missed.what) c.missed_line.result c.missed-in-Missed.result
    (ap missed_text c.in-Missed.is) c.missed_line.ensures c.missed-in-Missed.ensures.lines c.missed-in-Missed.ensures.memory
