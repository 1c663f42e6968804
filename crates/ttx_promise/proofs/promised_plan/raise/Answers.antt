use Rattle.std.proofs.Common.{◌≡◌, ◌*◌, ◌<◌, true, length, sym, ap, subst, ◌∙◌}
use Rattle.ttx_plan.specs.declared.faults.PlanFault.TheVariants.{TooLong}
use Rattle.ttx_plan.specs.Spread.{IsTooLongSpread}
use Rattle.ttx_source.specs.Keys.{is_often}
use Rattle.ttx_source.specs.Services.{ServiceFields, with_often}
use Rattle.ttx_promise.proofs.PageOften.{sent_so, often_is, authored_there, often_set_length, with_often_back}
use Rattle.ttx_promise.proofs.PlanAnswers.{is_so}
use Rattle.ttx_promise.proofs.promised_plan.raise.Goals as goal

pub set_often-requires-in-Err-TooLong-clause-index :
    goal.set_often-requires-in-Err-TooLong-clause-index
set_often-requires-in-Err-TooLong-clause-index c =
    subst (λ (s : ServiceFields). c.args.page < length s.pages) (sym c.set_often.ensures)
    (subst (λ n. c.args.page < n) (sym (often_set_length c.args.service.now.pages c.args.page (2 * c.often-often.result))) c.requires.page)

pub set_often-requires-in-Err-TooLong-clause-often :
    goal.set_often-requires-in-Err-TooLong-clause-often
set_often-requires-in-Err-TooLong-clause-often c =
    let s = sent_so c.args.service.now.pages c.args.page c.often-often.result c.often-often.ensures in
    let authored = authored_there c.args.service.now.serial c.args.service.now.pages c.pages-pages.ensures.ranges.pages c.args.page s.page s.at in
    subst (λ n. is_often n ≡ true) s.is authored.often

pub returns-in-Ok : goal.returns-in-Ok
returns-in-Ok c =
    let s = sent_so c.args.service.now.pages c.args.page c.often-often.result c.often-often.ensures in (
      c.set_often.ensures
          ∙ ap (λ o. with_often c.args.service.now c.args.page (2 * o))
          (sym (often_is c.args.service.now.pages c.args.page c.often-often.result s)),
      record {
        carries = c.in-Ok.ensures.carries;
        planned = c.in-Ok.ensures.planned;
        accepted = c.in-Ok.ensures.accepted;
        followed = c.in-Ok.ensures.followed;
      },
    )

pub returns-in-Err-TooLong : goal.returns-in-Err-TooLong
returns-in-Err-TooLong c =
    let s = sent_so c.args.service.now.pages c.args.page c.often-often.result c.often-often.ensures in
    let same = c.set_often.ensures
    ∙ ap (λ o. with_often c.args.service.now c.args.page (2 * o)) (sym (often_is c.args.service.now.pages c.args.page c.often-often.result s)) in
    let long = is_so c.in-Err-TooLong.field-0 TooLong c.in-Err-TooLong.field-0-is c.in-Err-TooLong.ensures.too_long in (
      c.set_often-in-Err-TooLong.ensures
          ∙ ap (λ (v : ServiceFields). with_often v c.args.page c.often-often.result) c.set_often.ensures
          ∙ with_often_back c.args.service.now c.args.page (2 * c.often-often.result) c.often-often.result s,
      subst (IsTooLongSpread c.args.receivers.late c.args.receivers.class) same long,
    )
