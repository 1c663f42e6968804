use Rattle.std.proofs.Common.{◌≡◌, true, false, inr, subst, IsOk, IfOk}
use Rattle.std.specs.Prelude.{SomeIff}
use Rattle.jiff.specs.Words.{plain_zone, offset_at}
use Rattle.ttx_moment.specs.Instants.{moment_of_instant, IsOnTheAir}
use Rattle.ttx_moment.specs.Texts.{zone_instant}
use Rattle.ttx_moment.proofs.NamedMoments.{named, is_instant}
use Rattle.ttx_moment.proofs.clocks.moment_by_clock.Goals as goal

pub returns-in-Ok : goal.returns-in-Ok
returns-in-Ok c =
    let zone = plain_zone c.args.zone.now in
    let datetime = c.in-Some.datetime in
    let value = subst (λ r. IfOk r (λ t. t.nanosecond ≡ zone_instant zone datetime)) c.in-Ok.is c.to_timestamp.ensures.value in
    let said = subst (λ n. SomeIff c.moment_of.result (IsOnTheAir n (offset_at zone n)) (moment_of_instant n (offset_at zone n))) value
    c.moment_of.ensures in
    named zone c.args.mjd c.args.second datetime c.moment_of.result c.in-Some.ensures said

pub returns-in-Err : goal.returns-in-Err
returns-in-Err c =
    let zone = plain_zone c.args.zone.now in
    let datetime = c.in-Some.datetime in
    inr (
      datetime,
      c.in-Some.ensures,
      λ on.
          let range = is_instant (zone_instant zone datetime) (offset_at zone (zone_instant zone datetime)) on in
          let e : false ≡ true = subst IsOk c.in-Err.is (c.to_timestamp.ensures.succeeds.1 range) in
          cc,
    )
