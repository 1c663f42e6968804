use Rattle.std.proofs.Common.{◌/◌, codes, refl, ap, ◌∙◌}
use Rattle.ttx_air.specs.Newsrooms.{candidate_of}
use Rattle.ttx_air.specs.Endings.{Unjudged}
use Rattle.ttx_air.specs.LogLines.{tick, kept_line}
use Rattle.ttx_air.specs.Ticks.{tick_of}
use Rattle.ttx_air.proofs.AddedLines.{adds_same, adds_since}
use Rattle.ttx_air.proofs.EndedPeriods.{ended_same, settled_is_ended}
use Rattle.ttx_air.proofs.period_end.decided.Goals as goal

pub returns-in_default-clause-ending : goal.returns-in_default-clause-ending
returns-in_default-clause-ending g c =
    let next = candidate_of c.args.next in
    let o = c.args.station.now.on_air in
    let at = c.entry_at-entry.ensures.tick ∙ ap (tick (g.C.Clock.shows c.args.terms.clock)) c.next_field.ensures in (
      Unjudged next,
      ended_same c.args.terms.receivers (Unjudged next) o o refl c.requires.time.between c.requires.time.held refl,
      refl,
      adds_since c.entry_at-entry.ensures.started
          (adds_same (ap (λ t. kept_line t next.mark (codes "out of memory\n")) at) c.note_unjudged.ensures),
    )

pub returns-clause-ending : goal.returns-clause-ending
returns-clause-ending g c =
    let times = g.C.Clock.shows c.args.terms.clock in
    let at = c.entry_at-entry.ensures.tick ∙ ap (tick times) c.next_field.ensures in
    settled_is_ended c.args.terms.receivers (candidate_of c.args.next) c.in-Ok.verdict c.entry_at-entry.result.started
    (tick_of c.entry_at-entry.result) c.args.station.now.on_air c.settled.new.on_air _ _ c.requires.time c.in-Ok.ensures
    (tick times (c.args.station.now.sent / c.args.terms.lines)) at c.args.terms.started c.entry_at-entry.ensures.started c.settled.ensures
