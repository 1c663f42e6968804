use Rattle.std.proofs.Common.{◌/◌, ◌++◌, codes, string_bytes, refl, ap, ◌∙◌, subst}
use Rattle.ttx_playout.specs.Takeovers.{edition_of}
use Rattle.ttx_air.specs.Newsrooms.{news_of, Refused}
use Rattle.ttx_air.specs.Endings.{Unfit}
use Rattle.ttx_air.specs.LogLines.{tick, kept_line}
use Rattle.ttx_air.proofs.AddedLines.{adds_same, adds_since}
use Rattle.ttx_air.proofs.EndedPeriods.{ended_same}
use Rattle.ttx_air.proofs.period_end.period_ended.Goals as goal

pub returns-in-Refused-clause-ending : goal.returns-in-Refused-clause-ending
returns-in-Refused-clause-ending g c =
    let o = c.args.station.now.on_air in
    let at = c.next_field-field.ensures in
    let then = c.entry_at-entry.ensures.tick ∙ ap (tick (g.C.Clock.shows c.args.terms.clock)) at in
    let field = c.args.station.now.sent / c.args.terms.lines in
    let gives = g.N.Newsroom.gives in
    let mark = string_bytes c.in-Refused.mark in
    let words = string_bytes c.in-Refused.words in
    let time = c.is_time.ensures.0 c.if-is_time.true in
    let mark_is = c.as_bytes.ensures.value in
    let words_are = c.as_bytes-in-Refused.ensures.value in (
      Unfit mark words,
      ended_same c.args.terms.receivers (Unfit mark words) o o refl c.requires.between time.held refl,
      subst (λ e. gives c.args.newsroom.now e field (Refused mark words) c.next.new.self) c.current.ensures
          (subst (λ n. gives c.args.newsroom.now (edition_of c.current.result.now) field (news_of n) c.next.new.self) c.in-Refused.is
          (subst (λ f. gives c.args.newsroom.now (edition_of c.current.result.now) f (news_of c.next.result) c.next.new.self) at c.next.ensures)),
      adds_since c.entry_at-entry.ensures.started
          (adds_same (λ i. kept_line (then i) (mark_is i) (words_are i ++ codes "\n")) c.note_refused.ensures),
    )

pub returns-in-NoMemory-clause-ending : goal.returns-in-NoMemory-clause-ending
returns-in-NoMemory-clause-ending g c =
    let o = c.args.station.now.on_air in
    let at = c.next_field-field.ensures in
    let then = c.entry_at-entry-in-NoMemory.ensures.tick ∙ ap (tick (g.C.Clock.shows c.args.terms.clock)) at in
    let field = c.args.station.now.sent / c.args.terms.lines in
    let gives = g.N.Newsroom.gives in
    let mark = string_bytes c.in-NoMemory.mark in
    let words = codes "out of memory" in
    let time = c.is_time.ensures.0 c.if-is_time.true in
    let mark_is = c.as_bytes-in-NoMemory.ensures.value in (
      Unfit mark words,
      ended_same c.args.terms.receivers (Unfit mark words) o o refl c.requires.between time.held refl,
      subst (λ e. gives c.args.newsroom.now e field (Refused mark words) c.next.new.self) c.current.ensures
          (subst (λ n. gives c.args.newsroom.now (edition_of c.current.result.now) field (news_of n) c.next.new.self) c.in-NoMemory.is
          (subst (λ f. gives c.args.newsroom.now (edition_of c.current.result.now) f (news_of c.next.result) c.next.new.self) at c.next.ensures)),
      adds_since c.entry_at-entry-in-NoMemory.ensures.started
          (adds_same (λ i. kept_line (then i) (mark_is i) (words ++ codes "\n")) c.note_refused-in-NoMemory.ensures),
    )
