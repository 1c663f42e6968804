use Rattle.std.proofs.Common.{◌≡◌, ◌∙◌, ◌++◌, ◌∷◌, [], ap, subst}
use Rattle.ttx_air.specs.Airings.{written_of, Logs}
use Rattle.ttx_air.specs.Newsrooms.{candidate_of}
use Rattle.ttx_logbook.specs.LogTexts.{settings_text}
use Rattle.ttx_logbook.specs.Views.{settings_of}
use Rattle.ttx_broadcast.specs.Replays.{settings_with, outs_of, line_in}
use Rattle.ttx_broadcast.proofs.recordings.replays.sent.Goals as goal

pub returns-in-Ok-air : goal.returns-in-Ok-air
returns-in-Ok-air g c =
    let s = settings_of c.args.terms.settings in
    let times = g.C.Clock.shows c.args.terms.clock in
    let first = candidate_of c.args.opening.first in
    let before = outs_of g.L.Write.contents g.W.Write.contents c.args.outputs.now in
    let log = written_of g.L.Write.contents c.note.new.log in
    let line : c.as_bytes.result.now ≡ line_in s times first =
    c.as_bytes.ensures.value ∙ c.in-Ok.ensures
    ∙ ap (λ s. settings_text s ++ 10 ∷ []) (c.settings_with-settings.ensures.value ∙ ap (λ n. settings_with s n (times 0)) c.lines-lines.ensures) in
    record { log = log; settings = subst (λ bytes. Logs before.log log bytes) line c.note.ensures; airs = c.in-Ok-air.ensures }

pub returns : goal.returns
returns g c =
    let s = settings_of c.args.terms.settings in
    let times = g.C.Clock.shows c.args.terms.clock in
    let first = candidate_of c.args.opening.first in
    let before = outs_of g.L.Write.contents g.W.Write.contents c.args.outputs.now in
    let log = written_of g.L.Write.contents c.note.new.log in
    let line : c.as_bytes.result.now ≡ line_in s times first =
    c.as_bytes.ensures.value ∙ c.in-Ok.ensures
    ∙ ap (λ s. settings_text s ++ 10 ∷ []) (c.settings_with-settings.ensures.value ∙ ap (λ n. settings_with s n (times 0)) c.lines-lines.ensures) in
    record { log = log; settings = subst (λ bytes. Logs before.log log bytes) line c.note.ensures; airs = c.in-Err.ensures }
