use Rattle.std.proofs.Common.{◌≡◌, ◌-◌, ap, ◌∙◌, arith}
use Rattle.ttx_page.specs.Streams.{run_length}
use Rattle.ttx_certificate.specs.Certificates.{certificate_of}
use Rattle.ttx_witness.proofs.SentItems.{some_run}
use Rattle.ttx_certify.proofs.walk_lemmas.AfterOneSlot.{short_run}
use Rattle.ttx_certify.proofs.walks.tracks.repeat_of.Goals as goal

pub returns-clause-some : goal.returns-clause-some
returns-clause-some c =
    let w = certificate_of c.args.certificate.now in
    let is = (c.certificates_keep_their_rules.ensures c.args.certificate.now).1 in
    let one = some_run w.repeat c.args.item.now is.some_repeats in
    let r = c.repeat.ensures in
    let e : c.run_length.result ≡ run_length w.repeat c.args.item.now = c.run_length.ensures ∙ ap (λ n. run_length n c.args.item.now) c.repeat.ensures in
    omega arith

pub returns-clause-few : goal.returns-clause-few
returns-clause-few c =
    let w = certificate_of c.args.certificate.now in
    let is = (c.certificates_keep_their_rules.ensures c.args.certificate.now).1 in
    let one = some_run w.repeat c.args.item.now is.some_repeats in
    let e : c.run_length.result ≡ run_length w.repeat c.args.item.now = c.run_length.ensures ∙ ap (λ n. run_length n c.args.item.now) c.repeat.ensures in
    let short = short_run w is c.args.item.now (run_length w.repeat c.args.item.now - 1) (omega arith) in
    omega arith
