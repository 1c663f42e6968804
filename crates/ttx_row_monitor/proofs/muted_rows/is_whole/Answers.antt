use Rattle.std.proofs.Common.{All, sym, ◌∙◌, subst, arith}
use Rattle.std.proofs.lemmas.Bool.{both_ways}
use Rattle.std.proofs.lemmas.List.{length-drop}
use lib.Pointwise.{bytes_decides}
use Rattle.ttx_code.specs.Words.{IsOdd}
use Rattle.ttx_row_monitor.proofs.TornRows.{whole, torn_text, torn_parity}
use Rattle.ttx_row_monitor.proofs.muted_rows.is_whole.Goals as goal

pub returns-then-eq-clause-whole : goal.returns-then-eq-clause-whole
returns-then-eq-clause-whole c = λ odd.
    let sent = c.args.sent.now in
    let received = c.args.received.now in
    let text = c.text_of-text.ensures in
    let same = (bytes_decides c.text_of-text.result.now c.text_of-own.result.now).0 (sym c.if-eq.ensures) in
    whole sent received (c.fits.ensures.fit c.if-not-fits.false) (sym text ∙ same ∙ c.text_of-own.ensures)
    (subst (All IsOdd) text (c.all_odd.ensures.0 odd)) (let s = c.requires.received.size in let d = length-drop 2 received in omega arith)

pub returns-then-eq-clause-torn : goal.returns-then-eq-clause-torn
returns-then-eq-clause-torn c = λ even w.
    let odd = torn_parity c.args.sent.now c.args.received.now c.requires.received.size w in
    both_ways _ even (c.all_odd.ensures.1 (subst (All IsOdd) (sym c.text_of-text.ensures) odd))

pub returns-clause-torn : goal.returns-clause-torn
returns-clause-torn c = λ _ w.
    let same = torn_text c.args.sent.now c.args.received.now c.requires.received.size c.requires.sent.size w in
    both_ways _ (sym c.if-eq.ensures)
    ((bytes_decides c.text_of-text.result.now c.text_of-own.result.now).1 (c.text_of-text.ensures ∙ same ∙ sym c.text_of-own.ensures))
