-- What a certificate covers is sent in time from every tuning slot.
use Rattle.std.proofs.Common.{◌≡◌, ℕ, ◌*◌, ◌<◌, ℤ, pos, ◌+ℤ◌, List, length, subst, ap, ◌∙◌}
use Rattle.ttx_page.specs.Pages.{Page}
use Rattle.ttx_page.specs.declared.item.Item.{Item}
use Rattle.ttx_page.specs.Streams.{repeated, turned, IsSent}
use Rattle.ttx_witness.specs.Coverage.{Certificate, limit, IsCovered}
use Rattle.ttx_certify.proofs.AcceptedIsSeen.{StreamLaws, sure_run}
use Rattle.ttx_counter.specs.Completeness.{StarvedIsNotCovered}

covered_is_sent : StreamLaws → (cycle : List (List ℕ)) → 0 < length cycle → (p : Page) (w : Certificate) (item : Item) → IsCovered cycle p w item →
    (tau : ℤ) → IsSent (repeated cycle) p.id w.lines w.repeat item tau (tau +ℤ pos (limit w))
covered_is_sent laws cycle some p w item covered tau =
    let t = covered.in_time tau in
    record {
      first = t.0;
      rest = t.5.rest;
      owner = t.1;
      owned = t.3;
      not_before = t.4;
      run = t.5.run;
      all_sure = sure_run laws cycle p.id w.lines w.repeat item t.0 t.5.rest some (covered.sure (turned (length cycle) t.0) t.2).1 t.5.run;
      ends = t.5.ends;
    }

pub starved_is_not_covered : StreamLaws → StarvedIsNotCovered
starved_is_not_covered laws cycle some p w item need start starves one =
    let sent = covered_is_sent laws cycle some p one.v item (one.covered item need) (pos start) in
    let same : limit one.v ≡ limit w = ap (λ d. d * one.v.lines) one.same_deadline ∙ ap (λ l. w.deadline * l) one.same_lines in
    starves.none (subst (λ d. IsSent (repeated cycle) p.id w.lines w.repeat item (pos start) (pos start +ℤ pos d)) same
    (subst (λ r. IsSent (repeated cycle) p.id w.lines r item (pos start) (pos start +ℤ pos (limit one.v))) one.same_repeat
    (subst (λ l. IsSent (repeated cycle) p.id l one.v.repeat item (pos start) (pos start +ℤ pos (limit one.v))) one.same_lines sent)))
