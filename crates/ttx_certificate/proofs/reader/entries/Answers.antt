use Rattle.std.proofs.Common.{◌≡◌, ◌∙◌, ◌<◌, ◌+◌, ◌++◌, ◌∷◌, [], length, sym, ap, inr, Ok, None, Some, arith, rules}
use Rattle.std.proofs.lemmas.Result.{err_from_is_err_and}
use Rattle.ttx_certificate.specs.Entries.{place_of}
use Rattle.ttx_certificate.specs.EntryViews.{entry_of, entries_of}
use Rattle.ttx_certificate.specs.CertificateReading.{lines_in, words_in, entry_in, line_at, read_entry, read_entries}
use Rattle.ttx_certificate.proofs.ReadEntries.{or_memory, joined, joined-none, entries_open, entries_fault, entries_more, entries_end, entries_rise}
use Rattle.ttx_certificate.proofs.reader.entries.Goals as goal

pub loop-rest-init : goal.loop-rest-init
loop-rest-init c = record {
  so_far = rw c.new-entries.ensures.items
      (joined-none (read_entries c.args.first None (lines_in c.args.text.now)));
  count = omega arith;
}

pub returns-in_err-text-clause-value : goal.returns-in_err-text-clause-value
returns-in_err-text-clause-value c =
    let p = err_from_is_err_and c.from_residual.result c.from_residual.ensures.1 in
    let some : 0 < length c.loop-rest.rest.now = grind arith in
    rw (p.1, p.2) (inr (entries_open (entries_of c.loop-rest.entries.items) c.loop-rest.line c.loop-rest.low c.loop-rest.rest.now _ some
    c.in_err-text.ensures.value ∙ sym c.loop-rest.invariant.so_far))

pub returns-in_err-entry-clause-value : goal.returns-in_err-entry-clause-value
returns-in_err-entry-clause-value c =
    let p = err_from_is_err_and c.from_residual-in_err-entry.result c.from_residual-in_err-entry.ensures.1 in
    let line : Ok (c.in_ok-text.text.now, lines_in c.in_ok-text.more.now) ≡ line_at c.loop-rest.line (lines_in c.loop-rest.rest.now) =
    c.in_ok-text.ensures.value in
    rw (p.1, p.2) (or_memory c.in_err-entry.ensures
    (λ is. entries_fault (entries_of c.loop-rest.entries.items) c.loop-rest.line c.loop-rest.low
    (lines_in c.loop-rest.rest.now) c.in_ok-text.text.now (lines_in c.in_ok-text.more.now) _ line is
    ∙ sym c.loop-rest.invariant.so_far))

pub loop-rest-preserved : goal.loop-rest-preserved
loop-rest-preserved c =
    let line : Ok (c.in_ok-text.text.now, lines_in c.in_ok-text.more.now) ≡ line_at c.loop-rest.line (lines_in c.loop-rest.rest.now) =
    c.in_ok-text.ensures.value in
    let read : Ok (entry_of c.in_ok-entry.entry)
    ≡ read_entry c.loop-rest.line c.loop-rest.low (entry_in (words_in c.in_ok-text.text.now)) = c.in_ok-entry.ensures in
    let pushed : c.push.new.self.items ≡ c.loop-rest.entries.items ++ c.in_ok-entry.entry ∷ [] = search rules in
    let shorter = c.in_ok-text.ensures.shorter in
    record {
      so_far = c.loop-rest.invariant.so_far ∙ entries_more c.loop-rest.entries.items c.in_ok-entry.entry c.loop-rest.line
          c.loop-rest.low (lines_in c.loop-rest.rest.now) c.in_ok-text.text.now (lines_in c.in_ok-text.more.now) line read
          ∙ ap (λ es. joined (entries_of es)
          (read_entries (c.loop-rest.line + 1) (Some (place_of c.in_ok-entry.entry.page c.in_ok-entry.entry.item))
          (lines_in c.in_ok-text.more.now))) (sym pushed)
          ∙ ap (λ p. joined (entries_of c.push.new.self.items)
          (read_entries (c.loop-rest.line + 1) (Some p) (lines_in c.in_ok-text.more.now))) (sym c.place.ensures);
      count = omega arith;
    }

pub returns-clause-value : goal.returns-clause-value
returns-clause-value c =
    let none : length c.loop-rest.rest.now ≡ 0 = grind arith in
    entries_end (entries_of c.loop-rest.entries.items) c.loop-rest.line c.loop-rest.low c.loop-rest.rest.now none ∙ sym c.loop-rest.invariant.so_far

pub returns-clause-rising : goal.returns-clause-rising
returns-clause-rising c =
    let none : length c.loop-rest.rest.now ≡ 0 = grind arith in
    entries_rise c.args.first None (lines_in c.args.text.now) (entries_of c.loop-rest.entries.items)
    (sym (entries_end (entries_of c.loop-rest.entries.items) c.loop-rest.line c.loop-rest.low c.loop-rest.rest.now none
    ∙ sym c.loop-rest.invariant.so_far))
