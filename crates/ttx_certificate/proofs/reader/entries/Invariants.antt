use Rattle.std.proofs.Common.{◌≡◌, ◌+◌, ◌≤◌, length, None}
use Rattle.ttx_certificate.specs.EntryViews.{entries_of}
use Rattle.ttx_certificate.specs.CertificateReading.{lines_in, read_entries}
use Rattle.ttx_certificate.proofs.ReadEntries.{joined}
use Rattle.ttx_certificate.proofs.reader.entries.Given as goal

-- the entries so far, and then those of the lines that are left
abbrev pub invariant-loop-rest : goal.invariant-loop-rest
invariant-loop-rest l = record {
  so_far : read_entries l.first None (lines_in l.text) ≡ joined (entries_of l.entries.items) (read_entries l.line l.low (lines_in l.rest));
  count : l.line + length l.rest ≤ l.first + length l.text;
}

abbrev pub decreases-loop-rest : goal.decreases-loop-rest
decreases-loop-rest l = length l.rest
