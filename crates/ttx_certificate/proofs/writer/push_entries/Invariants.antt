use Rattle.std.proofs.Common.{◌≡◌, ◌++◌, drop, string_bytes}
use Rattle.ttx_certificate.specs.CertificateTexts.{entries_text}
use Rattle.ttx_certificate.specs.EntryViews.{entries_of}
use Rattle.ttx_certificate.proofs.writer.push_entries.Given as goal

abbrev pub invariant-loop-entry : goal.invariant-loop-entry
invariant-loop-entry l = string_bytes l.text ++ entries_text (entries_of (drop l.entry-index l.entries)) ≡ string_bytes l.initial.text
    ++ entries_text (entries_of l.entries)
