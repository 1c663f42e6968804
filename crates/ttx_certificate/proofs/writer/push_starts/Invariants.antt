use Rattle.std.proofs.Common.{◌≡◌, ◌++◌, drop, string_bytes}
use Rattle.ttx_certificate.specs.CertificateTexts.{starts_text}
use Rattle.ttx_certificate.proofs.writer.push_starts.Given as goal

abbrev pub invariant-loop-start : goal.invariant-loop-start
invariant-loop-start l = string_bytes l.text ++ starts_text (drop l.start-index l.starts) ≡ string_bytes l.initial.text ++ starts_text l.starts
