-- What goes out for a certificate with the deadline that is asked for.
use Rattle.std.proofs.Common.{ℕ, ◌≤◌, List, length, sym, ap, subst}
use Rattle.ttx_certificate.specs.Entries.{CertificateFields}
use Rattle.ttx_certificate.specs.NamedStarts.{Certificate}
use Rattle.ttx_certify.specs.declared.verdict.Verdict.{Verdict}
use Rattle.ttx_certify.specs.declared.verdict.Verdict.TheVariants.{Yes, No}
use Rattle.ttx_cycle.specs.Bounded.{most_bytes}
use Rattle.ttx_deadline.specs.Deadlines.{IsFoundWith}
use Rattle.ttx_deadline.specs.declared.asked_deadlines.Asked.{Asked}
use Rattle.ttx_source.specs.Services.{ServiceFields, pages_of}
use Rattle.ttx_tool.specs.FindDeadline.{WritesAsked, TellsAsked}
use Rattle.ttx_tool.proofs.NamedSlots.{found_is_short}

-- its starts are those of the one that is found, so its text isn't too long
pub asked_told : (slots : List (List ℕ)) (service : ServiceFields) (asked : Asked) (w : CertificateFields) (verdict : Verdict) →
    length slots ≤ 65536 → IsFoundWith slots (pages_of service) service.lines asked w verdict → (file line : List ℕ) (status : ℕ) →
    WritesAsked w asked.deadline (length service.pages) verdict file line status → TellsAsked slots service w asked.deadline verdict file line status
asked_told slots service asked w Yes few f file line status written =
    let starts = ap (λ (c : Certificate). c.starts) f.same in
    let short = found_is_short slots (pages_of service) asked.repeat service.lines asked.class f.found f.least f.is w starts f.fields few in
    record { written = written; most = subst (λ xs. length xs ≤ most_bytes) (sym written.0) short; seen = f.seen }
asked_told slots service asked w (No reason) few f file line status written = written
