use Rattle.std.proofs.Common.{◌≡◌, ℕ, ◌≤◌, length, min, subst, arith}
use Rattle.ttx_cycle.specs.Files.{IsCycle}
use Rattle.ttx_cycle.specs.Cycles.{slots_of-IsCycle}
use Rattle.ttx_certificate.specs.Certificates.{certificate_of}
use Rattle.ttx_witness.specs.Coverage.{limit}
use Rattle.ttx_monitor.proofs.monitor.Monitor.lasts.Goals as goal

-- a small number is below the minimum of two if it is below the first
long : (x n count big : ℕ) → count ≡ min n big → x ≤ count → x ≤ n
long x n count big e le = omega arith

counted : (x n count big : ℕ) → count ≡ min n big → x ≤ big → x ≤ n → x ≤ count
counted x n count big e small le = omega arith

pub returns-clause-exact : goal.returns-clause-exact
returns-clause-exact c = λ w feed st.
    let inside = c.within.ensures.within w feed st in
    let reached = c.reaches.ensures in
    let most = limit (certificate_of c.args.certificate.now) in (
      (λ h. (inside.0 c.if-not-within.false, long most (length feed) c.args.self.now.count _ st.count (reached.exact.0 h))),
      (λ p. reached.exact.1 (counted most (length feed) c.args.self.now.count _ st.count (let few = reached.few in omega arith) p.1)),
    )

pub returns-clause-seen : goal.returns-clause-seen
returns-clause-seen c = λ w feed st h pages repeat accepted.
    let inside = c.within.ensures.within w feed st in
    let cert = certificate_of c.args.certificate.now in
    c.within_is_seen.ensures w feed cert (subst IsCycle st.cycle (slots_of-IsCycle c.args.self.now.cycle.now)) pages
    (c.certificates_keep_their_rules.ensures c.args.certificate.now).1 repeat accepted (inside.0 c.if-not-within.false)
    (long (limit cert) (length feed) c.args.self.now.count _ st.count (c.reaches.ensures.exact.0 h))
