-- Bytes of the log, one after another.
use Rattle.std.proofs.Common.{◌≡◌, ℕ, List, ◌++◌, append_assoc, ap, ◌∙◌, subst}
use Rattle.ttx_air.specs.Airings.{Written, Logs}
use Rattle.ttx_air.specs.Entries.{Adds}

pub adds_both : {started : ℕ} {x y z : Written} {these those : List ℕ} → Adds started x y these → Adds started y z those → Adds started x z (these ++ those)
adds_both {started} {x} {y} {z} {these} {those} p q = record {
  further = λ begin noted is logs. subst (Logs begin z) (append_assoc noted these those)
      (q.further begin (noted ++ these) is (p.further begin noted is logs));
}

pub adds_same : {started : ℕ} {x y : Written} {these those : List ℕ} → these ≡ those → Adds started x y these → Adds started x y those
adds_same {started} {x} {y} e p = subst (Adds started x y) e p

-- the end of a line is added last
pub adds_end : {started : ℕ} {x y : Written} (a b c d : List ℕ) → Adds started x y ((a ++ (b ++ c)) ++ d) → Adds started x y (a ++ (b ++ (c ++ d)))
adds_end a b c d p = adds_same (append_assoc a (b ++ c) d ∙ ap (λ l. a ++ l) (append_assoc b c d)) p

pub adds_since : {a b : ℕ} {x y : Written} {these : List ℕ} → a ≡ b → Adds a x y these → Adds b x y these
adds_since {a} {b} {x} {y} {these} e p = subst (λ n. Adds n x y these) e p
