-- The contents of a counted reader or writer: `inner_of`, `calls_of`, `faults_of`.
use Rattle.std.specs.Prelude.{ℕ}
use Rattle.ttx_cycle.specs.declared.counted.Counted.{Counted}

-- the reader or writer that is counted
abbrev pub inner_of : {T : Type 0} → Counted T → T
inner_of s = s.inner

-- how often it was called
abbrev pub calls_of : {T : Type 0} → Counted T → ℕ
calls_of s = s.calls

-- how many of these calls failed
abbrev pub faults_of : {T : Type 0} → Counted T → ℕ
faults_of s = s.faults
