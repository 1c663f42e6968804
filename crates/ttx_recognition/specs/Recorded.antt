-- A reader that keeps the first bytes that are read through it.
--
--   inner_of, kept_of       the reader, and the bytes
use Rattle.std.specs.Prelude.{ℕ, List, take}
use Rattle.ttx_recognition.specs.declared.recorded.Recorded.{Recorded}

abbrev pub inner_of : {R : Type 0} → Recorded R → R
inner_of r = r.inner

abbrev pub kept_of : {R : Type 0} → Recorded R → List ℕ
kept_of r = take r.len r.kept
