-- Texts of bounded length.
--
--   most_bytes    the most bytes of a text
--   ReadsText     the answer for the bytes of a text
--   CountsText    a read fault is returned only if one was counted
use Rattle.std.specs.Prelude.{◌≡◌, ℕ, ◌<◌, ◌≤◌, List, length, ⊤, Result, Ok, Err, Vec}
use Rattle.std.specs.declared.alloc.Global.{Global}
use Rattle.ttx_cycle.specs.Counts.{HasRisen}
use Rattle.ttx_cycle.specs.declared.faults.TextFault.{TextFault}
use Rattle.ttx_cycle.specs.declared.faults.TextFault.TheVariants.{Read, TooLong, NoMemory}

-- the most bytes of a service definition, a certificate or a counter-run (profile)
abbrev pub most_bytes : ℕ
most_bytes = 4194304

-- all the bytes if there are at most `most`; a fault if there are more
abbrev pub ReadsText : List ℕ → ℕ → Result (Vec ℕ Global) TextFault → Type 0
ReadsText bytes most (Ok text) = (text.items ≡ bytes) × (length bytes ≤ most)
ReadsText bytes most (Err Read) = ⊤
ReadsText bytes most (Err TooLong) = most < length bytes
ReadsText bytes most (Err NoMemory) = ⊤

-- how the count of faults changes with each answer
abbrev pub CountsText : {T : Type 0} → Result T TextFault → ℕ → ℕ → Type 0
CountsText (Ok _) old new = new ≡ old
CountsText (Err Read) old new = HasRisen old new
CountsText (Err TooLong) old new = new ≡ old
CountsText (Err NoMemory) old new = new ≡ old
