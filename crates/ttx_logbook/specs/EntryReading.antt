-- Reading a line of a log, piece by piece.
--
--   marked                  a digest, and the words behind it
--   changed_in, kept_in, event_in   what happened
--   start_in, entry_in      the second line, and another one
use Rattle.std.specs.Prelude.{ℕ, List, codes, Option, Some, None, if◌then◌else◌}
use Rattle.std.specs.Str.{bytes_eq}
use Rattle.ttx_logbook.specs.Cuts.{after, cut}
use Rattle.ttx_logbook.specs.Steps.{◌>>=◌}
use Rattle.ttx_logbook.specs.Numbers.{keyed_number}
use Rattle.ttx_logbook.specs.LogTexts.{StartFields, EventFields, EntryFields, Changed, Kept, Unread, End}

unfoldable pub marked : List ℕ → Option (List ℕ × List ℕ)
marked text = do
  parts ← cut 58 text
  words ← after (codes " ") parts.1
  Some (parts.0, words)

-- what follows the first key, or else the second one
abbrev pub by_key : {A : Type 0} → Option (List ℕ) → (List ℕ → Option A) → Option (List ℕ) → (List ℕ → Option A) → Option A
by_key None f second g = second >>= g
by_key (Some rest) f second g = f rest

unfoldable pub changed_in : List ℕ → Option EventFields
changed_in text = after (codes "changed ") text >>= (λ rest. marked rest >>= (λ p. Some (Changed p.0 p.1)))

unfoldable pub kept_in : List ℕ → Option EventFields
kept_in text =
    by_key (after (codes "kept: ") text) (λ words. Some (Unread words))
    (after (codes "kept ") text) (λ rest. marked rest >>= (λ p. Some (Kept p.0 p.1)))

abbrev pub or_else : Option EventFields → Option EventFields → Option EventFields
or_else None other = other
or_else (Some event) other = Some event

unfoldable pub event_in : List ℕ → Option EventFields
event_in text = if bytes_eq text (codes "end") then Some End else or_else (changed_in text) (kept_in text)

unfoldable pub start_in : List ℕ → Option StartFields
start_in line = do
  field ← keyed_number (codes "field ") 32 line
  parts ← cut 32 field.1
  text ← after (codes "on air ") parts.1
  mark ← marked text
  Some (record { field = field.0; time = parts.0; digest = mark.0; words = mark.1 })

unfoldable pub entry_in : List ℕ → Option EntryFields
entry_in line = do
  field ← keyed_number (codes "field ") 32 line
  parts ← cut 32 field.1
  event ← event_in parts.1
  Some (record { field = field.0; time = parts.0; event = event })
