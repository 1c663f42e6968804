-- How the named starts of an item are confirmed, run by run, and which of them are late.
--
--   Progress                how many named starts are confirmed, and what else must be remembered of them
--   is_next                 the run is sure and begins at the next named start
--   late_after              the least named start so far whose next one comes too late
--   confirmed, after_runs   the progress after one run, and after a list of runs
--   confirmed_runs          the runs that confirm a start
--   Rising                  named starts rise strictly
use Rattle.std.specs.Prelude.{ℕ, ◌+◌, ◌-◌, ℤ, pos, ◌+ℤ◌, Bool, ◌&&◌, if◌then◌else◌, List, [], ◌∷◌, length, Option, Some, None, nat_lt}
use Rattle.std.specs.Prelude.{◌==◌, slice_index_or, is_none, int_lt, int_le}
use Rattle.ttx_witness.specs.runs.Transmissions.{Run}
pub use Rattle.ttx_certificate.specs.NamedStarts.{Rising}
pub use Rattle.ttx_witness.specs.declared.runs.confirmation.Progress.{Progress}

abbrev pub same_slot : ℤ → ℤ → Bool
same_slot a b = int_le a b && int_le b a

-- whether the run confirms the next named start
abbrev pub is_next : List ℕ → ℕ → Run → Bool
is_next starts next run = nat_lt next (length starts) && same_slot (pos (slice_index_or starts next 0)) run.start && run.sure

-- the least named start so far whose next run ends more than the limit after its owner
abbrev pub late_after : ℕ → List ℕ → Progress → ℤ → Option ℕ
late_after limit starts m end =
    if m.next == 0 then m.late
    else (if is_none m.late && int_lt (m.previous +ℤ pos limit) end then Some (slice_index_or starts (m.next - 1) 0) else m.late)

unfoldable pub confirmed : ℕ → List ℕ → Progress → Run → Progress
confirmed limit starts m run =
    if is_next starts m.next run
    then record {
      next = m.next + 1;
      previous = run.owner;
      first_end = if m.next == 0 then run.end else m.first_end;
      late = late_after limit starts m run.end;
    }
    else m

-- no named start is confirmed yet
abbrev pub not_begun : Progress
not_begun = record { next = 0; previous = pos 0; first_end = pos 0; late = None }

-- the progress after runs, in order
unfoldable pub after_runs : ℕ → List ℕ → Progress → List Run → Progress
after_runs limit starts m [] = m
after_runs limit starts m (r ∷ rs) = after_runs limit starts (confirmed limit starts m r) rs

-- the runs that confirm a start, in order
unfoldable pub confirmed_runs : List ℕ → ℕ → List Run → List Run
confirmed_runs starts next [] = []
confirmed_runs starts next (r ∷ rs) = if is_next starts next r then r ∷ confirmed_runs starts (next + 1) rs else confirmed_runs starts next rs
