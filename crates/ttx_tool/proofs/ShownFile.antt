-- What was written of the memory that a receiver then holds was written of some memory.
use Rattle.std.proofs.Common.{◌≡◌, ◌∙◌, ℕ, List, Option, Some, None, Result, Ok, Err, refl, ap, subst}
use Rattle.std.specs.Io.KnownBytes.{Keeps}
use Rattle.std.specs.Prelude.{IfSome, ⊤}
use Rattle.ttx_arguments.specs.declared.orders.Look.{Look}
use Rattle.ttx_files.specs.declared.faults.FilesFault.{FilesFault}
use Rattle.ttx_files.specs.declared.faults.FilesFault.TheVariants.{Cycle, Service, Certificate, Read, TooLong, Write, NoMemory}
use Rattle.ttx_page.specs.Memories.{Memory}
use Rattle.ttx_tool.specs.Receive.{Tuning}
use Rattle.ttx_faults.specs.Reports.{Reports}
use Rattle.ttx_tool.specs.Show.{shown_text, shown_status, IsShownFile, HearsFile, ShowsFile}
use Rattle.ttx_faults.specs.declared.faults.ToolFault.{ToolFault}
use Rattle.ttx_faults.specs.declared.faults.ToolFault.TheVariants.{Files, Plan, Class, Same, Counter, Feed}

pub keeps_same : (known : Option (List ℕ)) → Keeps known known
keeps_same None = tt
keeps_same (Some xs) = refl

module _ (t : Tuning) (holds : List (List ℕ) → Memory) (start count : ℕ) (look : Look) (held new : Memory) (before : Option (List ℕ)) where
  pub shows_nothing : (a : Option (List ℕ)) → IfSome a (λ x. ShowsFile t holds start count look x held before before (Err (Files NoMemory)))
  shows_nothing (Some a) = (new, keeps_same before)
  shows_nothing None = tt

  pub heard_fault : (fault : FilesFault) (x : List ℕ) → HearsFile {U = ⊤} t holds start count x held new (Err fault) →
      ShowsFile t holds start count look x held before before (Err (Files fault))
  heard_fault (Cycle f) x h = (new, (h.0, h.1, keeps_same before))
  heard_fault (Service f) x h = absurd h
  heard_fault (Certificate f) x h = absurd h
  heard_fault (Read which) x h = absurd h
  heard_fault (TooLong which) x h = absurd h
  heard_fault (Write written) x h = absurd h
  heard_fault NoMemory x h = absurd h

  told : (after : Option (List ℕ)) (bytes : List ℕ) → IsShownFile t holds start count bytes held new → (result : Result ℕ ToolFault) →
      Reports (shown_text look new) (shown_status new) before after result → ShowsFile t holds start count look bytes held before after result
  told after bytes is (Ok status) h = (new, (h.0, is, h.1))
  told after bytes is (Err (Files (Write written))) h = (new, (is, h.0, h.1))
  told after bytes is (Err (Files NoMemory)) h = (new, h)
  told after bytes is (Err (Files (Cycle f))) h = absurd h
  told after bytes is (Err (Files (Service f))) h = absurd h
  told after bytes is (Err (Files (Certificate f))) h = absurd h
  told after bytes is (Err (Files (Read which))) h = absurd h
  told after bytes is (Err (Files (TooLong which))) h = absurd h
  told after bytes is (Err (Plan f)) h = absurd h
  told after bytes is (Err Class) h = absurd h
  told after bytes is (Err Same) h = absurd h
  told after bytes is (Err (Counter f)) h = absurd h
  told after bytes is (Err Feed) h = absurd h

  pub shows_of : (after : Option (List ℕ)) (a : Option (List ℕ)) → IfSome a (λ x. IsShownFile t holds start count x held new) → (memory : Memory) →
      memory ≡ new → (line text : List ℕ) → line ≡ text → text ≡ shown_text look memory → (status : ℕ) → status ≡ shown_status memory →
      (result : Result ℕ ToolFault) → Reports line status before after result →
      IfSome a (λ x. ShowsFile t holds start count look x held before after result)
  shows_of after None is memory m line text l e status s result h = tt
  shows_of after (Some a) is memory m line text l e status s result h =
      let same : line ≡ shown_text look new = l ∙ e ∙ ap (λ x. shown_text look x) m in
      let answered : status ≡ shown_status new = s ∙ ap (λ x. shown_status x) m in
      told after a is result (subst (λ x. Reports x (shown_status new) before after result) same
      (subst (λ x. Reports line x before after result) answered h))
